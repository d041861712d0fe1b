-- Rows of the same record, and logs of lists joined.
use mathlib.Core.Path.{◌≡◌, refl, sym, ap}
use mathlib.Core.List.{List, [], ◌∷◌, ◌++◌, map}
use Prim.Native.Nat.{ℕ, zero, suc, ◌+◌}
use lib.ListN.{replicate-append-replicate}
use Rattle.machine.specs.declared.State.{State}
use Rattle.machine.specs.Step.{step}
use Rattle.machine.specs.Log.{Entry, final, log}
use Rattle.machine.specs.Scripts.{row}

module _ {A : Type 0} where
  -- A row with one of its elements taken out.
  pub row_split : (m n : ℕ) (a : A) → row (m + suc n) a ≡ row m a ++ (a ∷ row n a)
  unfolding row
  row_split m n a = sym (replicate-append-replicate m (suc n) a)

  pub map_row : {B : Type 0} (f : A → B) (n : ℕ) (a : A) → map f (row n a) ≡ row n (f a)
  unfolding row
  map_row f zero a = refl
  map_row {B} f (suc n) a = ap {B = List B} (λ r. f a ∷ r) (map_row f n a)

module _ (day : ℕ) where
  pub log_append : (k : State) (a b : List (List ℕ)) → log day k (a ++ b) ≡ log day k a ++ log day (final day k a) b
  unfolding log final
  log_append k [] b = refl
  log_append k (r ∷ a) b =
      ap {B = List Entry} (λ l. record { bytes = r; answer = (step day k r).answer } ∷ l) (log_append (step day k r).state a b)

  pub final_append : (k : State) (a b : List (List ℕ)) → final day k (a ++ b) ≡ final day (final day k a) b
  unfolding final
  final_append k [] b = refl
  final_append k (r ∷ a) b = final_append (step day k r).state a b
