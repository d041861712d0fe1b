-- The promises of specs/Promises.antt.
use mathlib.Core.Path.{◌≡◌, refl, sym, ◌∙◌}
use mathlib.Core.Bool.{true}
use mathlib.Core.List.{List, [], ◌∷◌}
use Prim.Native.Nat.{ℕ, zero, suc, ◌+◌, ◌-◌, ◌<◌}
use native.Mathlib.Omega.{arith}
use borrow.Author.Tests.{eqb-true, eq-eqb}
use lib.Dec.{eqb}
use lib.ListN.{take, drop, get_or}
use lib.Seq.{get_or-drop}
use Rattle.facts.proofs.Bools.{both}
use Rattle.lists.specs.Lists.{joined, all_zero}
use Rattle.lists.specs.Promises.{JoinedIsZero, StretchIsZero}
use Rattle.lists.proofs.ZeroLaws.{joined_zero}

pub joined_is_zero : JoinedIsZero
joined_is_zero l = (λ e. sym (joined_zero l) ∙ eq-eqb (joined l) 0 e, λ e. eqb-true (joined l) 0 (joined_zero l ∙ e))

-- The first n of a list are 0.
front_zero : (n : ℕ) (l : List ℕ) → all_zero (take n l) ≡ true → (i : ℕ) → i < n → get_or l i 0 ≡ 0
unfolding all_zero
front_zero zero l e i h = absurd (omega arith)
front_zero (suc n) [] e i h = refl
front_zero (suc n) (x ∷ l) e zero h = eqb-true x 0 (both (eqb x 0) (all_zero (take n l)) e).0
front_zero (suc n) (x ∷ l) e (suc i) h = front_zero n l (both (eqb x 0) (all_zero (take n l)) e).1 i (omega arith)

zero_front : (n : ℕ) (l : List ℕ) → ((i : ℕ) → i < n → get_or l i 0 ≡ 0) → all_zero (take n l) ≡ true
unfolding all_zero
zero_front zero l f = refl
zero_front (suc n) [] f = refl
zero_front (suc n) (x ∷ l) f = rw (eq-eqb x 0 (f 0 (omega arith))) (zero_front n l (λ i h. f (suc i) (omega arith)))

pub stretch_is_zero : StretchIsZero
stretch_is_zero s a n = rw length_of (to, from) where
  length_of : a + n - a ≡ n
  length_of = omega arith

  to : all_zero (take n (drop a s)) ≡ true → (i : ℕ) → i < n → get_or s (a + i) 0 ≡ 0
  to e i h = sym (get_or-drop a s i 0) ∙ front_zero n (drop a s) e i h

  from : ((i : ℕ) → i < n → get_or s (a + i) 0 ≡ 0) → all_zero (take n (drop a s)) ≡ true
  from f = zero_front n (drop a s) (λ i h. get_or-drop a s i 0 ∙ f i h)
