-- Loops through a list of numbers: what is left of the list decides.
use mathlib.Core.Path.{◌≡◌, refl, ◌∙◌}
use mathlib.Core.Logic.{◌≢◌}
use mathlib.Core.Bool.{Bool, true, false, not}
use mathlib.Core.List.{List, [], ◌∷◌}
use Prim.Native.Nat.{ℕ, zero, suc, ◌+◌, ◌<◌, ◌≤◌}
use native.Mathlib.Omega.{arith}
use lib.Dec.{ltb}
use lib.ListN.{length, get_or, drop, drop_of_length-le}
use borrow.Author.Tests.{ltb-true, not-true, not-false}
use Rattle.lists.specs.Lists.{distinct, every}
use Rattle.lock.specs.declared.Locks.{Locks}
use Rattle.lock.specs.Locks.{most_locks, for_each}
use Rattle.lists.proofs.SeenLaws.{Seen, left_next, seen_fails, seen_passes}
use Rattle.lists.proofs.EveryLaws.{distinct_parts, every_parts, every_same}

-- The numbers before j have changed r₀ to r, and each of the others still passes the test.
pub record Changed (op : Locks → ℕ → Locks) (test : Locks → ℕ → Bool) (l : List ℕ) (r₀ r : Locks) (j : ℕ) : Type 0 where
  pub once : distinct (drop j l) ≡ true
  pub ready : every (test r) (drop j l) ≡ true
  pub rest : for_each op r₀ l ≡ for_each op r (drop j l)

every_drop : (f : ℕ → Bool) (j : ℕ) (l : List ℕ) → every f l ≡ true → every f (drop j l) ≡ true
unfolding every
every_drop f zero l e = e
every_drop f (suc j) [] e = refl
every_drop f (suc j) (x ∷ l) e = every_drop f j l (every_parts f x l e).1

-- Each number of a list is that of a lock.
pub number_below : (l : List ℕ) (j : ℕ) → every (λ x. ltb x most_locks) l ≡ true → j < length l → get_or l j 0 < most_locks
number_below l j below less =
    ltb-true _ _ (every_parts (λ x. ltb x most_locks) (get_or l j 0) _ (rw (left_next l j less) at (every_drop (λ x. ltb x most_locks) j l below))).0

-- A number tested: b is what the test said.
module _ {f : ℕ → Bool} {l : List ℕ} {j : ℕ} {b : Bool} (p : Seen f l j) (less : j < length l) (said : b ≡ f (get_or l j 0)) where
  pub fails_here : not b ≡ true → false ≡ every f l
  fails_here e = seen_fails p less (rw (← said) (not-true b e))

  pub passes_here : not b ≡ false → Seen f l (j + 1)
  passes_here e = seen_passes p less (rw (← said) (not-false b e))

-- A number changed.
module _ {op : Locks → ℕ → Locks} {test : Locks → ℕ → Bool} {l : List ℕ} {r₀ r : Locks} {j : ℕ} (p : Changed op test l r₀ r j) where
  pub ready_here : j < length l → test r (get_or l j 0) ≡ true
  ready_here less = (every_parts (test r) _ _ (rw (left_next l j less) at p.ready)).0

  pub changed_here : j < length l → ((r : Locks) (x y : ℕ) → y ≢ x → test (op r x) y ≡ test r y) → Changed op test l r₀ (op r (get_or l j 0)) (j + 1)
  unfolding for_each
  changed_here less stays =
      let d = distinct_parts _ _ (rw (left_next l j less) at p.once) in
      let t = every_parts (test r) _ _ (rw (left_next l j less) at p.ready) in
      record {
        once = d.1;
        ready = every_same _ _ _ _ d.0 (stays r (get_or l j 0)) ∙ t.1;
        rest = p.rest ∙ rw (left_next l j less);
      }

  pub all_changed : length l ≤ j → r ≡ for_each op r₀ l
  unfolding for_each
  all_changed past = rw (p.rest, drop_of_length-le l past)
