-- A change of a list is one of each number that it names.
use mathlib.Core.Path.{◌≡◌, refl, sym, ◌∙◌}
use mathlib.Core.Bool.{true, false, not}
use mathlib.Core.List.{List, [], ◌∷◌}
use Prim.Native.Nat.{ℕ}
use borrow.Author.Tests.{ne_eqb, not-true}
use Rattle.lists.specs.Lists.{names, distinct}
use Rattle.lock.specs.declared.Locks.{Locks}
use Rattle.lock.specs.Locks.{move_one, for_each}
use Rattle.lock.specs.Promises.{SameAt, Each, ListIsEach}
use Rattle.facts.proofs.Bools.{by_eq, contra, both}
use Rattle.lists.proofs.EveryLaws.{names_head, names_same}
use Rattle.lock.proofs.Changes.{Local, move_local}

same_trans : (r s t : Locks) (x : ℕ) → SameAt r s x → SameAt s t x → SameAt r t x
same_trans r s t x p q = record { value = p.value ∙ q.value; bolt = p.bolt ∙ q.bolt }

module _ (f : Locks → ℕ → Locks) (local : Local f) where
  others : (l : List ℕ) (r : Locks) (x : ℕ) → names l x ≡ false → SameAt (for_each f r l) r x
  unfolding for_each
  others [] r x n = record { value = refl; bolt = refl }
  others (y ∷ l) r x n =
      by_eq y x (λ q. contra (names_same y l) (rw (← q) at n))
      (λ q. same_trans _ (f r y) r x (others l (f r y) x (rw (names_head y x l q) at n)) (local.elsewhere r y x (λ z. q (sym z))))

  named : (l : List ℕ) (r : Locks) → distinct l ≡ true → (x : ℕ) → names l x ≡ true → SameAt (for_each f r l) (f r x) x
  unfolding for_each distinct names
  named [] r d x n = contra n refl
  named (y ∷ l) r d x n =
      let p = both (not (names l y)) (distinct l) d in
      by_eq y x
      (λ q. rw (← q) (others l (f r y) y (not-true (names l y) p.0)))
      (λ q. same_trans _ (f (f r y) x) (f r x) x (named l (f r y) p.1 x (rw (ne_eqb y x q) at n))
      (rw (local.swap r y x q) (local.elsewhere (f r x) y x (λ z. q (sym z)))))

  pub each_of : (r : Locks) (l : List ℕ) → distinct l ≡ true → Each f r l
  each_of r l d = record { named = named l r d; others = others l r }

pub list_is_each : ListIsEach
list_is_each way w = each_of (move_one way w) (move_local way w)
