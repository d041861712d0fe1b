-- What a change of a list means for each number. Proved in proofs/Each.antt.
use Rattle.std.specs.Prelude.{◌≡◌, true, false, List, ℕ}
use Rattle.lists.specs.Lists.{names, distinct}
use Rattle.lock.specs.declared.Wait.{Wait}
use Rattle.lock.specs.declared.Way.{Way}
use Rattle.lock.specs.declared.Locks.{Locks}
use Rattle.lock.specs.Locks.{value_at, bolt_at, move_one, for_each}

-- Two states of the locks have the same at number x.
pub record SameAt (r s : Locks) (x : ℕ) : Type 0 where
  pub value : value_at r x ≡ value_at s x
  pub bolt : bolt_at r x ≡ bolt_at s x

-- A change for each number of a list changes what it names, each as if it stood alone, and nothing else.
pub record Each (f : Locks → ℕ → Locks) (r : Locks) (l : List ℕ) : Type 0 where
  pub named : (x : ℕ) → names l x ≡ true → SameAt (for_each f r l) (f r x) x
  pub others : (x : ℕ) → names l x ≡ false → SameAt (for_each f r l) r x

-- A list that names no number twice is taken and given back so.
abbrev pub ListIsEach : Type 0
ListIsEach = (way : Way) (w : Wait) (r : Locks) (l : List ℕ) → distinct l ≡ true → Each (move_one way w) r l
