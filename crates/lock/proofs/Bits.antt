-- A truth value as 0 or 1.
use mathlib.Core.Path.{◌≡◌, refl}
use mathlib.Core.Bool.{Bool, true, false, ◌&&◌}
use mathlib.Core.List.{List, [], ◌∷◌}
use Prim.Native.Nat.{ℕ, ◌+◌, ◌≤◌}
use native.Mathlib.Omega.{arith}
use lib.Dec.{eqb}
use borrow.Author.Tests.{eq-eqb, ne_eqb}
use Rattle.lists.specs.Lists.{names}
use Rattle.lock.specs.Locks.{bit}
use Rattle.facts.proofs.Bools.{by_eq}
use Rattle.lists.proofs.EveryLaws.{names_head, names_same}

pub bit_le : (b : Bool) → bit b ≤ 1
bit_le true = omega arith
bit_le false = omega arith

pub bit_one : (b : Bool) → bit b ≡ 1 → b ≡ true
bit_one true e = refl
bit_one false e = absurd (omega arith)

pub eqb_bit : (b : Bool) → eqb (bit b) 1 ≡ b
eqb_bit true = refl
eqb_bit false = refl

-- A number counts once in a list that names it once.
pub count_split : (b : Bool) (x y : ℕ) (l : List ℕ) → names l x ≡ false → bit (b && eqb x y) + bit (b && names l y) ≡ bit (b && names (x ∷ l) y)
count_split false x y l h = refl
count_split true x y l h =
    by_eq x y (λ q. rw (← q, h, names_same x l, eq-eqb x x refl))
    (λ q. rw (names_head x y l q, ne_eqb x y q) (omega arith))

pub names_none : (b : Bool) (y : ℕ) → bit (b && names [] y) ≡ 0
unfolding names
names_none true y = refl
names_none false y = refl
