-- Cases on tests, and what a test of two parts says of each.
use mathlib.Core.Path.{◌≡◌, refl}
use mathlib.Core.Logic.{◌≢◌}
use mathlib.Core.Bool.{Bool, true, false, not, ◌&&◌, ◌||◌, false≢true, and-true, and-false, or-true, or-false}
use Prim.Native.Nat.{ℕ}
use native.Mathlib.Decide.{ℕ_discrete}

-- A test can't hold and not hold.
pub contra {ℓ} : {X : Type ℓ} {b : Bool} → b ≡ true → b ≡ false → X
contra p q = absurd (false≢true cc)

pub both : (a b : Bool) → (a && b) ≡ true → (a ≡ true) × (b ≡ true)
both true b e = (refl, e)
both false b e = contra e refl

-- What a constant part says of a test.
pub ruleset tests = (and-true, and-false, or-true, or-false)

-- By cases on a test, with the equation.
pub by_bool {ℓ} : {X : Type ℓ} (b : Bool) → (b ≡ true → X) → (b ≡ false → X) → X
by_bool true f g = f refl
by_bool false f g = g refl

-- By cases on an equality of numbers.
pub by_eq {ℓ} : {X : Type ℓ} (a b : ℕ) → (a ≡ b → X) → (a ≢ b → X) → X
by_eq a b f g = elim (ℕ_discrete a b) [ yes e ↦ f e | no h ↦ g h ]

pub and_both : {a b : Bool} → a ≡ true → b ≡ true → (a && b) ≡ true
and_both p q = rw (p, q)

pub not_of_false : (b : Bool) → b ≡ false → not b ≡ true
not_of_false true e = contra refl e
not_of_false false e = refl

-- An implication written as a test.
pub or_then : (a b : Bool) → (not a || b) ≡ true → a ≡ true → b ≡ true
or_then true b e z = e
or_then false b e z = contra z refl

pub then_or : (a b : Bool) → (a ≡ true → b ≡ true) → (not a || b) ≡ true
then_or true b f = f refl
then_or false b f = refl

pub or_right : (a b : Bool) → b ≡ true → (a || b) ≡ true
or_right true b e = refl
or_right false b e = e

pub neither : (a b : Bool) → (a || b) ≡ false → (a ≡ false) × (b ≡ false)
neither true b e = contra refl e
neither false b e = (refl, e)
