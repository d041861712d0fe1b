-- Laws of the sets of tasks.
use mathlib.Core.Path.{◌≡◌, refl, sym, ap, ◌∙◌}
use mathlib.Core.Logic.{◌≢◌}
use mathlib.Core.Bool.{Bool, true, false}
use mathlib.Core.List.{List, [], ◌∷◌}
use Prim.Native.Nat.{ℕ, zero, suc, ◌+◌, ◌*◌, ◌/◌, ◌%◌, ◌^◌, ◌≤◌, ◌<◌, max}
use native.Mathlib.Nat.{div-one, div-div-eq-div-mul, pow-suc, mul_comm, zero-div}
use native.Mathlib.Omega.{arith}
use lib.Bits.{bit_or, or_shr, or_step, or_lt}
use lib.ListN.{get_or, length}
use Rattle.facts.proofs.Numbers.{pow_pos, pow_lt}
use Rattle.lock.specs.Locks.{bit}
use Rattle.task.specs.Turns.{unmarked}
use Rattle.task.specs.declared.Task.{Task}
use Rattle.machine.specs.Sets.{Set, Due, Started, Ended, Lost, Granted, has, only, put, set_of, mark, members, each_set, no_sets, with_granted}
use Rattle.machine.specs.declared.Sets.{Sets}

-- ---- the five

pub members_each : (x : Set) (f : Set → ℕ) → members x (each_set f) ≡ f x
members_each Due f = refl
members_each Started f = refl
members_each Ended f = refl
members_each Lost f = refl
members_each Granted f = refl

pub no_members : (x : Set) → members x no_sets ≡ 0
no_members x = members_each x (λ y. 0)

-- What one rule makes of each, another one makes.
pub each_same : (f g : Set → ℕ) → ((x : Set) → f x ≡ g x) → each_set f ≡ each_set g
each_same f g e = rw (e Due, e Started, e Ended, e Lost, e Granted)

-- What holds of each set, and of g, holds of each with g for the grants.
pub each_regranted : (P : ℕ → Type 0) (s : Sets) (g : ℕ) → ((x : Set) → P (members x s)) → P g → (x : Set) → P (members x (with_granted g s))
each_regranted P s g h p Due = h Due
each_regranted P s g h p Started = h Started
each_regranted P s g h p Ended = h Ended
each_regranted P s g h p Lost = h Lost
each_regranted P s g h p Granted = p

-- A task without marks is in no set.
pub unmarked_none : (x : Set) (t : Task) → mark x (unmarked t).marks ≡ false
unmarked_none Due t = refl
unmarked_none Started t = refl
unmarked_none Ended t = refl
unmarked_none Lost t = refl
unmarked_none Granted t = refl

-- ---- one set

pub has_zero : (n : ℕ) → has 0 n ≡ n % 2
unfolding has
has_zero n = rw div-one

pub has_suc : (i n : ℕ) → has (suc i) n ≡ has i (n / 2)
unfolding has
has_suc i n = ap (λ (x : ℕ). n / x % 2) (pow-suc 2 i ∙ mul_comm (2 ^ i) 2) ∙ ap (λ (x : ℕ). x % 2) (sym (div-div-eq-div-mul n 2 (2 ^ i)))

pub has_empty : (i : ℕ) → has i 0 ≡ 0
unfolding has
has_empty i = rw zero-div

pub has_le : (i n : ℕ) → has i n ≤ 1
unfolding has
has_le i n = omega arith

pub has_or : (i a b : ℕ) → has i (bit_or a b) ≡ max (has i a) (has i b)
unfolding has
has_or i a b = rw (or_shr a b i, or_step (a / 2 ^ i) (b / 2 ^ i)) (omega arith)

pub has_one : (i : ℕ) → has i (2 ^ i) ≡ 1
has_one zero = has_zero 1
has_one (suc i) = has_suc i (2 ^ suc i) ∙ ap (has i) (rw pow-suc (omega arith)) ∙ has_one i

pub has_other : (i j : ℕ) → j ≢ i → has j (2 ^ i) ≡ 0
has_other zero zero h = absurd (h refl)
has_other zero (suc j) h = has_suc j 1 ∙ has_empty j
has_other (suc i) zero h = has_zero (2 ^ suc i) ∙ rw pow-suc (omega arith)
has_other (suc i) (suc j) h = has_suc j (2 ^ suc i) ∙ ap (has j) (rw pow-suc (omega arith)) ∙ has_other i j (λ e. h (ap suc e))

pub has_put : (i n : ℕ) → has i (put i n) ≡ 1
has_put i n = rw (has_or, has_one i) (omega (arith, has_le i n))

pub has_put_other : (i j n : ℕ) → j ≢ i → has j (put i n) ≡ has j n
has_put_other i j n h = rw (has_or, has_other i j h) (omega arith)

pub has_only : (i : ℕ) (b : Bool) → has i (only i b) ≡ bit b
has_only i true = has_one i
has_only i false = has_empty i

pub has_only_other : (i j : ℕ) (b : Bool) → j ≢ i → has j (only i b) ≡ 0
has_only_other i j true h = has_other i j h
has_only_other i j false h = has_empty j

set_of_low : (b : Bool) (n : ℕ) → (bit b + 2 * n) % 2 ≡ bit b
set_of_low true n = omega arith
set_of_low false n = omega arith

set_of_high : (b : Bool) (n : ℕ) → (bit b + 2 * n) / 2 ≡ n
set_of_high true n = omega arith
set_of_high false n = omega arith

pub has_set_of : (i : ℕ) (bs : List Bool) → has i (set_of bs) ≡ bit (get_or bs i false)
unfolding set_of
has_set_of i [] = has_empty i
has_set_of zero (b ∷ bs) = has_zero (set_of (b ∷ bs)) ∙ set_of_low b (set_of bs)
has_set_of (suc i) (b ∷ bs) = has_suc i (set_of (b ∷ bs)) ∙ ap (has i) (set_of_high b (set_of bs)) ∙ has_set_of i bs

-- ---- sets of the first n tasks

pub only_lt : (n i : ℕ) (b : Bool) → i < n → only i b < 2 ^ n
only_lt n i true h = pow_lt i n h
only_lt n i false h = pow_pos n

pub put_lt : (n i s : ℕ) → i < n → s < 2 ^ n → put i s < 2 ^ n
put_lt n i s h l = or_lt n s (2 ^ i) l (pow_lt i n h)

pub set_of_lt : (bs : List Bool) → set_of bs < 2 ^ length bs
unfolding set_of
set_of_lt [] = omega arith
set_of_lt (true ∷ bs) = rw (pow-suc 2 (length bs)) (omega (arith, set_of_lt bs))
set_of_lt (false ∷ bs) = rw (pow-suc 2 (length bs)) (omega (arith, set_of_lt bs))
