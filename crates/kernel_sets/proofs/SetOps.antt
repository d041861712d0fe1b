-- Sets that are taken together, task by task.
use mathlib.Core.Path.{◌≡◌, refl}
use mathlib.Core.Bool.{not, ◌&&◌, ◌||◌}
use Prim.Native.Nat.{ℕ, zero, suc, ◌+◌, ◌-◌, ◌/◌, ◌^◌, ◌≤◌, ◌<◌, min, max}
use native.Mathlib.Nat.{not-suc-le-zero, pow-suc}
use native.Mathlib.Omega.{arith}
use lib.Bits.{bit_and, bit_or, and_shr, and_step}
use lib.Dec.{eqb}
use Rattle.machine.specs.State.{most_tasks}
use Rattle.machine.specs.Sets.{has, holds}
use Rattle.machine.proofs.SetLaws.{has_zero, has_suc, has_le, has_or}

has_and : (i a b : ℕ) → has i (bit_and a b) ≡ min (has i a) (has i b)
unfolding has
has_and i a b = rw (and_shr a b i, and_step (a / 2 ^ i) (b / 2 ^ i)) (omega arith)

-- By cases on two digits.
two : (P : ℕ → ℕ → Type 0) → P 0 0 → P 0 1 → P 1 0 → P 1 1 → (x y : ℕ) → x ≤ 1 → y ≤ 1 → P x y
two P a b c d zero zero p q = a
two P a b c d zero (suc zero) p q = b
two P a b c d (suc zero) zero p q = c
two P a b c d (suc zero) (suc zero) p q = d
two P a b c d (suc (suc x)) y p q = absurd (omega arith)
two P a b c d zero (suc (suc y)) p q = absurd (omega arith)
two P a b c d (suc zero) (suc (suc y)) p q = absurd (omega arith)

pub holds_and : (i a b : ℕ) → holds i (bit_and a b) ≡ (holds i a && holds i b)
holds_and i a b = rw (has_and i a b) (two (λ x y. eqb (min x y) 1 ≡ (eqb x 1 && eqb y 1)) refl refl refl refl (has i a) (has i b) (has_le i a) (has_le i b))

pub holds_or : (i a b : ℕ) → holds i (bit_or a b) ≡ (holds i a || holds i b)
holds_or i a b = rw (has_or i a b) (two (λ x y. eqb (max x y) 1 ≡ (eqb x 1 || eqb y 1)) refl refl refl refl (has i a) (has i b) (has_le i a) (has_le i b))

-- The other tasks, of m.
has_not : (m i a : ℕ) → i < m → a < 2 ^ m → has i (2 ^ m - 1 - a) + has i a ≡ 1
has_not zero i a l h = absurd (not-suc-le-zero l)
has_not (suc m) zero a l h = omega (arith, has_zero (2 ^ suc m - 1 - a), has_zero a, pow-suc 2 m)
has_not (suc m) (suc i) a l h =
    let half : (2 ^ suc m - 1 - a) / 2 ≡ 2 ^ m - 1 - a / 2 = omega (arith, pow-suc 2 m) in
    let e = has_not m i (a / 2) (omega arith) (omega (arith, pow-suc 2 m)) in
    omega (arith, rw half at (has_suc i (2 ^ suc m - 1 - a)), has_suc i a, e)

pub holds_not : (i a : ℕ) → i < most_tasks → a < 2 ^ most_tasks → holds i (4294967295 - a) ≡ not (holds i a)
holds_not i a l h = go (has i (4294967295 - a)) (has i a) (has_not most_tasks i a l h)
  where
    go : (x y : ℕ) → x + y ≡ 1 → eqb x 1 ≡ not (eqb y 1)
    go zero zero e = absurd (omega arith)
    go zero (suc zero) e = refl
    go zero (suc (suc y)) e = absurd (omega arith)
    go (suc zero) zero e = refl
    go (suc zero) (suc y) e = absurd (omega arith)
    go (suc (suc x)) y e = absurd (omega arith)
