-- Sets that a scan builds: task by task, those that pass a test.
use mathlib.Core.Path.{◌≡◌, refl, ◌∙◌}
use mathlib.Core.Logic.{◌≢◌}
use mathlib.Core.Bool.{Bool, true, false, not, beq}
use Prim.Native.Nat.{ℕ, zero, suc, ◌+◌, ◌≤◌, ◌<◌, ◌/◌, ◌%◌, ◌^◌}
use native.Mathlib.Nat.{not-suc-le-zero, mod-lt, mul-add-mod_self_right}
use native.Mathlib.Omega.{arith}
use lib.Dec.{eqb}
use lib.Bits.{bit_xor, differ, xor_shr, xor_step}
use Rattle.facts.proofs.Bools.{by_bool, by_eq}
use Rattle.machine.specs.Sets.{has, holds, put}
use Rattle.machine.proofs.SetLaws.{has_empty, has_le, has_put, has_put_other}
use Rattle.kernel_sets.specs.Puts.{put_if}
use Rattle.kernel_sets.specs.Standing.{turned_if}

-- The set s has those of the first i tasks that pass f, and no other.
pub record Till (f : ℕ → Bool) (i s : ℕ) : Type 0 where
  pub below : (j : ℕ) → j < i → holds j s ≡ f j
  pub above : (j : ℕ) → i ≤ j → has j s ≡ 0

pub till_none : (f : ℕ → Bool) → Till f 0 0
till_none f = record { below = λ j l. absurd (not-suc-le-zero l); above = λ j l. has_empty j }

module _ (f : ℕ → Bool) {i s : ℕ} (t : Till f i s) where
  till_skip : f i ≡ false → Till f (i + 1) s
  till_skip e =
      record {
        below = λ j l. by_eq j i (λ q. rw (q, t.above i (omega arith), e)) (λ q. t.below j (omega arith));
        above = λ j l. t.above j (omega arith);
      }

  pub till_still : f i ≡ false → {r : ℕ} → r ≡ s → Till f (i + 1) r
  till_still e q = rw q (till_skip e)

  till_put : f i ≡ true → Till f (i + 1) (put i s)
  till_put e =
      record {
        below = λ j l. by_eq j i (λ q. rw (q, has_put i s, e)) (λ q. rw (has_put_other i j s q) (t.below j (omega arith)));
        above = λ j l. rw (has_put_other i j s (λ q. omega arith)) (t.above j (omega arith));
      }

  pub till_more : {b : Bool} {r : ℕ} → b ≡ f i → r ≡ put_if i b s → Till f (i + 1) r
  till_more e q = by_bool (f i) (λ z. rw (q, e, z) (till_put z)) (λ z. rw (q, e, z) (till_skip z))

-- Task i is put into a set that it wasn't in, or not.
pub put_here : (i : ℕ) (b : Bool) (s : ℕ) → has i s ≡ 0 → holds i (put_if i b s) ≡ b
put_here i true s e = rw (has_put i s)
put_here i false s e = rw e

pub put_other : (i j : ℕ) (b : Bool) (s : ℕ) → j ≢ i → holds j (put_if i b s) ≡ holds j s
put_other i j true s h = rw (has_put_other i j s h)
put_other i j false s h = refl

-- ---- sets that are taken together

pub has_xor : (i a b : ℕ) → has i (bit_xor a b) ≡ differ (has i a) (has i b)
unfolding has
has_xor i a b = rw (xor_shr a b i, xor_step (a / 2 ^ i) (b / 2 ^ i)) (mul-add-mod_self_right _ 2 _ ∙ small (a / 2 ^ i % 2) (b / 2 ^ i % 2) (mod-lt (a / 2 ^ i) (omega arith)) (mod-lt (b / 2 ^ i) (omega arith)))
  where
    small : (x y : ℕ) → x < 2 → y < 2 → differ x y % 2 ≡ differ x y
    small zero zero p q = refl
    small zero (suc zero) p q = refl
    small (suc zero) zero p q = refl
    small (suc zero) (suc zero) p q = refl
    small (suc (suc x)) y p q = absurd (omega arith)
    small zero (suc (suc y)) p q = absurd (omega arith)
    small (suc zero) (suc (suc y)) p q = absurd (omega arith)

-- Of those that have turned it is the other way round.
pub holds_xor : (i a b : ℕ) → holds i (bit_xor a b) ≡ turned_if (holds i b) (holds i a)
holds_xor i a b = rw (has_xor i a b) (go (has i a) (has i b) (has_le i a) (has_le i b))
  where
    go : (x y : ℕ) → x ≤ 1 → y ≤ 1 → eqb (differ x y) 1 ≡ turned_if (eqb y 1) (eqb x 1)
    go zero zero p q = refl
    go zero (suc zero) p q = refl
    go (suc zero) zero p q = refl
    go (suc zero) (suc zero) p q = refl
    go (suc (suc x)) y p q = absurd (omega arith)
    go zero (suc (suc y)) p q = absurd (omega arith)
    go (suc zero) (suc (suc y)) p q = absurd (omega arith)

-- Two tests that differ.
pub unlike : (a b : Bool) → not (beq a b) ≡ turned_if a b
unlike true true = refl
unlike true false = refl
unlike false true = refl
unlike false false = refl
