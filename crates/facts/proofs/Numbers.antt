-- Powers of two, and tests of numbers.
use mathlib.Core.Path.{◌≡◌}
use Prim.Native.Nat.{ℕ, zero, suc, ◌^◌, ◌<◌}
use native.Mathlib.Nat.{pow-suc}
use native.Mathlib.Omega.{arith}
use lib.Dec.{ltb}
use borrow.Author.Tests.{ltb-true, lt-ltb}
use Rattle.facts.proofs.Bools.{by_bool, contra}

pub pow_pos : (n : ℕ) → 0 < 2 ^ n
pow_pos zero = omega arith
pow_pos (suc n) = rw (pow-suc 2 n) (omega (arith, pow_pos n))

pub pow_lt : (i n : ℕ) → i < n → 2 ^ i < 2 ^ n
pow_lt i zero h = absurd (omega arith)
pow_lt zero (suc n) h = rw (pow-suc 2 n) (omega (arith, pow_pos n))
pow_lt (suc i) (suc n) h = rw (pow-suc 2 i, pow-suc 2 n) (omega (arith, pow_lt i n (omega arith)))

pub ltb_alike : (a b c d : ℕ) → (a < b → c < d) → (c < d → a < b) → ltb a b ≡ ltb c d
ltb_alike a b c d f g =
    by_bool (ltb a b) (λ e. rw (e, lt-ltb c d (f (ltb-true a b e))))
    (λ e. by_bool (ltb c d) (λ z. contra (lt-ltb a b (g (ltb-true c d z))) e) (λ z. rw (e, z)))
