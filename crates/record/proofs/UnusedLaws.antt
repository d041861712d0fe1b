-- The unused fields of any bytes are their unused bytes.
use mathlib.Core.Path.{◌≡◌, refl, ◌∙◌, ap}
use mathlib.Core.Bool.{Bool, true, false, ◌&&◌, and_assoc, and_comm, and-true}
use mathlib.Core.List.{List, [], ◌∷◌}
use Prim.Native.Nat.{ℕ, zero, suc, ◌+◌, ◌*◌}
use native.Mathlib.Numerals.{towards_suc}
use native.Mathlib.Nat.{add_comm}
use native.Mathlib.Omega.{arith}
use borrow.Author.Tests.{lt-ltb}
use lib.Dec.{ltb, eqb, eqb-suc-zero}
use lib.ListN.{drop, replicate}
use lib.Seq.{drop-nil}
use Rattle.layout.specs.declared.Mark.{Mark}
use Rattle.layout.specs.Fields.{byte, word, head_of, list_of, call_of}
use Rattle.lists.specs.Lists.{all_zero}
use Rattle.lists.proofs.ZeroLaws.{low_high}
use Rattle.record.specs.Refusals.{Used, or_zero, clean_names, clean_start}
use Rattle.record.specs.Stretches.{used_names, used_start, used_bytes}
use Rattle.record.specs.Promises.{StretchesAreTheFields}
use Rattle.record.proofs.StretchLaws.{used_or_zero, zero_in_law}

high_low : (x y : ℕ) → eqb (x * 256 + y) 0 ≡ (eqb x 0 && eqb y 0)
high_low x y = ap (λ (n : ℕ). eqb n 0) (add_comm (x * 256) y) ∙ low_high y x ∙ and_comm (eqb y 0) (eqb x 0)

-- A time is used or zero as its four bytes are.
time_bytes : (s : List ℕ) (i : ℕ) (used : Bool) → or_zero used (word s i) ≡ used_or_zero s i (replicate 4 used)
unfolding used_or_zero
time_bytes s i true = refl
time_bytes s i false = simp (high_low, and_assoc, and-true, towards_suc)

-- The list's bytes, from its length on.
past_length : (used : Bool) (n a b c d : ℕ)
    → (or_zero used n && all_zero (drop n (a ∷ b ∷ c ∷ d ∷ [])))
    ≡ (or_zero used n && (or_zero (used && ltb 0 n) a && (or_zero (used && ltb 1 n) b && (or_zero (used && ltb 2 n) c && or_zero (used && ltb 3 n) d))))
unfolding all_zero
past_length false zero a b c d = simp (and-true)
past_length false (suc n) a b c d = rw (eqb-suc-zero n)
past_length true zero a b c d = simp (and-true)
past_length true (suc zero) a b c d = simp (and-true)
past_length true (suc (suc zero)) a b c d = simp (and-true)
past_length true (suc (suc (suc zero))) a b c d = simp (and-true)
past_length true (suc (suc (suc (suc n)))) a b c d =
    let long : ℕ = suc (suc (suc (suc n))) in
    rw (drop-nil n, lt-ltb 0 long (omega arith), lt-ltb 1 long (omega arith), lt-ltb 2 long (omega arith), lt-ltb 3 long (omega arith))

module _ (m : Mark) (s : List ℕ) (u : Used) where
  names_bytes : clean_names u (call_of m s) ≡ used_or_zero s 2 (used_names u (byte s 4))
  unfolding clean_names head_of list_of used_or_zero
  names_bytes = simp (and_assoc, and-true, past_length)

  start_bytes_law : clean_start u (head_of m s) ≡ (or_zero u.kind (byte s 9) && used_or_zero s 10 (used_start u))
  unfolding clean_start head_of used_or_zero
  start_bytes_law = simp (time_bytes, and_assoc, and-true)

pub stretches_are_the_fields : StretchesAreTheFields
unfolding used_bytes used_or_zero
stretches_are_the_fields u m s =
    rw (names_bytes m s u, start_bytes_law m s u, zero_in_law s 0 (used_bytes u (byte s 4))) (simp (and_assoc, and-true))
