-- The records of a script, one after the other.
use mathlib.Core.Path.{◌≡◌, refl, sym, ◌∙◌, ap}
use mathlib.Core.List.{List, [], ◌∷◌}
use Prim.Native.Nat.{ℕ, zero, suc, ◌+◌, ◌-◌, ◌≤◌, ◌<◌, min}
use native.Mathlib.Nat.{not-suc-le-zero}
use native.Mathlib.Omega.{arith}
use lib.ListN.{length, take, drop, length-drop, drop_of_length-le}
use lib.Seq.{take_all, drop-drop}
use Rattle.layout.specs.Fields.{record_length}
use Rattle.facts.proofs.Bools.{by_bool}
use lib.Dec.{leb}
use borrow.Author.Tests.{leb-true, leb-false}
use Rattle.script.specs.Records.{cut, records}

-- More splits than bytes change nothing.
enough : (m n : ℕ) (s : List ℕ) → length s ≤ m → length s ≤ n → cut m s ≡ cut n s
unfolding cut
enough zero zero s p q = refl
enough zero (suc n) [] p q = refl
enough zero (suc n) (b ∷ s) p q = absurd (not-suc-le-zero p)
enough (suc m) zero [] p q = refl
enough (suc m) zero (b ∷ s) p q = absurd (not-suc-le-zero q)
enough (suc m) (suc n) [] p q = refl
enough (suc m) (suc n) (b ∷ s) p q =
    let l = length-drop record_length (b ∷ s) in
    ap (λ (l : List (List ℕ)). take record_length (b ∷ s) ∷ l) (enough m n (drop record_length (b ∷ s)) (omega arith) (omega arith))

pub no_records : records [] ≡ []
unfolding records cut
no_records = refl

pub first_record : (s : List ℕ) → 0 < length s → records s ≡ take record_length s ∷ records (drop record_length s)
unfolding records cut
first_record [] h = absurd (omega arith)
first_record (b ∷ s) h =
    let l = length-drop record_length (b ∷ s) in
    ap (λ (l : List (List ℕ)). take record_length (b ∷ s) ∷ l) (enough (length s) (length (drop record_length (b ∷ s))) (drop record_length (b ∷ s)) (omega arith) (omega arith))

-- Where there are no records there are no bytes.
pub none_left : (s : List ℕ) → records s ≡ [] → length s ≡ 0
none_left [] e = refl
none_left (b ∷ s) e = let l = ap length (sym (first_record (b ∷ s) (omega arith)) ∙ e) in absurd (omega arith)

-- The bytes from at on start with the record that ends at to.
pub record_at : (s : List ℕ) (at to : ℕ) → at < length s → to ≡ min (at + record_length) (length s)
    → records (drop at s) ≡ take (to - at) (drop at s) ∷ records (drop to s)
record_at s at to h e =
    first_record (drop at s) (omega (arith, length-drop at s))
    ∙ by_bool (leb (at + record_length) (length s))
    (λ q.
    let t : to ≡ at + record_length = omega (arith, leb-true (at + record_length) (length s) q) in
    let d : to - at ≡ record_length = omega arith in
    rw (d, t, drop-drop record_length at s))
    (λ q.
    let t : to ≡ length s = omega (arith, leb-false (at + record_length) (length s) q) in
    let a : take (to - at) (drop at s) ≡ drop at s = take_all (to - at) (drop at s) (omega (arith, length-drop at s)) in
    let b : take record_length (drop at s) ≡ drop at s = take_all record_length (drop at s) (omega (arith, length-drop at s, leb-false (at + record_length) (length s) q)) in
    let x : drop record_length (drop at s) ≡ [] = drop_of_length-le (drop at s) {i = record_length} (omega (arith, length-drop at s, leb-false (at + record_length) (length s) q)) in
    let y : drop to s ≡ [] = drop_of_length-le s {i = to} (omega arith) in
    rw (a, b, x, y))

pub records_over : (s : List ℕ) (at : ℕ) → length s ≤ at → records (drop at s) ≡ []
records_over s at h = rw (drop_of_length-le s {i = at} h) no_records
