-- Zero bytes: joined, part by part, and one by one from the front. For any number of them.
use Rattle.std.specs.Int.{w64, from_le_bytes}
use Rattle.std.specs.Simd.{first_chunks}
use Rattle.std.proofs.lemmas.List.{take_all}
use mathlib.Core.Path.{◌≡◌, refl, sym, ◌∙◌, ap}
use mathlib.Core.Bool.{Bool, ◌&&◌, and_assoc}
use mathlib.Core.List.{List, [], ◌∷◌}
use Prim.Native.Nat.{ℕ, zero, suc, ◌+◌, ◌*◌, ◌≤◌, ◌<◌}
use native.Mathlib.Omega.{arith}
use borrow.Author.Tests.{ne_eqb}
use lib.Dec.{eqb, eqb-suc-zero}
use lib.ListN.{length, take, drop, get_or}
use lib.Seq.{drop-cons, drop-drop}
use Rattle.lists.specs.Lists.{joined, all_zero}

-- ---- joined bytes

pub low_high : (x y : ℕ) → eqb (x + y * 256) 0 ≡ (eqb x 0 && eqb y 0)
low_high zero zero = refl
low_high zero (suc y) = rw (eqb-suc-zero y, ne_eqb (0 + suc y * 256) 0 (λ e. omega arith))
low_high (suc x) y = rw (eqb-suc-zero x, ne_eqb (suc x + y * 256) 0 (λ e. omega arith))

pub joined_zero : (l : List ℕ) → eqb (joined l) 0 ≡ all_zero l
unfolding joined all_zero
joined_zero [] = refl
joined_zero (x ∷ l) = low_high x (joined l) ∙ ap (λ (b : Bool). eqb x 0 && b) (joined_zero l)

-- ---- part by part

zero_parts : (n : ℕ) (l : List ℕ) → all_zero l ≡ (all_zero (take n l) && all_zero (drop n l))
unfolding all_zero
zero_parts zero l = refl
zero_parts (suc n) [] = refl
zero_parts (suc n) (x ∷ l) = ap (λ (b : Bool). eqb x 0 && b) (zero_parts n l) ∙ sym (and_assoc (eqb x 0) _ _)

-- The next n bytes as one number, and what is left.
pub zero_joined : (s : List ℕ) (i n : ℕ) (ok : Bool) → (ok && all_zero (drop i s)) ≡ ((ok && eqb (joined (take n (drop i s))) 0) && all_zero (drop (i + n) s))
zero_joined s i n ok =
    ap (λ (b : Bool). ok && b) (zero_parts n (drop i s))
    ∙ rw (joined_zero (take n (drop i s)), drop-drop n i s) (sym (and_assoc ok _ _))

-- ---- one by one

-- n bytes of s from i on, spelt.
abbrev bytes_from : List ℕ → ℕ → ℕ → List ℕ
bytes_from s i zero = []
bytes_from s i (suc n) = get_or s i 0 ∷ bytes_from s (suc i) n

spelt : (s : List ℕ) (i n : ℕ) → i + n ≤ length s → take n (drop i s) ≡ bytes_from s i n
spelt s i zero h = refl
spelt s i (suc n) h =
    let inside : i < length s = omega arith in
    rw (drop-cons s i 0 inside) (ap (λ (l : List ℕ). get_or s i 0 ∷ l) (spelt s (suc i) n (omega arith)))

-- Eight bytes joined, as std sums them.
pub joined_eight : (l : List ℕ) → length l ≡ 8 → from_le_bytes w64 l ≡ joined l
unfolding joined
joined_eight l e =
    let all : l ≡ bytes_from l 0 8 = sym (take_all 8 l (omega arith)) ∙ spelt l 0 8 (omega arith) in
    omega (arith, ap joined all)

-- ---- eight by eight

-- The eight at k of the n of them at the front.
chunk_at : (s : List ℕ) (n k : ℕ) → k < n → get_or (first_chunks 8 n s) k [] ≡ take 8 (drop (k * 8) s)
chunk_at s zero k h = absurd (omega arith)
chunk_at s (suc n) zero h = refl
chunk_at s (suc n) (suc k) h =
    let next : suc k * 8 ≡ 8 + k * 8 = omega arith in
    rw next (chunk_at (drop 8 s) n k (omega arith) ∙ ap (take 8) (drop-drop (k * 8) 8 s))

pub zero_eight : (s : List ℕ) (k n : ℕ) (ok : Bool) → k < n
    → (ok && all_zero (drop (k * 8) s)) ≡ ((ok && eqb (joined (get_or (first_chunks 8 n s) k [])) 0) && all_zero (drop ((k + 1) * 8) s))
zero_eight s k n ok h =
    let next : k * 8 + 8 ≡ (k + 1) * 8 = omega arith in
    rw (chunk_at s n k h, ← next) (zero_joined s (k * 8) 8 ok)
