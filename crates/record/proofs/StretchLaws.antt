-- Stretches of unused bytes, for any list that says which bytes are used.
use mathlib.Core.Path.{◌≡◌, refl, sym, ◌∙◌, ap}
use mathlib.Core.Bool.{Bool, true, false, not, cond, ◌&&◌, ◌||◌, and-true, and_assoc, or_assoc, or-false}
use mathlib.Core.List.{List, [], ◌∷◌}
use Prim.Native.Nat.{ℕ, zero, suc, ◌+◌, ◌≤◌, ◌<◌}
use native.Mathlib.Omega.{arith}
use borrow.Author.Tests.{eq-eqb, ne_eqb, eqb-true, eqb-false, leb-true, leb-false, le-leb, lt-ltb, le-ltb}
use lib.Dec.{leb, ltb, eqb}
use lib.ListN.{take, drop, get_or, replicate}
use lib.Seq.{take-nil}
use Rattle.layout.specs.Fields.{byte}
use Rattle.lists.specs.Lists.{all_zero}
use Rattle.record.specs.Stretches.{Stretch, grown, stretches, zero_in, lies, ApartFrom}

-- ---- the test of all stretches, byte by byte

-- Of the bytes from i on each one is used or 0.
unfoldable pub used_or_zero : List ℕ → ℕ → List Bool → Bool
used_or_zero s i [] = true
used_or_zero s i (u ∷ used) = (u || eqb (byte s i) 0) && used_or_zero s (suc i) used

first_zero : (s : List ℕ) (i n : ℕ) → all_zero (take (suc n) (drop i s)) ≡ (eqb (byte s i) 0 && all_zero (take n (drop (suc i) s)))
unfolding all_zero
first_zero [] zero n = rw (take-nil n)
first_zero [] (suc i) n = rw (take-nil n)
first_zero (x ∷ s) zero n = refl
first_zero (x ∷ s) (suc i) n = first_zero s i n

zero_grown : (s : List ℕ) (i : ℕ) (ts : List Stretch) → zero_in s (grown i ts) ≡ (eqb (byte s i) 0 && zero_in s ts)
unfolding zero_in grown all_zero
zero_grown s i [] = rw (first_zero s i 0) (and_assoc (eqb (byte s i) 0) true true)
zero_grown s i (t ∷ ts) = by (eqb t.place (suc i)) refl where
  by : (b : Bool) → eqb t.place (suc i) ≡ b
      → zero_in s (cond b (record { place = i; count = suc t.count } ∷ ts) (record { place = i; count = 1 } ∷ t ∷ ts)) ≡ (eqb (byte s i) 0 && zero_in s (t ∷ ts))
  by true e = rw (first_zero s i t.count, eqb-true t.place (suc i) e) (and_assoc (eqb (byte s i) 0) _ (zero_in s ts))
  by false e = rw (first_zero s i 0) (and_assoc (eqb (byte s i) 0) true (zero_in s (t ∷ ts)))

pub zero_in_law : (s : List ℕ) (i : ℕ) (used : List Bool) → zero_in s (stretches i used) ≡ used_or_zero s i used
unfolding zero_in stretches used_or_zero
zero_in_law s i [] = refl
zero_in_law s i (true ∷ used) = zero_in_law s (suc i) used
zero_in_law s i (false ∷ used) = zero_grown s i (stretches (suc i) used) ∙ ap (λ (b : Bool). eqb (byte s i) 0 && b) (zero_in_law s (suc i) used)

-- A stretch, byte by byte.
pub zero_run : (s : List ℕ) (i n : ℕ) → all_zero (take n (drop i s)) ≡ used_or_zero s i (replicate n false)
unfolding all_zero used_or_zero
zero_run s i zero = refl
zero_run s i (suc n) = first_zero s i n ∙ ap (λ (b : Bool). eqb (byte s i) 0 && b) (zero_run s (suc i) n)

-- One stretch and two, as the code tests them.
pub one : (s : List ℕ) (a n : ℕ) → all_zero (take n (drop a s)) ≡ zero_in s (record { place = a; count = n } ∷ [])
unfolding zero_in
one s a n = sym (and-true _)

pub two : (s : List ℕ) (a n b m : ℕ)
    → (all_zero (take n (drop a s)) && all_zero (take m (drop b s))) ≡ zero_in s (record { place = a; count = n } ∷ record { place = b; count = m } ∷ [])
unfolding zero_in
two s a n b m = ap (λ (z : Bool). all_zero (take n (drop a s)) && z) (sym (and-true _))

-- ---- which bytes lie in them

next : (i k : ℕ) → i + suc k ≡ suc i + k
next i k = omega arith

-- The n bytes from a on, one of which is j.
abbrev holds : ℕ → ℕ → ℕ → Bool
holds j a n = leb a j && ltb j (a + n)

holds_first : (j a n : ℕ) → holds j a (suc n) ≡ (eqb j a || holds j (suc a) n)
holds_first j a n = by (eqb j a) refl where
  by : (b : Bool) → eqb j a ≡ b → holds j a (suc n) ≡ (b || holds j (suc a) n)
  by true e =
      let same : j ≡ a = eqb-true j a e in
      rw (le-leb a j (omega arith), lt-ltb j (a + suc n) (omega arith))
  by false e = beside (leb (suc a) j) refl where
    other : j ≡ a → ⊥
    other = eqb-false j a e

    short : leb (suc a) j ≡ false → (b : Bool) → leb a j ≡ b → (b && ltb j (a + suc n)) ≡ false
    short f true g = let up_to = leb-false (suc a) j f in let past = leb-true a j g in absurd (other (omega arith))
    short f false g = refl

    beside : (b : Bool) → leb (suc a) j ≡ b → holds j a (suc n) ≡ (b && ltb j (suc a + n))
    beside true f =
        let past : suc a ≤ j = leb-true (suc a) j f in
        rw (le-leb a j (omega arith), next a n)
    beside false f = short f (leb a j) refl

holds_one : (j a : ℕ) → holds j a 1 ≡ eqb j a
holds_one j a = holds_first j a 0 ∙ ap (λ (b : Bool). eqb j a || b) (none (leb (suc a) j) refl) ∙ or-false (eqb j a) where
  none : (b : Bool) → leb (suc a) j ≡ b → (b && ltb j (suc a + 0)) ≡ false
  none true e = let past = leb-true (suc a) j e in le-ltb j (suc a + 0) (omega arith)
  none false e = refl

lies_grown : (j i : ℕ) (ts : List Stretch) → lies j (grown i ts) ≡ (eqb j i || lies j ts)
unfolding lies grown
lies_grown j i [] = ap (λ (b : Bool). b || false) (holds_one j i)
lies_grown j i (t ∷ ts) = by (eqb t.place (suc i)) refl where
  by : (b : Bool) → eqb t.place (suc i) ≡ b
      → lies j (cond b (record { place = i; count = suc t.count } ∷ ts) (record { place = i; count = 1 } ∷ t ∷ ts)) ≡ (eqb j i || lies j (t ∷ ts))
  by true e = rw (holds_first j i t.count, eqb-true t.place (suc i) e) (or_assoc (eqb j i) _ (lies j ts))
  by false e = ap (λ (b : Bool). b || lies j (t ∷ ts)) (holds_one j i)

-- No byte before i lies in the stretches from i on.
lies_before : (j i : ℕ) (used : List Bool) → j < i → lies j (stretches i used) ≡ false
unfolding lies stretches
lies_before j i [] h = refl
lies_before j i (true ∷ used) h = lies_before j (suc i) used (omega arith)
lies_before j i (false ∷ used) h =
    lies_grown j i (stretches (suc i) used) ∙ rw (ne_eqb j i (λ e. omega arith)) (lies_before j (suc i) used (omega arith))

pub lies_unused : (used : List Bool) (i k : ℕ) → lies (i + k) (stretches i used) ≡ not (get_or used k true)
unfolding lies stretches
lies_unused [] i k = refl
lies_unused (true ∷ used) i zero = lies_before (i + 0) (suc i) used (omega arith)
lies_unused (true ∷ used) i (suc k) = rw (next i k) (lies_unused used (suc i) k)
lies_unused (false ∷ used) i zero = lies_grown (i + 0) i (stretches (suc i) used) ∙ rw (eq-eqb (i + 0) i (omega arith))
lies_unused (false ∷ used) i (suc k) =
    lies_grown (i + suc k) i (stretches (suc i) used)
    ∙ rw (ne_eqb (i + suc k) i (λ e. omega arith), next i k) (lies_unused used (suc i) k)

-- ---- how they stand

apart_weaker : (i : ℕ) (ts : List Stretch) → ApartFrom (suc i) ts → ApartFrom i ts
apart_weaker i [] a = tt
apart_weaker i (t ∷ ts) (p, q) = (omega arith, q)

apart_grown : (i : ℕ) (ts : List Stretch) → ApartFrom (suc i) ts → ApartFrom i (grown i ts)
unfolding grown
apart_grown i [] a = (omega arith, (omega arith, tt))
apart_grown i (t ∷ ts) (p, (q, r)) = by (eqb t.place (suc i)) refl where
  by : (b : Bool) → eqb t.place (suc i) ≡ b
      → ApartFrom i (cond b (record { place = i; count = suc t.count } ∷ ts) (record { place = i; count = 1 } ∷ t ∷ ts))
  by true e =
      let same = eqb-true t.place (suc i) e in
      let end : suc (t.place + t.count) ≡ suc (i + suc t.count) = omega arith in
      (omega arith, (omega arith, rw end at r))
  by false e = (omega arith, (omega arith, (apart (leb t.place (suc i)) refl, (q, r)))) where
    other : t.place ≡ suc i → ⊥
    other = eqb-false t.place (suc i) e

    apart : (b : Bool) → leb t.place (suc i) ≡ b → suc (i + 1) ≤ t.place
    apart true f = let up_to = leb-true t.place (suc i) f in absurd (other (omega arith))
    apart false f = let past = leb-false t.place (suc i) f in omega arith

pub apart_from : (i : ℕ) (used : List Bool) → ApartFrom i (stretches i used)
unfolding stretches
apart_from i [] = tt
apart_from i (true ∷ used) = apart_weaker i (stretches (suc i) used) (apart_from (suc i) used)
apart_from i (false ∷ used) = apart_grown i (stretches (suc i) used) (apart_from (suc i) used)
