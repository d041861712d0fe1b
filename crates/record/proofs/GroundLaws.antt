-- Refusal 4 by its grounds.
use mathlib.Core.Path.{◌≡◌, refl, sym, ◌∙◌, ap}
use mathlib.Core.Bool.{Bool, true, false, ◌&&◌, and-false}
use mathlib.Core.List.{List, map}
use mathlib.Core.Logic.{◌⊎◌, ◌↔◌, inl, inr}
use Prim.Native.Nat.{ℕ, zero, suc, ◌+◌, ◌≤◌, ◌<◌}
use native.Mathlib.Omega.{arith}
use borrow.Author.Tests.{ne_eqb, leb-false}
use lib.Dec.{leb, eqb}
use lib.ListN.{length, get_or, take}
use lib.Seq.{get_or-take, length-take-le}
use Rattle.layout.specs.declared.Mark.{Mark}
use Rattle.layout.specs.declared.Mark.TheVariants.{DT, DS, DB, IT, DC, AC, TE, SU, PR, CO, EN, RE, RQ, RL, TR, RS, FR, ET, LV, TG, EI, XI, TI, SL}
use Rattle.layout.specs.declared.Form.TheVariants.{Numbers, OneNumber}
use Rattle.layout.specs.Marks.{code, form}
use Rattle.layout.specs.Fields.{byte, head_of, list_of, call_of}
use Rattle.lists.specs.Lists.{names, distinct}
use Rattle.lists.proofs.EveryLaws.{not_distinct_is_twice}
use Rattle.facts.proofs.Bools.{contra, by_bool}
use Rattle.record.specs.Refusals.{formed, listed, timed, unless, first_refusal, shape, times, refusal}
use Rattle.record.specs.Positions.{list_marks}
use Rattle.record.specs.Grounds.{BadList, FourIsABadList}
use Rattle.record.proofs.ShapeLaws.{formed_short}
use Rattle.record.proofs.Theorems.{record_is_judged}
use Rattle.record.proofs.PositionLaws.{three}

-- A mark that takes a list is TR, or its list may have up to four numbers.
list_form : (m : Mark) → names (map code list_marks) (code m) ≡ true → (form m ≡ Numbers) ⊎ (m ≡ TR)
unfolding names
list_form DT e = contra e refl
list_form DS e = contra e refl
list_form DB e = contra e refl
list_form IT e = contra e refl
list_form DC e = contra e refl
list_form AC e = contra e refl
list_form TE e = contra e refl
list_form SU e = contra e refl
list_form PR e = contra e refl
list_form CO e = contra e refl
list_form EN e = contra e refl
list_form RE e = contra e refl
list_form RQ e = inl refl
list_form RL e = inl refl
list_form TR e = inr refl
list_form RS e = inl refl
list_form FR e = inl refl
list_form ET e = inl refl
list_form LV e = inl refl
list_form TG e = contra e refl
list_form EI e = contra e refl
list_form XI e = contra e refl
list_form TI e = contra e refl
list_form SL e = contra e refl

-- The list's numbers are bytes 5 to 8.
list_byte : (s : List ℕ) (i : ℕ) → i < 4 → get_or (list_of s) i 0 ≡ byte s (5 + i)
unfolding list_of
list_byte s zero h = refl
list_byte s (suc zero) h = refl
list_byte s (suc (suc zero)) h = refl
list_byte s (suc (suc (suc zero))) h = refl
list_byte s (suc (suc (suc (suc i)))) h = absurd (omega arith)

list_long : (s : List ℕ) → length (list_of s) ≡ 4
unfolding list_of
list_long s = refl

module _ (s : List ℕ) (m : Mark) (short : byte s 4 ≤ 4) where
  abbrev numbers : List ℕ
  numbers = take (byte s 4) (list_of s)

  numbers_long : length numbers ≡ byte s 4
  numbers_long = length-take-le (byte s 4) (list_of s) (omega (arith, list_long s))

  number_at : (i : ℕ) → i < byte s 4 → get_or numbers i 0 ≡ byte s (5 + i)
  number_at i h = get_or-take (byte s 4) (list_of s) i 0 h ∙ list_byte s i (omega arith)

  -- A list of several numbers.
  bad_numbers : form m ≡ Numbers → (leb 1 (byte s 4) && distinct numbers) ≡ false → BadList m s
  bad_numbers f e =
      by_bool (leb 1 (byte s 4))
      (λ t.
      let (i, j, a, b, q) = (not_distinct_is_twice numbers).0 (rw t at e) in
      let inside : j < byte s 4 = omega (arith, numbers_long) in
      inr (inl (i, j, a, inside, sym (number_at i (omega arith)) ∙ q ∙ number_at j inside)))
      (λ t. inl (let none = leb-false 1 (byte s 4) t in omega arith))

  numbers_bad : form m ≡ Numbers → BadList m s → (leb 1 (byte s 4) && distinct numbers) ≡ false
  numbers_bad f (inl z) = rw z
  numbers_bad f (inr (inl (i, j, a, b, q))) =
      let same = number_at i (omega arith) ∙ q ∙ sym (number_at j b) in
      rw ((not_distinct_is_twice numbers).1 (i, j, a, omega (arith, numbers_long), same)) (and-false (leb 1 (byte s 4)))
  numbers_bad f (inr (inr (e, h))) = let other = rw e at f in let z : ◌≡◌ {A = ℕ} 0 1 = cc in absurd (omega arith)

-- TR's.
bad_one : (s : List ℕ) (m : Mark) → m ≡ TR → (n : ℕ) → byte s 4 ≡ n → eqb n 1 ≡ false → BadList m s
bad_one s m e zero q t = inl q
bad_one s m e (suc zero) q t = contra refl t
bad_one s m e (suc (suc n)) q t = inr (inr (e, omega arith))

one_bad : (s : List ℕ) (m : Mark) → BadList m s → eqb (byte s 4) 1 ≡ false
one_bad s m (inl z) = rw z
one_bad s m (inr (inl (i, j, a, b, q))) = ne_eqb (byte s 4) 1 (λ e. omega arith)
one_bad s m (inr (inr (e, h))) = ne_eqb (byte s 4) 1 (λ e. omega arith)

-- The list test alone decides on 4 in what passes refusal 3.
four_first : (l t : Bool) → first_refusal (unless l 4 0) (unless t 6 0) ≡ 4 → l ≡ false
four_first true true e = absurd (omega arith)
four_first true false e = absurd (omega arith)
four_first false t e = refl

module _ (day : ℕ) (s : List ℕ) (m : Mark) (f : formed (call_of m s) ≡ true) where
  four_listed : refusal day (call_of m s) ≡ 4 → listed (form m) (call_of m s) ≡ false
  unfolding refusal shape times head_of
  four_listed e = four_first (listed (form m) (call_of m s)) (timed day (form m) (head_of m s)) (rw f at e)

  listed_four : listed (form m) (call_of m s) ≡ false → refusal day (call_of m s) ≡ 4
  unfolding refusal shape head_of
  listed_four l = rw (f, l)

  few : byte s 4 ≤ 4
  unfolding head_of
  few = formed_short (call_of m s) f

  by_form : (form m ≡ Numbers) ⊎ (m ≡ TR) → (listed (form m) (call_of m s) ≡ false) ↔ BadList m s
  unfolding listed head_of
  by_form (inl e) = (λ t. bad_numbers s m few e (rw e at t), λ b. rw e (numbers_bad s m few e b))
  by_form (inr e) =
      let one : form m ≡ OneNumber = ap form e in
      (λ t. bad_one s m e (byte s 4) refl (rw one at t), λ b. rw one (one_bad s m b))

pub four_is_a_bad_list : FourIsABadList
four_is_a_bad_list day s m long k takes ne =
    let j = record_is_judged day s m long k in
    by_bool (formed (call_of m s))
    (λ f.
    let p = by_form day s m f (list_form m takes) in
    (λ e. p.0 (four_listed day s m f (sym j ∙ e)), λ b. j ∙ listed_four day s m f (p.1 b)))
    (λ f. absurd (ne (j ∙ three day (call_of m s) f)))
