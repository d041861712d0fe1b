-- The promises of specs/Promises.antt, by the ways to open bytes.
use mathlib.Core.Path.{◌≡◌, refl, sym, ◌∙◌}
use mathlib.Core.Bool.{Bool, true, false}
use mathlib.Core.List.{List, [], ◌∷◌}
use mathlib.Core.Logic.{⊎_elim, inl, inr}
use Prim.Native.Nat.{ℕ, zero, suc}
use native.Mathlib.Nat.{zero-add}
use native.Mathlib.Omega.{arith}
use lib.ListN.{replicate}
use borrow.Author.Tests.{eqb-false}
use Rattle.layout.specs.declared.Mark.{Mark}
use Rattle.layout.specs.declared.Call.{Call}
use Rattle.layout.specs.Marks.{form}
use Rattle.layout.specs.Fields.{record_length, head_of, call_of, bytes_of}
use Rattle.lists.specs.Lists.{names}
use Rattle.record.specs.Refusals.{formed, listed, timed, unless, first_refusal, shape, times, refusal}
use Rattle.record.specs.Reading.{number_of, refused, accepted, call_with, opened, or_refused, judged, reading}
use Rattle.record.specs.Writing.{or_zeros, written}
use Rattle.record.specs.Promises.{WrittenReadsBack, ReadWritesBack, WriterRefusesAsReader, RefusedWritesZeros, NoRecord, TwoIsNoRecord, RecordIsJudged, ReaderNumbers, StretchesAreUnused, StretchesStandApart}
use Rattle.layout.proofs.FieldsLaws.{fields_bytes}
use Rattle.layout.proofs.MarksLaws.{known}
use Rattle.record.proofs.StretchLaws.{lies_unused, apart_from}
use Rattle.record.proofs.OpenedLaws.{bytes_opened, Opening, unsized, unmarked, marked, opens, opened_known}

-- ---- what is read, once bytes are opened

module _ (day : ℕ) (s : List ℕ) where
  refused_read : {n : ℕ} → opened s ≡ refused n → reading day s ≡ refused n
  unfolding judged
  refused_read e = rw e

  accepted_read : {c : Call} → opened s ≡ accepted c → reading day s ≡ or_refused (refusal day c) (accepted c)
  unfolding judged
  accepted_read e = rw e

number_read : (n : ℕ) (c : Call) → number_of (or_refused n (accepted c)).answer ≡ n
number_read zero c = refl
number_read (suc n) c = refl

number_written : (n : ℕ) (c : Call) → (or_zeros n c).number ≡ n
number_written zero c = refl
number_written (suc n) c = refl

-- ---- there and back

pub written_reads_back : WrittenReadsBack
written_reads_back day c four z =
    let none : refusal day c ≡ 0 = sym (number_written (refusal day c) c) ∙ z in
    rw none (accepted_read day (bytes_of c) (bytes_opened c four) ∙ rw none)

pub read_writes_back : ReadWritesBack
read_writes_back day s h o a = by (opens s) where
  refusing : {n : ℕ} → reading day s ≡ refused n → ⊥
  refusing e = let r = rw e at a in let z : ◌≡◌ {A = ℕ} 0 1 = cc in omega arith

  judging : (m : Mark) (n : ℕ) → refusal day (call_of m s) ≡ n → bytes_of (call_of m s) ≡ s → reading day s ≡ or_refused n (accepted (call_of m s))
      → written day (call_with h (reading day s).list) ≡ record { number = 0; bytes = s }
  judging m zero none b e =
      let r = rw e at a in
      let same : h ≡ head_of m s = cc in
      rw (same, e, none, b)
  judging m (suc n) some b e = absurd (refusing e)

  by : Opening s → written day (call_with h (reading day s).list) ≡ record { number = 0; bytes = s }
  by (unsized ne e) = absurd (refusing (refused_read day s e))
  by (unmarked ne e) = absurd (refusing (refused_read day s e))
  by (marked m l k e) = judging m (refusal day (call_of m s)) refl (fields_bytes s m o l k) (accepted_read day s e)

pub writer_refuses_as_reader : WriterRefusesAsReader
writer_refuses_as_reader day c four =
    let n = refusal day c in
    number_written n c ∙ sym (number_read n c) ∙ rw (accepted_read day (bytes_of c) (bytes_opened c four))

pub refused_writes_zeros : RefusedWritesZeros
refused_writes_zeros day c n e = by (refusal day c) e where
  by : (k : ℕ) → (or_zeros k c).number ≡ suc n → (or_zeros k c).bytes ≡ replicate record_length 0
  by zero z = absurd (omega arith)
  by (suc k) z = refl

-- ---- the reader's numbers

-- What holds of 0, 3, 4 and 6 holds of each refusal of a call.
refusal_cases : (P : ℕ → Type 0) → P 0 → P 3 → P 4 → P 6 → (day : ℕ) (c : Call) → P (refusal day c)
unfolding refusal shape times
refusal_cases P none three four six day c = by (formed c) (listed (form c.head.mark) c) (timed day (form c.head.mark) c.head) where
  by : (f l t : Bool) → P (first_refusal (unless f 3 (unless l 4 0)) (unless t 6 0))
  by false l t = three
  by true false t = four
  by true true false = six
  by true true true = none

module _ (day : ℕ) (s : List ℕ) where
  two : opened s ≡ refused 2 → number_of (reading day s).answer ≡ 2
  two e = rw (refused_read day s e)

  judged_as : {c : Call} → opened s ≡ accepted c → number_of (reading day s).answer ≡ refusal day c
  judged_as {c} e = rw (accepted_read day s e) (number_read (refusal day c) c)

pub record_is_judged : RecordIsJudged
record_is_judged day s m l k = judged_as day s (opened_known s l (sym (known m k)))

pub two_is_no_record : TwoIsNoRecord
two_is_no_record day s = (none (opens s), says (opens s)) where
  none : Opening s → number_of (reading day s).answer ≡ 2 → NoRecord s
  none (unsized ne e) z = inl ne
  none (unmarked ne e) z = inr ne
  none (marked m l k e) z =
      absurd
      (refusal_cases
      (λ n. n ≡ 2 → ⊥)
      (eqb-false 0 2 refl)
      (eqb-false 3 2 refl)
      (eqb-false 4 2 refl)
      (eqb-false 6 2 refl)
      day
      (call_of m s)
      (sym (judged_as day s e) ∙ z))

  says : Opening s → NoRecord s → number_of (reading day s).answer ≡ 2
  says (unsized ne e) r = two day s e
  says (unmarked ne e) r = two day s e
  says (marked m l k e) r = ⊎_elim (λ ne. absurd (ne l)) (λ ne. absurd (ne m k)) r

pub reader_numbers : ReaderNumbers
unfolding names
reader_numbers day s = by (opens s) where
  P : ℕ → Type 0
  P n = names (0 ∷ 2 ∷ 3 ∷ 4 ∷ 6 ∷ []) n ≡ true

  by : Opening s → P (number_of (reading day s).answer)
  by (unsized ne e) = rw (two day s e)
  by (unmarked ne e) = rw (two day s e)
  by (marked m l k e) = rw (judged_as day s e) (refusal_cases P refl refl refl refl day (call_of m s))

-- ---- unused bytes; that they are the unused fields stands in UnusedLaws

pub stretches_are_unused : StretchesAreUnused
stretches_are_unused used i = rw (zero-add i) at (lies_unused used 0 i)

pub stretches_stand_apart : StretchesStandApart
stretches_stand_apart used = apart_from 0 used
