-- What reader and writer promise of each other, for every call and any bytes. Proved in proofs/Theorems.antt.
use Rattle.std.specs.Prelude.{Ok, ◌≡◌, Bool, true, not, ◌&&◌, List, [], ◌∷◌, ◌⊎◌, ◌↔◌, ℕ, suc, length, get_or, replicate}
use Rattle.layout.specs.declared.Mark.{Mark}
use Rattle.layout.specs.declared.Head.{Head}
use Rattle.layout.specs.declared.Call.{Call}
use Rattle.layout.specs.Marks.{code}
use Rattle.layout.specs.Fields.{record_length, byte, letters, head_of, call_of, bytes_of, FourPlaces, Octets}
use Rattle.lists.specs.Lists.{names}
use Rattle.record.specs.Refusals.{Used, clean_names, clean_start, refusal}
use Rattle.record.specs.Stretches.{stretches, unused, zero_in, lies, ApartFrom}
use Rattle.record.specs.Reading.{number_of, accepted, call_with, reading}
use Rattle.record.specs.Writing.{written}

-- What the writer takes reads back as itself.
abbrev pub WrittenReadsBack : Type 0
WrittenReadsBack =
    (day : ℕ) (c : Call) → FourPlaces c → (written day c).number ≡ 0 → reading day (written day c).bytes ≡ accepted c

-- An accepted record, read and written, gives the same bytes.
abbrev pub ReadWritesBack : Type 0
ReadWritesBack =
    (day : ℕ) (s : List ℕ) (h : Head) → Octets s → (reading day s).answer ≡ Ok h
    → written day (call_with h (reading day s).list) ≡ record { number = 0; bytes = s }

-- The writer's number is the one that the reader gives for the bytes of the call.
abbrev pub WriterRefusesAsReader : Type 0
WriterRefusesAsReader =
    (day : ℕ) (c : Call) → FourPlaces c → (written day c).number ≡ number_of (reading day (bytes_of c)).answer

-- A refused call leaves 24 zero bytes.
abbrev pub RefusedWritesZeros : Type 0
RefusedWritesZeros =
    (day : ℕ) (c : Call) (n : ℕ) → (written day c).number ≡ suc n → (written day c).bytes ≡ replicate record_length 0

-- Bytes of another length, or with the letters of no mark.
abbrev pub NoRecord : List ℕ → Type 0
NoRecord s = (length s ≡ record_length → ⊥) ⊎ ((m : Mark) → letters s ≡ code m → ⊥)

-- The reader's 2 says just that the bytes are no record, whatever else is wrong with them.
abbrev pub TwoIsNoRecord : Type 0
TwoIsNoRecord = (day : ℕ) (s : List ℕ) → (number_of (reading day s).answer ≡ 2) ↔ NoRecord s

-- Of a record it judges the fields.
abbrev pub RecordIsJudged : Type 0
RecordIsJudged =
    (day : ℕ) (s : List ℕ) (m : Mark) → length s ≡ record_length → letters s ≡ code m
    → number_of (reading day s).answer ≡ refusal day (call_of m s)

-- The reader gives 0 or refusal 2, 3, 4 or 6, and no other number.
abbrev pub ReaderNumbers : Type 0
ReaderNumbers =
    (day : ℕ) (s : List ℕ) → names (0 ∷ 2 ∷ 3 ∷ 4 ∷ 6 ∷ []) (number_of (reading day s).answer) ≡ true

-- ---- unused bytes

-- Each unused byte lies in one of the stretches, and no used byte in any.
abbrev pub StretchesAreUnused : Type 0
StretchesAreUnused = (used : List Bool) (i : ℕ) → lies i (stretches 0 used) ≡ not (get_or used i true)

-- A used byte stands between any two of them, so none could be longer.
abbrev pub StretchesStandApart : Type 0
StretchesStandApart = (used : List Bool) → ApartFrom 0 (stretches 0 used)

-- The unused fields of any bytes are zero exactly when their stretches are, whatever fields are used.
abbrev pub StretchesAreTheFields : Type 0
StretchesAreTheFields =
    (u : Used) (m : Mark) (s : List ℕ)
    → (clean_names u (call_of m s) && clean_start u (head_of m s)) ≡ zero_in s (unused u (byte s 4))
