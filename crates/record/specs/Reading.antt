-- What the reader hands back for any bytes.
use Rattle.std.specs.Prelude.{Result, Option, Err, None, Ok, Some, cond, List, [], ◌∷◌, ℕ, zero, suc, length, eqb}
use Rattle.layout.specs.declared.Head.{Head}
use Rattle.layout.specs.declared.Mark.{Mark}
use Rattle.layout.specs.declared.Call.{Call}
use Rattle.layout.specs.Marks.{mark_of}
use Rattle.record.specs.declared.Reading.{Reading}
use Rattle.layout.specs.Fields.{record_length, letters, call_of, no_list}
use Rattle.record.specs.Refusals.{refusal}

-- The reader's answer: the fields, or the number of a refusal.
abbrev pub Read : Type 0
Read = Result Head ℕ

-- The number of a reader's answer: 0, or the refusal's.
abbrev pub number_of : Read → ℕ
number_of (Err n) = n
number_of (Ok h) = 0

-- A refusal hands back a list of zeros.
abbrev pub refused : ℕ → Reading
refused n = record { answer = Err n; list = no_list }

abbrev pub accepted : Call → Reading
accepted c = record { answer = Ok c.head; list = c.list }

-- The call of an accepted head with the list beside it.
abbrev pub call_with : Head → List ℕ → Call
call_with h l = record { head = h; list = l }

abbrev pub with_mark : Option Mark → List ℕ → Reading
with_mark None s = refused 2
with_mark (Some m) s = accepted (call_of m s)

-- The fields, or refusal 2 for a wrong length or an unknown mark.
unfoldable pub opened : List ℕ → Reading
opened s = cond (eqb (length s) record_length) (with_mark (mark_of (letters s)) s) (refused 2)

abbrev pub or_refused : ℕ → Reading → Reading
or_refused zero r = r
or_refused (suc n) r = refused (suc n)

-- A reading that refusals 3, 4 and 6 leave as it is.
unfoldable pub judged : ℕ → Read → Reading → Reading
judged day (Err n) r = r
judged day (Ok h) r = or_refused (refusal day (call_with h r.list)) r

-- The reader.
abbrev pub reading : ℕ → List ℕ → Reading
reading day s = judged day (opened s).answer (opened s)
