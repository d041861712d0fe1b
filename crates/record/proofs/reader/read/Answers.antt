-- By what was opened, then by the refusal of its fields.
use borrow.Author.Rules.{rules}
use mathlib.Core.Path.{◌≡◌, refl, sym, ◌∙◌, ap}
use Rattle.calendar.specs.Limits.{day_length}
use Rattle.record.specs.Reading.{refused, opened}
use Rattle.record.proofs.OpenedLaws.{opened_length}
use Rattle.record.proofs.NumberLaws.{number_some}
use Rattle.record.proofs.ReaderLaws.{refused_reads, read_refused, read_fields, read_passed, read_failed}
use Rattle.record.proofs.reader.read.Goals as goal
use Rattle.record.proofs.reader.read.Goals.{After-open_record-r}

-- What is opened of the 24 bytes is what is opened of the bytes handed in.
same : (c : After-open_record-r) → c.open_record-r.result ≡ opened c.args.s.now
same c = c.open_record-r.ensures ∙ ap opened (c.in-Ok.ensures).1.same

pub returns-in_default : goal.returns-in_default
returns-in_default c = c.refused.ensures ∙ ap refused c.number.ensures ∙ refused_reads day_length _ (opened_length _ (c.in_default.ensures).1)

pub refusal_at-requires : goal.refusal_at-requires
refusal_at-requires c =
    let f = read_fields day_length _ c.open_record-r.ensures c.in-Ok-answer.is in
    record { h_value = f.0; list_value = f.1 }

pub returns-in-Ok-refusal_at : goal.returns-in-Ok-refusal_at
returns-in-Ok-refusal_at c = read_passed _ _ (same (goal.at.returns-in-Ok-refusal_at c).After-open_record-r) c.in-Ok-answer.is c.in-Ok-refusal_at.ensures refl

pub returns-in-Err : goal.returns-in-Err
returns-in-Err c =
    let o = same (goal.at.returns-in-Err c).After-open_record-r in
    c.refused-in-Err.ensures ∙ ap refused c.number-in-Err.ensures ∙ read_failed _ _ o c.in-Ok-answer.is c.in-Err.ensures (number_some c.in-Err.refusal)

pub returns-in_default-answer : goal.returns-in_default-answer
returns-in_default-answer c = read_refused _ _ (same (goal.at.returns-in_default-answer c).After-open_record-r) c.in_default-answer.is
