-- Of 24 bytes by open_record; bytes of another length are refused.
use borrow.Author.Rules.{rules}
use mathlib.Core.Path.{◌≡◌, sym, ◌∙◌, ap}
use Rattle.record.specs.Reading.{refused}
use Rattle.record.proofs.OpenedLaws.{opened_length}
use Rattle.record.proofs.reader.open.Goals as goal

pub returns-in-Err : goal.returns-in-Err
returns-in-Err c = c.refused.ensures ∙ ap refused c.number.ensures ∙ sym (opened_length _ (c.in-Err.ensures).1)
