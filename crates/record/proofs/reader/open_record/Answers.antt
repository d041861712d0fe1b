-- By the mark.
use borrow.Author.Rules.{rules}
use mathlib.Core.Path.{◌≡◌, sym, ◌∙◌, ap}
use Rattle.layout.specs.Marks.{mark_of}
use Rattle.record.specs.Reading.{refused}
use Rattle.record.proofs.OpenedLaws.{opened_unknown, opened_known}
use Rattle.record.proofs.reader.open_record.Goals as goal

pub returns-in_default : goal.returns-in_default
returns-in_default c =
    c.refused.ensures ∙ ap refused c.number.ensures ∙ sym (opened_unknown _ (search rules) (sym (c.mark_of.ensures ∙ ap mark_of c.letters_at.ensures) ∙ c.in_default.is))

pub returns : goal.returns
returns c =
    rw (c.head_at-head.ensures, c.list_at.ensures)
    (sym (opened_known _ (search rules) (sym (c.mark_of.ensures ∙ ap mark_of c.letters_at.ensures) ∙ c.in-Some.is)))
