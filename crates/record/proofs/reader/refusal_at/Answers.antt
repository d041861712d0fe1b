-- Refusals 3 and 4 come before 6.
use borrow.Author.Rules.{rules}
use mathlib.Core.Path.{◌∙◌}
use Rattle.record.proofs.ReaderLaws.{shape_none}
use Rattle.record.proofs.reader.refusal_at.Goals as goal

pub returns : goal.returns
returns c = c.times_of.ensures ∙ shape_none _ _ c.in_ok-shape_at.ensures
