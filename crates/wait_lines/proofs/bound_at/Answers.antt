-- By whether there is a line.
use Rattle.lines.proofs.PlacedLaws.{wrote_nothing}
use Rattle.wait_lines.specs.Text.{bound_text}
use Rattle.wait_lines.proofs.bound_at.Goals as goal

pub returns-in-None-clause-wrote : goal.returns-in-None-clause-wrote
unfolding bound_text
returns-in-None-clause-wrote c = rw c.in-None.is (wrote_nothing _ _)

pub returns-in-Some-clause-wrote : goal.returns-in-Some-clause-wrote
unfolding bound_text
returns-in-Some-clause-wrote c = rw c.in-Some.is c.line_at.ensures.wrote
