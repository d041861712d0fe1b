-- By whether there is a line to print.
use Rattle.lines.proofs.PlacedLaws.{wrote_nothing}
use Rattle.script.proofs.run.line_if.Goals as goal

pub returns-clause-wrote : goal.returns-clause-wrote
returns-clause-wrote c = rw c.if-show.false (wrote_nothing _ _)
