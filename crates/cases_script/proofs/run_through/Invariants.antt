-- Each run gets on.
use Rattle.std.proofs.Common.{length}
use Rattle.cases_script.proofs.run_through.Given as goal

abbrev pub invariant-loop-rest : goal.invariant-loop-rest
invariant-loop-rest g l = goal.T-IsAlwaysCallable g l.tell

abbrev pub decreases-loop-rest : goal.decreases-loop-rest
decreases-loop-rest g l = length l.rest
