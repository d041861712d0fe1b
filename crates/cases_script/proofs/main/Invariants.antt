-- What is filled lies in the buffer.
use Rattle.std.proofs.Common.{◌≤◌}
use Rattle.cases_script.proofs.main.Given as goal

abbrev pub invariant-loop : goal.invariant-loop
invariant-loop l = l.fill ≤ 65536
