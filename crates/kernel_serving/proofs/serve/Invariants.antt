-- What serving makes of the kernel so far, in the turns that are left, stays the same.
use Rattle.std.proofs.Common.{◌≤◌, ◌-◌}
use Rattle.kernel_serving.proofs.ServeLaws.{Serves}
use Rattle.kernel_serving.proofs.serve.Given as goal

abbrev pub invariant-loop-turn : goal.invariant-loop-turn
invariant-loop-turn l = Serves l.initial.s.state l.initial.s.granted (l.turns - l.turn) l.s.state l.s.granted
