-- Where nothing is left to carry out, the machine has nothing more to do.
use native.Mathlib.Omega.{arith}
use Rattle.script.proofs.TurnLaws.{at_end}
use Rattle.script.proofs.run.carry_on.Goals as goal

pub returns : goal.returns
returns g c = at_end c.loop-at.script c.args.bytes.now c.loop-at.at (omega arith) c.loop-at.invariant.3
