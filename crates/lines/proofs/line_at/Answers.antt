-- Number, running task and sets, one after the other.
use native.Mathlib.Omega.{arith}
use Rattle.lines.specs.Lines.{line}
use Rattle.lines.proofs.PlacedLaws.{then}
use Rattle.lines.proofs.line_at.Goals as goal

pub returns : goal.returns
unfolding line
returns c =
    record {
      wrote = then (then c.byte_at-running.ensures.wrote c.running_at-sets.ensures.wrote (omega arith)) c.sets_at.ensures.wrote (omega arith);
      upper_bound = omega arith;
    }
