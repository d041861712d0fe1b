-- What is carried on stays the same, and the text grows by each record's line.
use Rattle.std.proofs.Common.{◌-◌, length}
use Rattle.record.specs.Numbers.{refused_with}
use Rattle.script.proofs.Going.{Going}
use Rattle.script.proofs.run.run.Given as goal

abbrev pub invariant-loop-at : goal.invariant-loop-at
invariant-loop-at l = Going l.bytes l.initial.out l.initial.k (refused_with l.refused) l.out l.k l.at l.fill

abbrev pub decreases-loop-at : goal.decreases-loop-at
decreases-loop-at l = length l.bytes - l.at
