-- What the machine makes of the rest stays the same, and each run gets on.
use Rattle.std.proofs.Common.{◌≡◌, ◌-◌, ◌≤◌, length, drop}
use Rattle.calendar.specs.Limits.{day_length}
use Rattle.machine.specs.Log.{final}
use Rattle.script.specs.Records.{records}
use Rattle.script.proofs.run.carry_on.Given as goal

abbrev pub invariant-loop-at : goal.invariant-loop-at
invariant-loop-at g l =
    goal.W-IsAlwaysCallable g l.write × (length l.out ≡ length l.initial.out) × (l.at ≤ length l.bytes)
    × (final day_length l.script.kernel.state (records (drop l.at l.bytes)) ≡ final day_length l.initial.script.kernel.state (records l.bytes))

abbrev pub decreases-loop-at : goal.decreases-loop-at
decreases-loop-at g l = length l.bytes - l.at
