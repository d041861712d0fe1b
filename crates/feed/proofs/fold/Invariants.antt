-- What is held lies in the buffer, and less than a record is held from one turn to the next.
use Rattle.std.proofs.Common.{◌≤◌, ◌<◌, length}
use Rattle.layout.specs.Fields.{record_length}
use Rattle.feed.proofs.fold.Given as goal

abbrev pub invariant-loop : goal.invariant-loop
invariant-loop g l = goal.F-IsAlwaysCallable g l.step × (l.held ≤ length l.input) × (l.held < record_length)
