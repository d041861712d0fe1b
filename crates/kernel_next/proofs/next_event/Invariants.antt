-- The next event among the tasks looked at.
use Rattle.std.proofs.Common.{◌≡◌, ◌≤◌, length, take}
use Rattle.machine.specs.NextEvent.{next_among}
use Rattle.kernel_next.proofs.next_event.Given as goal

abbrev pub invariant-loop-t : goal.invariant-loop-t
invariant-loop-t l = (l.t-index ≤ length l.t-items) × (l.soonest ≡ next_among l.now l.t-index l.fn.k.tasks)
