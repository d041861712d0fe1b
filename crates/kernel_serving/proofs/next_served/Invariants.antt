-- The lead so far is that of the most urgent task so far that could be granted.
use Rattle.std.proofs.Common.{◌≤◌}
use Rattle.lists.proofs.SeenLaws.{Seen}
use Rattle.machine.specs.Granting.{available, servable}
use Rattle.machine.specs.Running.{urgency}
use Rattle.kernel_granting.specs.Writers.{Known}
use Rattle.kernel_urgency.proofs.LeadLaws.{Led}
use Rattle.kernel_serving.proofs.next_served.Given as goal

abbrev pub invariant-tasks : goal.invariant-tasks
invariant-tasks l =
    let k = l.k in
    Led l.i (servable k.counts.tasks k.tasks k.locks) (urgency k.places k.tasks) l.lead × Known k.counts.tasks k.tasks l.writers

abbrev pub invariant-loop-number : goal.invariant-loop-number
invariant-loop-number l =
    Seen (available l.k.counts.tasks l.k.tasks l.k.locks l.priority l.wait) l.asked l.number-index
