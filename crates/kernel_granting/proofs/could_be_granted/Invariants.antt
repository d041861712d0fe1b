-- Each number is tried, in the list's order.
use Rattle.std.proofs.Common.{ℕ, List}
use Rattle.lists.proofs.SeenLaws.{Seen}
use Rattle.task.specs.declared.Task.{Task}
use Rattle.machine.specs.Granting.{available}
use Rattle.kernel_granting.specs.Writers.{TellsFor}
use Rattle.kernel_granting.proofs.could_be_granted.Given as goal

abbrev pub invariant-loop-number : goal.invariant-loop-number
invariant-loop-number l =
    (n : ℕ) (ts : List Task) → TellsFor l.w n ts l.writers → Seen (available n ts l.locks l.priority l.w) l.list l.number-index
