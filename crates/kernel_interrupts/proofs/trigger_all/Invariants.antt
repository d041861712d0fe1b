-- The turns of the tasks so far are made.
use borrow.Author.Rules.{rules}
use mathlib.Core.Path.{sym, ◌∙◌}
use mathlib.Core.Logic.{⊎_elim}
use Prim.Native.Nat.{◌≤◌, ◌<◌, ◌-◌}
use native.Mathlib.Nat.{le_antisymm}
use native.Mathlib.Omega.{arith}
use lib.ListN.{length}
use Rattle.calendar.specs.Limits.{day_length}
use Rattle.task.specs.Turns.{trigger_turn}
use Rattle.task.proofs.Laws.{deaf}
use Rattle.kernel_values.proofs.Owned.{tasks_long}
use Rattle.kernel_sets.specs.Standing.{Turned}
use Rattle.kernel_sets.proofs.Turning.{turned_more}
use Rattle.kernel_finish.proofs.EveryTask.{Made, made_none, made_all, made_long, made_more, made_still, task_now}
use Rattle.machine.specs.State.{most_tasks}
use Rattle.kernel_interrupts.proofs.trigger_all.Given as goal

abbrev pub invariant-loop-i : goal.invariant-loop-i
invariant-loop-i l =
    (l.i ≤ l.most) × Made (trigger_turn day_length l.clock l.n l.interrupt) l.initial.k l.i l.k l.sets × Turned l.initial.k.counts.tasks l.initial.k.tasks l.k.tasks l.turned × (l.most ≤ most_tasks)

abbrev pub decreases-loop-i : goal.decreases-loop-i
decreases-loop-i l = l.most - l.i
