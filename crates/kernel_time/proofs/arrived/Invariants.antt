-- Refused by the time, or each task has its turn or stays as it is.
use Rattle.std.specs.Prelude.{None}
use borrow.Author.Rules.{rules}
use mathlib.Core.Path.{◌≡◌, sym, ◌∙◌, ap, ap₂, subst}
use mathlib.Core.Logic.{⊎_elim}
use mathlib.Core.Bool.{true, false, Bool, cond, not, beq}
use Prim.Native.Nat.{ℕ, ◌+◌, ◌≤◌, ◌<◌, ◌-◌}
use native.Mathlib.Nat.{le_antisymm}
use native.Mathlib.Omega.{arith}
use lib.ListN.{length}
use lib.Seq.{get_or-set_other}
use borrow.Author.Tests.{leb-true}
use Rattle.calendar.specs.Limits.{day_length, last_instant}
use Rattle.calendar.specs.declared.Instant.{Instant}
use Rattle.facts.proofs.Bools.{neither}
use Rattle.task.specs.Turns.{tick_turn}
use Rattle.task.proofs.Laws.{still}
use Rattle.task.specs.State.{no_task, runnable}
use Rattle.task.specs.declared.Turn.{Turn}
use Rattle.machine.specs.State.{most_tasks, task_at, with_state, begun_at, place_at, with_file}
use Rattle.machine.specs.Running.{running_of, Running}
use Rattle.machine.specs.NextEvent.{next_among}
use Rattle.machine.specs.Serving.{next_served}
use Rattle.machine.specs.Work.{every_turn}
use Rattle.machine.specs.Test.{valid}
use Rattle.machine.specs.Calls.{arrive, arrival}
use Rattle.machine.specs.Step.{finish}
use Rattle.machine.specs.declared.State.{State}
use Rattle.machine.proofs.NextEvent.{among_same}
use Rattle.machine.proofs.Passed.{tested, parts}
use Rattle.kernel_next.proofs.NextLaws.{among_more}
use Rattle.machine.proofs.Turns.{good_tick}
use Rattle.machine.specs.Places.{moved}
use Rattle.machine.specs.Sets.{holds}
use Rattle.kernel_values.proofs.Owned.{Owned, tasks_long, tables_long}
use Rattle.kernel_sets.proofs.SetTill.{Till, till_none, till_more, till_still, unlike}
use Rattle.kernel_sets.specs.Standing.{turned_if, Turned}
use Rattle.kernel_serving.specs.Served.{served}
use Rattle.kernel_values.specs.Answers.{answer_of}
use Rattle.kernel_finish.proofs.EveryTask.{Made, made_none, made_all, made_more, made_still, task_now, Steady, steady_more, steady_still, tick_keeps, every_done, every_waits, every_idle, every_unserved, every_served}
use Rattle.kernel_time.proofs.StirLaws.{nothing_comes}
use Rattle.kernel_time.proofs.TimeLaws.{arrives, refused, accepted, arrives_in_time}
use Rattle.kernel_time.proofs.TickRuns.{Leading, leading_none, leading_from, leading_more, leading_still, runs_below}
use Rattle.kernel_time.proofs.TickEnds.{turns, unturned, places_apart, turned_moves, turned_all, turned_leads}
use Rattle.kernel_time.proofs.arrived.Given as goal

abbrev pub invariant-loop-i : goal.invariant-loop-i
invariant-loop-i l =
    (l.i ≤ l.most) × Made (tick_turn l.n) l.initial.k l.i l.k l.s × Leading l.initial.k.places l.turned l.k.tasks l.initial.k.counts.tasks l.lead × (l.altered ≡ false → Steady (tick_turn l.n) l.initial.k.tasks l.i) × Till (turns l.n l.initial.k) l.i l.turned × (l.next ≡ next_among l.n l.i l.k.tasks) × (l.most ≤ most_tasks)

abbrev pub decreases-loop-i : goal.decreases-loop-i
decreases-loop-i l = l.most - l.i
