-- The turns of the tasks so far are made.
use borrow.Author.Rules.{rules}
use mathlib.Core.Path.{sym, ◌∙◌}
use Prim.Native.Nat.{◌≤◌, ◌<◌, ◌-◌}
use native.Mathlib.Nat.{le_antisymm}
use native.Mathlib.Omega.{arith}
use lib.ListN.{length}
use Rattle.calendar.specs.Limits.{day_length}
use Rattle.task.specs.Turns.{trigger_turn}
use Rattle.task.proofs.Laws.{deaf}
use Rattle.kernel_values.proofs.Owned.{tasks_long}
use Rattle.kernel_sets.specs.Standing.{Turned}
use Rattle.kernel_sets.proofs.Turning.{turned_more}
use Rattle.kernel_finish.proofs.EveryTask.{Made, made_none, made_all, made_long, made_more, made_still, task_now}
use Rattle.kernel_interrupts.proofs.trigger_all.Goals as goal
use Rattle.kernel_interrupts.proofs.trigger_all.Goals.{then-listens_to, else-listens_to}

pub loop-i-init : goal.loop-i-init
loop-i-init c = (search rules, rw c.no_sets-sets.ensures (made_none _ _), c.nobody_turned-turned.ensures _ _, c.requires.tasks_le_most_tasks)

pub loop-i-preserved : goal.loop-i-preserved
loop-i-preserved c =
    let k = c.args.k in
    let o = c.loop-i in
    let long = tasks_long k (c.well_formed.0.0, c.well_formed.0.1.1) in
    let less : o.i < length k.tasks = omega (arith, long, c.loop-i-test.true, c.requires.tasks_le_most_tasks) in
    let f = trigger_turn day_length k.clock k.now c.args.interrupt in
    let room : o.i < length o.k.tasks = omega (arith, less, made_long f k o.invariant.1) in (
      search rules,
      elim c.if-listens_to.branch [
        | then-listens_to w ↦ made_more f k o.i less o.invariant.1 w.trigger-u.result w.trigger-u.ensures w.k-is (w.sets-is ∙ w.put_marks-sets.ensures)
        | else-listens_to w ↦ made_still f k o.i less o.invariant.1 (deaf day_length k.clock k.now c.args.interrupt _ (sym c.listens_to.ensures ∙ w.if-listens_to.false)) w.k-is w.sets-is
      ],
      elim c.if-listens_to.branch [
        | then-listens_to w ↦
            rw (w.k-is, w.turned-is, w.with_turn-turned.ensures)
            (turned_more k.counts.tasks k.tasks o.k.tasks o.turned o.invariant.2 o.i room (task_now f k o.i less o.invariant.1) w.trigger-u.result.task)
        | else-listens_to w ↦ rw (w.k-is, w.turned-is) o.invariant.2
      ],
      o.invariant.3,
    )

pub returns : goal.returns
returns c =
    let l = c.loop-i in
    let a = made_all (trigger_turn _ _ _ _) _ _ (le_antisymm l.invariant.0 c.loop-i-test.false) l.invariant.1 in
    (a.0, a.1, l.invariant.2)
