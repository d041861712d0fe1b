-- The count so far is that of the tasks so far.
use borrow.Author.Rules.{rules}
use mathlib.Core.Path.{◌≡◌, ◌∙◌}
use Prim.Native.Nat.{◌+◌, ◌-◌, ◌≤◌}
use native.Mathlib.Nat.{min-le_right}
use native.Mathlib.Omega.{arith}
use Rattle.machine.specs.State.{most_tasks}
use Rattle.kernel_values.proofs.Owned.{Owned, tasks_long}
use Rattle.kernel_bound.proofs.QueueLaws.{ahead_below, ahead_none, ahead_more, ahead_passed, ahead_all}
use Rattle.kernel_bound.proofs.ahead.Goals as goal
use Rattle.kernel_bound.proofs.ahead.Goals.{then-is_ahead, else-is_ahead}

pub loop-i-init : goal.loop-i-init
loop-i-init c =
    let a = c.args in
    (search rules, omega (arith, c.in_table-n.ensures, min-le_right a.k.counts.tasks most_tasks), search rules, ahead_none a.k a.s a.j)

pub loop-i-preserved : goal.loop-i-preserved
loop-i-preserved c = (
  search rules,
  search rules,
  (elim c.if-is_ahead.branch [ then-is_ahead w ↦ omega arith | else-is_ahead w ↦ omega arith ]),
  (let a = c.args in
      let own = c.urgency_of-urgency.ensures.0 in
      let said = c.is_ahead.ensures in
      let so_far = c.loop-i.invariant.3 in
      elim c.if-is_ahead.branch [
        | then-is_ahead w ↦ w.count-is ∙ ahead_more a.k a.s a.j c.loop-i.i own said so_far w.if-is_ahead.true
        | else-is_ahead w ↦ w.count-is ∙ ahead_passed a.k a.s a.j c.loop-i.i own said so_far w.if-is_ahead.false
      ]),
)

pub returns : goal.returns
returns c =
    let n = c.in_table-n in
    let all = ahead_all c.args.k c.args.s c.args.j (tasks_long c.args.k (((c.well_formed.0.0, c.well_formed.0.1.1)))) n.ensures in
    (all c.loop-i.invariant.0 c.loop-i-test.false c.loop-i.invariant.3, omega arith)
