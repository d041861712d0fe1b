-- A task's line behind those before it.
use native.Mathlib.Omega.{arith}
use mathlib.Core.Path.{refl, ◌∙◌}
use Rattle.wait_lines.proofs.TextLaws.{text_none, text_more, text_all}
use Rattle.wait_lines.proofs.text_at.Goals as goal

pub loop-task-init : goal.loop-task-init
loop-task-init c = let a = c.args in (refl, omega arith, text_none a.k a.out.now a.at)

pub bound_at-end-requires : goal.bound_at-end-requires
bound_at-end-requires c = let h = c.loop-task.invariant in omega (arith, h.0, h.1, c.requires)

pub loop-task-preserved : goal.loop-task-preserved
loop-task-preserved c =
    let a = c.args in
    let l = c.loop-task in
    let b = c.bound_at-end in (
      b.auto.out ∙ l.invariant.0,
      omega arith,
      text_more a.k a.out.now a.at l.task l.invariant.2 (omega arith) c.bound_of.ensures b.ensures.wrote,
    )

pub returns-clause-wrote : goal.returns-clause-wrote
returns-clause-wrote c =
    let a = c.args in
    text_all a.k a.out.now a.at c.loop-task.auto.task-end c.loop-task-test.false c.loop-task.invariant.2
