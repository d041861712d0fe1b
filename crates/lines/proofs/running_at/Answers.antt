-- A space before a dash or before the task.
use mathlib.Core.Path.{◌∙◌}
use native.Mathlib.Omega.{arith}
use lib.ListN.{length-set}
use Rattle.lines.specs.Lines.{space, dash, running_text}
use Rattle.lines.proofs.PlacedLaws.{before_text, two_wrote}
use Rattle.lines.proofs.running_at.Goals as goal

pub bounds-out-at-in-None : goal.bounds-out-at-in-None
bounds-out-at-in-None c = simp length-set (omega arith)

pub byte_at-requires : goal.byte_at-requires
byte_at-requires c = simp length-set (omega arith)

pub returns-in-None : goal.returns-in-None
unfolding running_text
returns-in-None c =
    let a = c.args in
    rw c.in-None.is (record { wrote = two_wrote a.out.now a.at space dash (omega arith); upper_bound = omega arith })

pub shape_of-out-in-Some : goal.shape_of-out-in-Some
shape_of-out-in-Some c = c.byte_at.auto.out ∙ simp length-set

pub returns-in-Some : goal.returns-in-Some
unfolding running_text
returns-in-Some c =
    let w = c.byte_at in
    let a = c.args in
    rw c.in-Some.is (record { wrote = before_text a.out.now a.at space (omega arith) w.ensures.wrote; upper_bound = omega arith })
