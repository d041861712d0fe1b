-- A space before the number.
use mathlib.Core.Path.{◌∙◌}
use native.Mathlib.Omega.{arith}
use lib.ListN.{length-set}
use Rattle.lines.specs.Lines.{space}
use Rattle.lines.proofs.PlacedLaws.{before_text}
use Rattle.lines.proofs.spaced_at.Goals as goal

pub decimal_at-requires : goal.decimal_at-requires
decimal_at-requires c = simp length-set (omega arith)

pub shape_of-out : goal.shape_of-out
shape_of-out c = c.decimal_at.auto.out ∙ simp length-set

pub returns : goal.returns
returns c =
    let d = c.decimal_at in
    let a = c.args in
    record { wrote = before_text a.out.now a.at space (omega arith) d.ensures.wrote; upper_bound = omega arith }
