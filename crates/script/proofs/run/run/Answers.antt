-- What is carried on stays the same, and the text grows by each record's line.
use native.Mathlib.Omega.{arith}
use mathlib.Core.Path.{refl, sym, ap, ◌∙◌}
use Rattle.facts.proofs.Bools.{both}
use Rattle.kernel_values.proofs.Owned.{tables_long}
use Rattle.record.proofs.NumberLaws.{number_some}
use Rattle.record.specs.Numbers.{refused_with}
use Rattle.script.proofs.Going.{early, started, stopped, refused, moved, stepped}
use Rattle.script.proofs.run.run.Goals as goal

pub loop-at-init : goal.loop-at-init
loop-at-init c =
    let a = c.args in
    let k = a.script.kernel.state in
    let o = c.well_formed.0.1.1.0.1.1.0 in
    started a.bytes.now a.out.now k (refused_with c.kernel_refusal-refused.result) (λ i. (c.type_inv.bytes i).fits) (tables_long k (o.0, o.1.1))
    c.kernel_refusal-refused.ensures

pub loop-at-preserved-in-Err : goal.loop-at-preserved-in-Err
loop-at-preserved-in-Err c =
    let w = c.line_at-fill in
    refused (rw c.in-Err.is at c.loop-at.invariant) c.end_of-to.result c.loop-at-test.true c.end_of-to.ensures
    (number_some c.in-Err.refusal) (rw (c.plain_answer.ensures, c.number.ensures) at w.ensures.wrote) w.ensures.upper_bound w.auto.out

pub is_quiet-requires : goal.is_quiet-requires
is_quiet-requires c = early c.loop-at.invariant (ap refused_with c.in_default.is)

pub plus-requires : goal.plus-requires
plus-requires c = omega (arith, early c.loop-at.invariant (ap refused_with c.in_default.is))

pub loop-at-preserved-then-tick-is_quiet : goal.loop-at-preserved-then-tick-is_quiet
loop-at-preserved-then-tick-is_quiet c =
    let w = c.line_at-fill-then-tick-is_quiet in
    let x = both c.is_tick-tick.result c.is_quiet.result c.if-tick-is_quiet.true in
    rw (c.begun_at-k.ensures, c.plus.ensures)
    (moved c.loop-at.invariant c.end_of-to.result c.loop-at-test.true c.end_of-to.ensures (ap refused_with c.in_default.is)
    (sym c.is_tick-tick.ensures ∙ x.0) (sym c.is_quiet.ensures ∙ x.1) (rw c.plain_answer-then-tick-is_quiet.ensures at w.ensures.wrote)
    w.ensures.upper_bound w.auto.out)

pub loop-at-preserved : goal.loop-at-preserved
loop-at-preserved c =
    let w = c.line_if-fill in
    stepped c.loop-at.invariant c.end_of-to.result c.loop-at-test.true c.end_of-to.ensures (ap refused_with c.in_default.is) c.step_on-z.result
    c.step_on-z.ensures w.ensures.wrote w.ensures.upper_bound w.auto.out

pub returns : goal.returns
returns c = stopped c.loop-at.invariant c.args.script refl c.loop-at-test.false
