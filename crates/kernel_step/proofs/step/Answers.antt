-- By the kernel test; a quiet tick by the machine's quiet step.
use mathlib.Core.Path.{◌≡◌, sym, ap, ◌∙◌}
use mathlib.Core.Bool.{true, ◌&&◌}
use borrow.Author.Rules.{rules}
use Rattle.calendar.specs.Limits.{day_length}
use Rattle.facts.proofs.Bools.{both}
use Rattle.record.proofs.NumberLaws.{number_some}
use Rattle.record.specs.Numbers.{refused_with}
use Rattle.machine.specs.Step.{step}
use Rattle.machine.specs.Test.{kernel_refusal}
use Rattle.machine.specs.declared.State.{State}
use Rattle.machine.proofs.Filing.{taken_valid}
use Rattle.kernel_values.proofs.TickLaws.{tick_bytes}
use Rattle.kernel_test.proofs.SoundLaws.{sound}
use Rattle.kernel_step.proofs.StepLaws.{step_away}
use Rattle.kernel_step.proofs.step.Goals as goal

pub returns-in-Err : goal.returns-in-Err
returns-in-Err c =
    let e = rw c.in-Err.is at c.kernel_refusal-refused.ensures in
    c.answered.ensures ∙ step_away day_length _ _ (c.number.ensures ∙ e) (λ e. number_some c.in-Err.refusal (sym c.number.ensures ∙ e))

pub is_quiet-requires : goal.is_quiet-requires
is_quiet-requires c = (sound day_length c.args.k (taken_valid day_length c.args.k (sym c.kernel_refusal-refused.ensures ∙ ap refused_with c.in_default.is))).now

pub quiet_tick-requires : goal.quiet_tick-requires
quiet_tick-requires c = record { k_value = (sym c.kernel_refusal-refused.ensures ∙ ap refused_with c.in_default.is); next_value = sym c.is_quiet.ensures ∙ ((both c.is_tick-tick.result c.is_quiet.result c.if-tick-is_quiet.true)).1 }

pub returns-then-tick-is_quiet : goal.returns-then-tick-is_quiet
returns-then-tick-is_quiet c =
    let a = c.args in
    c.quiet_tick.ensures ∙ ap (step day_length a.k) (sym (tick_bytes a.s.now (sym c.is_tick-tick.ensures ∙ ((both c.is_tick-tick.result c.is_quiet.result c.if-tick-is_quiet.true)).0)))

pub step_on-requires : goal.step_on-requires
step_on-requires c = record { k_value = (sym c.kernel_refusal-refused.ensures ∙ ap refused_with c.in_default.is); tick_value = c.is_tick-tick.ensures }
