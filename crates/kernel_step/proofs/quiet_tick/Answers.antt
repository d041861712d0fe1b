-- By the quiet step of the machine.
use mathlib.Core.Path.{ap, ◌∙◌}
use Rattle.calendar.specs.Limits.{day_length}
use Rattle.machine.specs.Step.{answered}
use Rattle.machine.specs.declared.State.{State}
use native.Mathlib.Omega.{arith}
use Rattle.machine.proofs.Filing.{taken_valid}
use Rattle.kernel_test.proofs.SoundLaws.{sound}
use Rattle.kernel_values.proofs.Owned.{tasks_long}
use Rattle.kernel_step.proofs.StepLaws.{quiet_tick_law}
use borrow.Author.Rules.{rules}
use Rattle.kernel_step.proofs.quiet_tick.Goals as goal

pub plus-requires : goal.plus-requires
plus-requires c =
    omega (arith, (sound day_length c.args.k (taken_valid day_length c.args.k c.requires.k_value)).now)

pub returns : goal.returns
returns c =
    let k = c.args.k in
    c.answered.ensures
    ∙ ap (λ (q : State). answered q 0 k.file.running) c.begun_at.ensures
    ∙ quiet_tick_law day_length k (tasks_long k (c.well_formed.0.0, c.well_formed.0.1.1)) c.requires.k_value c.requires.next_value c.plus.ensures
