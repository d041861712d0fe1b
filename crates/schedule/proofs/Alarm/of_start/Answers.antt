-- Set for the first due of a kind that isn't on an interrupt.
use borrow.Author.Rules.{rules}
use native.Mathlib.Omega.{arith}
use mathlib.Core.Path.{◌∙◌}
use Rattle.schedule.specs.Alarms.{alarm_of}
use Rattle.schedule.proofs.Starts.{first_fits}
use Rattle.schedule.proofs.Alarm.of_start.Goals as goal

pub returns : goal.returns
unfolding alarm_of
returns c =
    let e = rw (c.first_due.ensures, c.start_of.ensures) at c.set_for.ensures in (
      e ∙ rw (← c.is_on_interrupt.ensures, c.if-is_on_interrupt.false),
      rw e (first_fits c.args.clock c.args.kind c.args.first c.args.n (omega arith) c.requires),
    )
