-- When an alarm comes due without another call.
use Rattle.std.specs.Prelude.{None, Some, cond}
use Rattle.calendar.specs.Moments.{Moment}
use Rattle.schedule.specs.declared.Alarm.{Alarm}
use Rattle.schedule.specs.Alarms.{pending}

-- The next due of an alarm. One that waits for its interrupt has none.
abbrev pub next_of : Alarm → Moment
next_of a = cond (pending a.plan) (Some a.next) None
