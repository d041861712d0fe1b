-- One schedule: an alarm, how often it comes again and how long (document 01, "Start kinds").
use Rattle.std.specs.Prelude.{None, Some, cond, ℕ}
use Rattle.calendar.specs.Dues.{last_allowed, next_due}
use Rattle.calendar.specs.declared.Instant.{Instant}
use Rattle.calendar.specs.declared.End.{End}
use Rattle.calendar.specs.declared.End.TheVariants.{Open}
use Rattle.calendar.specs.Moments.{Moment}
use Rattle.schedule.specs.declared.Alarm.{Alarm}
use Rattle.schedule.specs.declared.Schedule.{Schedule}
use Rattle.schedule.specs.Alarms.{no_alarm, pending, listening, coming_at, rearmed, set_off}

abbrev pub no_schedule : Schedule
no_schedule = record { alarm = no_alarm; last = None; end = Open; period = 0; priority = 0 }

abbrev pub with_alarm : Alarm → Schedule → Schedule
with_alarm a s = record { alarm = a; last = s.last; end = s.end; period = s.period; priority = s.priority }

abbrev pub advanced : Moment → Schedule → Schedule
advanced None s = cond (listening s.alarm.plan) (with_alarm (rearmed s.alarm) s) no_schedule
advanced (Some n) s = with_alarm (coming_at s.alarm.plan n s.alarm) s

-- What a due at n leaves: the next due if the calendar has one, else an armed WHEN or nothing.
unfoldable pub advance : Instant → Schedule → Schedule
advance n s = advanced (next_due s.period s.last n) s

module _ (day clock : ℕ) where
  -- The last allowed due, counted from the one to come; while an alarm is armed there is none.
  unfoldable pub last_of : End → Alarm → Moment
  last_of e a = cond (pending a.plan) (last_allowed day e clock a.next) None

  -- A schedule that begins with an alarm: its end, period and priority.
  abbrev pub begin_with : Alarm → End → ℕ → ℕ → Schedule
  begin_with a e period p = record { alarm = a; last = last_of e a; end = e; period = period; priority = p }

  -- A trigger at n begins it anew.
  abbrev pub triggered : Instant → Schedule → Schedule
  triggered n s = begin_with (set_off n s.alarm) s.end s.period s.priority
