-- What a trigger and a due leave of a schedule, and when one comes due. Proved in proofs/Triggers.antt and
-- proofs/Coming.antt.
use Rattle.std.specs.Prelude.{None, Some, ◌≡◌, true, false, ℕ}
use Rattle.calendar.specs.Moments.{is_at}
use Rattle.calendar.specs.Times.{plus}
use Rattle.calendar.specs.Dues.{last_allowed, next_due}
use Rattle.calendar.specs.declared.Instant.{Instant}
use Rattle.schedule.specs.declared.Plan.TheVariants.{Armed, Triggered}
use Rattle.schedule.specs.declared.Alarm.{Alarm}
use Rattle.schedule.specs.declared.Schedule.{Schedule}
use Rattle.schedule.specs.Alarms.{listening, falls}
use Rattle.schedule.specs.Coming.{next_of}
use Rattle.schedule.specs.Schedules.{no_schedule, advance, triggered}

-- A trigger replaces whatever was to come: first and last are computed anew from n, with no regard to the old ones.
abbrev pub TriggerReplaces : Type 0
TriggerReplaces =
    (day clock : ℕ) (n : Instant) (s : Schedule)
    → ((triggered day clock n s).alarm.plan ≡ Triggered)
    × ((triggered day clock n s).alarm.next ≡ plus n s.alarm.delay)
    × ((triggered day clock n s).last ≡ last_allowed day s.end clock (plus n s.alarm.delay))

-- What a due leaves of a schedule, by what the calendar says comes next.
pub record AdvanceGoesOn : Type 0 where
  pub next : (n m : Instant) (s : Schedule) → next_due s.period s.last n ≡ Some m
      → ((advance n s).alarm.plan ≡ s.alarm.plan) × ((advance n s).alarm.next ≡ m) × ((advance n s).last ≡ s.last)
  pub armed : (n : Instant) (s : Schedule) → next_due s.period s.last n ≡ None → listening s.alarm.plan ≡ true
      → (advance n s).alarm.plan ≡ Armed
  pub gone : (n : Instant) (s : Schedule) → next_due s.period s.last n ≡ None → listening s.alarm.plan ≡ false
      → advance n s ≡ no_schedule

-- An alarm falls due at its next instant, and at no other.
abbrev pub FallsAtNext : Type 0
FallsAtNext = (n : Instant) (a : Alarm) → is_at n (next_of a) ≡ falls n a
