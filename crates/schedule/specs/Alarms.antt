-- One alarm: what a start kind sets, when it falls due, what a trigger sets off (document 01, "Start kinds").
use Rattle.std.specs.Prelude.{Bool, true, false, cond, ◌&&◌, ◌||◌, ℕ, eqb}
use Rattle.calendar.specs.Times.{instant, duration, plus}
use Rattle.calendar.specs.Dues.{first_due}
use Rattle.calendar.specs.declared.Instant.{Instant}
use Rattle.calendar.specs.declared.Duration.{Duration}
use Rattle.calendar.specs.declared.Start.{Start}
use Rattle.calendar.specs.declared.Start.TheVariants.{Now, AtTime, After}
use Rattle.record.specs.Refusals.{at_time, after_duration, on_interrupt}
use Rattle.schedule.specs.declared.Plan.{Plan}
use Rattle.schedule.specs.declared.Plan.TheVariants.{None, Clock, Armed, Triggered}
use Rattle.schedule.specs.declared.Alarm.{Alarm}

abbrev pub no_alarm : Alarm
no_alarm = record { plan = None; interrupt = 0; delay = duration 0; next = instant 0 }

-- Something is to come at a known instant.
abbrev pub pending : Plan → Bool
pending None = false
pending Clock = true
pending Armed = false
pending Triggered = true

-- A WHEN, set off or not.
abbrev pub listening : Plan → Bool
listening None = false
listening Clock = false
listening Armed = true
listening Triggered = true

-- There is an alarm.
abbrev pub planned : Plan → Bool
planned p = pending p || listening p

-- Comes due at n.
abbrev pub set_for : Instant → Alarm
set_for n = record { plan = Clock; interrupt = 0; delay = duration 0; next = n }

-- Waits for interrupt i, and comes due d after it.
abbrev pub armed : ℕ → Duration → Alarm
armed i d = record { plan = Armed; interrupt = i; delay = d; next = instant 0 }

-- It comes due at n.
abbrev pub falls : Instant → Alarm → Bool
falls n a = pending a.plan && eqb a.next.0 n.0

-- It is a WHEN on interrupt i.
abbrev pub listens : ℕ → Alarm → Bool
listens i a = listening a.plan && eqb a.interrupt i

-- With another plan and next due.
abbrev pub coming_at : Plan → Instant → Alarm → Alarm
coming_at p n a = record { plan = p; interrupt = a.interrupt; delay = a.delay; next = n }

-- A trigger at n sets a WHEN off, after its delay, replacing whatever was to come.
abbrev pub set_off : Instant → Alarm → Alarm
set_off n a = coming_at Triggered (plus n a.delay) a

-- A WHEN waits for its interrupt again.
abbrev pub rearmed : Alarm → Alarm
rearmed a = coming_at Armed a.next a

-- ---- start kinds

-- When a start of a kind first comes due.
abbrev pub start_of : ℕ → ℕ → Start
start_of kind first = cond (at_time kind) (AtTime first) (cond (after_duration kind) (After (duration first)) Now)

-- The alarm of a start of a kind at n: WHEN waits for its interrupt, AT, AFTER and ALL have their first due.
unfoldable pub alarm_of : ℕ → ℕ → Instant → ℕ → ℕ → ℕ → Alarm
alarm_of day clock n kind first interrupt =
    cond (on_interrupt kind) (armed interrupt (duration first)) (set_for (first_due day (start_of kind first) clock n))
