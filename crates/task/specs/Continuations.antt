-- One task's continuation: what CONTINUE and RESUME on a schedule leave with it, and what it does when it comes due (request 1).
use Rattle.std.specs.Prelude.{false, not, cond, ◌&&◌, ℕ, zero, suc}
use Rattle.calendar.specs.declared.Instant.{Instant}
use Rattle.schedule.specs.declared.Alarm.{Alarm}
use Rattle.schedule.specs.Alarms.{no_alarm, listening, falls, listens, rearmed, set_off}
use Rattle.task.specs.declared.Hold.TheVariants.{Unheld}
use Rattle.task.specs.declared.Task.{Task}
use Rattle.task.specs.State.{unheld, with_current, with_hold, with_continuation}

-- A priority given, or another where it is 0.
abbrev pub or_else : ℕ → ℕ → ℕ
or_else zero q = q
or_else (suc p) q = suc p

-- The task goes on: unheld, with the priority given or the current one.
abbrev pub goes_on : ℕ → Task → Task
goes_on p t = with_hold Unheld (with_current (or_else p t.current) t)

-- With another alarm of its continuation.
abbrev pub with_next : Alarm → Task → Task
with_next a t = with_continuation a t.given t.resumed t

-- Without a continuation.
abbrev pub dropped : Task → Task
dropped t = with_continuation no_alarm 0 false t

-- What a due leaves: a CONTINUE's WHEN waits for its interrupt again, all others are gone.
unfoldable pub spent : Task → Task
spent t = cond (listening t.continuation.plan && not t.resumed) (with_next (rearmed t.continuation) t) (dropped t)

-- The continuation comes due: a held task goes on, with any other nothing happens. A terminated one is not held.
unfoldable pub continued : Task → Task
continued t = spent (cond (unheld t.hold) t (goes_on t.given t))

-- The continuation comes due if it falls on n.
unfoldable pub continue_at : Instant → Task → Task
continue_at n t = cond (falls n t.continuation) (continued t) t

-- A trigger of interrupt i at n sets off a continuation that waits for it.
unfoldable pub called_by : Instant → ℕ → Task → Task
called_by n i t = cond (listens i t.continuation) (continue_at n (with_next (set_off n t.continuation) t)) t
