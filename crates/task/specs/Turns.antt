-- One task's turn: what a due, an end, a tick or a call does to it, and which sets have it (document 01, "The step").
use Rattle.std.specs.Prelude.{is_some, None, Option, Some, Bool, true, false, cond, ℕ}
use Rattle.calendar.specs.Moments.{is_at}
use Rattle.calendar.specs.declared.Instant.{Instant}
use Rattle.schedule.specs.declared.Alarm.{Alarm}
use Rattle.schedule.specs.declared.Schedule.{Schedule}
use Rattle.schedule.specs.Alarms.{falls, listens}
use Rattle.schedule.specs.Schedules.{no_schedule, advance, triggered}
use Rattle.task.specs.declared.Hold.{Hold}
use Rattle.task.specs.declared.Hold.TheVariants.{Unheld, Suspended, Delayed}
use Rattle.task.specs.declared.Task.{Task}
use Rattle.task.specs.declared.Turn.{Turn}
use Rattle.task.specs.State.{with_current, with_alive, with_kept, with_hold, with_schedule, with_continuation, wait_over}
use Rattle.task.specs.Coming.{delay_end}
use Rattle.task.specs.Continuations.{goes_on, dropped, continue_at, called_by}

-- A turn's marks: due, started, ended, lost. No turn grants.
abbrev pub marked : Bool → Bool → Bool → Bool → Task → Turn
marked d s e l t = record { task = t; marks = record { due = d; started = s; ended = e; lost = l; granted = false } }

-- A turn that marks nothing.
abbrev pub unmarked : Task → Turn
unmarked t = marked false false false false t

-- Unheld, waiting for nothing, with no start kept back.
abbrev pub cleared : Task → Task
cleared t = with_hold Unheld (with_kept None (wait_over t))

-- A task that starts with priority p.
abbrev pub started : ℕ → Task → Task
started p t = with_alive true (with_current p (cleared t))

-- A task that has ended. Its priority goes back; its schedule is not touched.
abbrev pub terminated : Task → Task
terminated t = with_alive false (with_current t.declared (cleared t))

-- ---- due and end

unfoldable pub due_if : Bool → Option ℕ → ℕ → Task → Turn
due_if false kept p t = marked true true false false (started p t)
due_if true None p t = marked true false false false (with_kept (Some p) t)
due_if true (Some q) p t = marked true false false true t

-- A start with priority p falls due: it is made, kept back or lost.
abbrev pub due_turn : ℕ → Task → Turn
due_turn p t = due_if t.alive t.kept p t

unfoldable pub end_if : Option ℕ → Task → Turn
end_if None t = marked false false true false (terminated t)
end_if (Some p) t = marked false true true false (started p t)

-- TERMINATE, and the end of the running task. A start kept back starts.
abbrev pub end_turn : Task → Turn
end_turn t = end_if t.kept t

-- PREVENT removes schedule, continuation and the start kept back, which is lost.
unfoldable pub prevent_turn : Task → Turn
prevent_turn t = marked false false false (is_some t.kept) (dropped (with_schedule no_schedule (with_kept None t)))

-- ---- holds

-- SUSPEND, a delayed task too.
unfoldable pub suspend_turn : Task → Turn
suspend_turn t = unmarked (with_hold Suspended t)

-- CONTINUE, with the priority given or the current one.
unfoldable pub go_on_turn : ℕ → Task → Turn
go_on_turn p t = unmarked (goes_on p t)

-- RESUME delays until n.
unfoldable pub delay_turn : Instant → Task → Turn
delay_turn n t = unmarked (with_hold (Delayed n) t)

abbrev pub delay_ends : Instant → Hold → Bool
delay_ends n h = is_at n (delay_end h)

-- A task delayed until n is unheld.
unfoldable pub wake : Instant → Task → Task
wake n t = cond (delay_ends n t.hold) (with_hold Unheld t) t

-- ---- schedules

-- What of a task's schedule falls on n is due.
unfoldable pub fall_turn : Instant → Task → Turn
fall_turn n t =
    cond (falls n t.schedule.alarm) (due_turn t.schedule.priority (with_schedule (advance n t.schedule) t))
    (unmarked t)

-- A tick to n: the delay first, then the continuation, then the schedule.
abbrev pub tick_turn : Instant → Task → Turn
tick_turn n t = fall_turn n (continue_at n (wake n t))

-- A schedule, from now on.
abbrev pub plan_turn : Instant → Schedule → Task → Turn
plan_turn n s t = fall_turn n (with_schedule s t)

-- A trigger of interrupt i at n sets off a schedule that waits for it.
unfoldable pub start_turn : ℕ → ℕ → Instant → ℕ → Task → Turn
start_turn day clock n i t =
    cond (listens i t.schedule.alarm) (plan_turn n (triggered day clock n t.schedule) t) (unmarked t)

-- TRIGGER of the enabled interrupt i at n: the continuation first, then the schedule.
abbrev pub trigger_turn : ℕ → ℕ → Instant → ℕ → Task → Turn
trigger_turn day clock n i t = start_turn day clock n i (called_by n i t)

-- ---- continuations

-- CONTINUE on a schedule: from now on the task has this continuation.
abbrev pub go_on_later_turn : Instant → Alarm → ℕ → Bool → Task → Turn
go_on_later_turn n a p r t = unmarked (continue_at n (with_continuation a p r t))

-- RESUME on a schedule: the task is suspended, and continues without a priority of its own.
abbrev pub rest_turn : Instant → Alarm → Task → Turn
rest_turn n a t = go_on_later_turn n a 0 true (with_hold Suspended t)
