-- What ACTIVATE, CONTINUE and RESUME do to their task, at once or on a schedule (document 01, "Start kinds"; request 1).
use Rattle.std.specs.Prelude.{false, cond, ℕ, zero, suc, eqb}
use Rattle.calendar.specs.Times.{duration, plus}
use Rattle.calendar.specs.declared.Instant.{Instant}
use Rattle.calendar.specs.declared.End.{End}
use Rattle.calendar.specs.declared.End.TheVariants.{Open, Until, During}
use Rattle.layout.specs.declared.Head.{Head}
use Rattle.schedule.specs.Alarms.{alarm_of}
use Rattle.schedule.specs.Schedules.{begin_with}
use Rattle.task.specs.Continuations.{or_else}
use Rattle.task.specs.Turns.{due_turn, plan_turn, go_on_turn, delay_turn, go_on_later_turn, rest_turn}
use Rattle.schedule.specs.declared.Alarm.{Alarm}
use Rattle.schedule.specs.declared.Schedule.{Schedule}
use Rattle.task.specs.declared.Task.{Task}
use Rattle.task.specs.declared.Turn.{Turn}

abbrev pub end_of : ℕ → ℕ → End
end_of zero t = Open
end_of (suc zero) t = Until t
end_of (suc (suc n)) t = During (duration t)

module _ (day clock : ℕ) (n : Instant) where
  -- The alarm that a call at n sets.
  abbrev pub alarm_by : Head → Alarm
  alarm_by h = alarm_of day clock n h.kind h.first h.interrupt

  -- The schedule that an activation at n gives a task, with the priority p.
  unfoldable pub schedule_of : Head → ℕ → Schedule
  schedule_of h p = begin_with day clock (alarm_by h) (end_of h.endkind h.endtime) h.period p

  -- Kind 0 is due for the task; another kind replaces its schedule. Priority 0 is the declared one.
  unfoldable pub activate_by : Head → Task → Turn
  activate_by h t =
      let p = or_else h.priority t.declared in
      cond (eqb h.kind 0) (due_turn p t) (plan_turn n (schedule_of h p) t)

  -- CONTINUE: kind 0 unholds the task; another kind replaces its continuation. Priority 0 is the one current then.
  unfoldable pub continue_by : Head → Task → Turn
  continue_by h t = cond (eqb h.kind 0) (go_on_turn h.priority t) (go_on_later_turn n (alarm_by h) h.priority false t)

  -- RESUME: kind 0 delays the running task; another kind suspends it and replaces its continuation.
  unfoldable pub resume_by : Head → Task → Turn
  resume_by h t = cond (eqb h.kind 0) (delay_turn (plus n (duration h.first)) t) (rest_turn n (alarm_by h) t)
