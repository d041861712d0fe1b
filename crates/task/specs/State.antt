-- One task as document 01 has it, and the task with one part changed.
use Rattle.std.specs.Prelude.{is_some, None, Option, Some, Bool, true, false, not, ◌&&◌, ◌||◌, List, [], ℕ, take}
use Rattle.lock.specs.declared.Wait.{Wait}
use Rattle.lock.specs.declared.Wait.TheVariants.{Nothing}
use Rattle.lock.specs.Locks.{waiting}
use Rattle.schedule.specs.declared.Alarm.{Alarm}
use Rattle.schedule.specs.declared.Schedule.{Schedule}
use Rattle.schedule.specs.Alarms.{no_alarm}
use Rattle.schedule.specs.Schedules.{no_schedule}
use Rattle.task.specs.declared.Hold.{Hold}
use Rattle.task.specs.declared.Hold.TheVariants.{Unheld, Suspended, Delayed}
use Rattle.task.specs.declared.Task.{Task}

-- What stands at a place that no table has.
abbrev pub no_task : Task
no_task =
    record {
      declared = 0;
      current = 0;
      alive = false;
      kept = None;
      wait = Nothing;
      len = 0;
      list = [];
      given = 0;
      resumed = false;
      hold = Unheld;
      schedule = no_schedule;
      continuation = no_alarm;
    }

-- ---- what is asked of a task

abbrev pub unheld : Hold → Bool
unheld Unheld = true
unheld h = false

abbrev pub suspended : Hold → Bool
suspended Suspended = true
suspended h = false

-- Could run if nobody more urgent could.
abbrev pub runnable : Task → Bool
runnable t = t.alive && unheld t.hold && not (waiting t.wait)

-- A terminated task waits for nothing, is unheld and has no start kept back.
abbrev pub rest_ok : Task → Bool
rest_ok t = t.alive || (not (is_some t.kept) && not (waiting t.wait) && unheld t.hold)

-- The numbers that a waiting task's list names.
abbrev pub wanted : Task → List ℕ
wanted t = take t.len t.list

-- ---- a task with one part changed

abbrev pub with_current : ℕ → Task → Task
with_current p t = record t { current = p }

abbrev pub with_alive : Bool → Task → Task
with_alive b t = record t { alive = b }

abbrev pub with_kept : Option ℕ → Task → Task
with_kept k t = record t { kept = k }

abbrev pub with_hold : Hold → Task → Task
with_hold h t = record t { hold = h }

abbrev pub with_schedule : Schedule → Task → Task
with_schedule s t = record t { schedule = s }

-- A continuation: its alarm, the priority that it gives, and whether a RESUME made it.
abbrev pub with_continuation : Alarm → ℕ → Bool → Task → Task
with_continuation a p r t = record t { given = p; resumed = r; continuation = a }

-- A wait takes the whole list of the call.
abbrev pub wait_for : Wait → ℕ → List ℕ → Task → Task
wait_for w n l t = record t { wait = w; len = n; list = l }

-- Waits for nothing; its list is not looked at any more.
abbrev pub wait_over : Task → Task
wait_over t = wait_for Nothing t.len t.list t
