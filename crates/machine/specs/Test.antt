-- Refusals 1 and 16: the kernel test, and what is on file. Places beyond the counts aren't looked at.
use Rattle.std.specs.Prelude.{None, Option, Some, Bool, true, not, ◌&&◌, ◌||◌, List, ℕ, leb, ltb, eqb}
use Rattle.calendar.specs.Limits.{longest_duration, last_instant, most_instant, is_time_of_day, is_duration, is_period}
use Rattle.calendar.specs.Moments.{same_moment, Moment}
use Rattle.calendar.specs.declared.Instant.{Instant}
use Rattle.calendar.specs.declared.End.{End}
use Rattle.calendar.specs.declared.End.TheVariants.{Open, Until, During}
use Rattle.lists.specs.Lists.{distinct, every}
use Rattle.record.specs.Refusals.{most_value, unless}
use Rattle.lock.specs.Locks.{waiting, value_at, bolt_at}
use Rattle.schedule.specs.Alarms.{planned, pending, listening}
use Rattle.schedule.specs.declared.Alarm.{Alarm}
use Rattle.schedule.specs.declared.Schedule.{Schedule}
use Rattle.task.specs.State.{rest_ok, wanted}
use Rattle.task.specs.declared.Hold.{Hold}
use Rattle.task.specs.declared.Hold.TheVariants.{Unheld, Suspended, Delayed}
use Rattle.task.specs.declared.Task.{Task}
use Rattle.machine.specs.declared.Counts.{Counts}
use Rattle.machine.specs.declared.OnFile.{OnFile}
use Rattle.machine.specs.declared.State.{State}
use Rattle.machine.specs.Sums.{all_below}
use Rattle.machine.specs.State.{most_tasks, most_semaphores, most_bolts, most_interrupts, task_at, place_at, count_of}
use Rattle.machine.specs.Running.{same_running}
use Rattle.machine.specs.NextEvent.{file_of}
use Rattle.machine.specs.Granting.{servable}
use Rattle.layout.specs.Fields.{most_numbers}

-- ---- limits

abbrev pub between : ℕ → ℕ → ℕ → Bool
between a b n = leb a n && leb n b

abbrev pub most_priority : ℕ
most_priority = 255

abbrev pub is_priority : ℕ → Bool
is_priority p = between 1 most_priority p

abbrev pub is_stored : Instant → Bool
is_stored n = leb n.0 most_instant

abbrev pub hold_ok : Hold → Bool
hold_ok Unheld = true
hold_ok Suspended = true
hold_ok (Delayed n) = is_stored n

abbrev pub kept_ok : Option ℕ → Bool
kept_ok None = true
kept_ok (Some p) = is_priority p

abbrev pub end_ok : ℕ → End → Bool
end_ok day Open = true
end_ok day (Until t) = is_time_of_day day t
end_ok day (During d) = is_duration d.0

abbrev pub moment_ok : Moment → Bool
moment_ok None = true
moment_ok (Some n) = is_stored n

-- ---- one task

-- The declared interrupt that an alarm waits for, and the delay.
abbrev pub listener_ok : ℕ → Alarm → Bool
listener_ok ni a = ltb a.interrupt ni && leb a.delay.0 longest_duration

-- A WHEN waits for its interrupt; what is to come has its instant.
unfoldable pub alarm_ok : ℕ → Alarm → Bool
alarm_ok ni a = (not (listening a.plan) || listener_ok ni a) && (not (pending a.plan) || is_stored a.next)

-- Its last due, while one is to come.
abbrev pub last_ok : Schedule → Bool
last_ok s = not (pending s.alarm.plan) || moment_ok s.last

-- Priority, period and end of a schedule.
abbrev pub terms_ok : ℕ → Schedule → Bool
terms_ok day s = is_priority s.priority && is_period s.period && end_ok day s.end

unfoldable pub schedule_ok : ℕ → ℕ → Schedule → Bool
schedule_ok day ni s = not (planned s.alarm.plan) || (alarm_ok ni s.alarm && last_ok s && terms_ok day s)

-- A continuation: its alarm, and the priority that it gives, which can be 0.
unfoldable pub continuation_ok : ℕ → Alarm → ℕ → Bool
continuation_ok ni a p = not (planned a.plan) || (alarm_ok ni a && leb p most_priority)

-- A wait's list names one to four numbers, none twice, all declared.
abbrev pub wait_ok : Counts → Task → Bool
wait_ok n t =
    not (waiting t.wait)
    || (between 1 most_numbers t.len && distinct (wanted t) && every (λ x. ltb x (count_of n t.wait)) (wanted t))

unfoldable pub task_ok : ℕ → Counts → Task → Bool
task_ok day n t =
    is_priority t.declared
    && is_priority t.current
    && kept_ok t.kept
    && hold_ok t.hold
    && rest_ok t
    && wait_ok n t
    && schedule_ok day n.interrupts t.schedule
    && continuation_ok n.interrupts t.continuation t.given

-- ---- the kernel

unfoldable pub counts_ok : Counts → Bool
counts_ok n =
    leb n.tasks most_tasks
    && leb n.semaphores most_semaphores
    && leb n.bolts most_bolts
    && leb n.interrupts most_interrupts

-- Nobody waits on a list that could be granted.
unfoldable pub nobody_servable : State → Bool
nobody_servable k = all_below k.counts.tasks (λ i. not (servable k.counts.tasks k.tasks k.locks i))

-- Each of n tasks has a place below n, and none that a task before it has.
unfoldable pub places_ok : ℕ → List ℕ → Bool
places_ok n ps = all_below n (λ i. ltb (place_at ps i) n && all_below i (λ j. not (eqb (place_at ps j) (place_at ps i))))

-- The kernel test: what passes it isn't refused with 1.
unfoldable pub valid : ℕ → State → Bool
valid day k =
    leb k.now.0 last_instant
    && is_time_of_day day k.clock
    && counts_ok k.counts
    && all_below k.counts.semaphores (λ s. leb (value_at k.locks s) most_value)
    && all_below k.counts.bolts (λ b. leb (bolt_at k.locks b).readers most_value)
    && all_below k.counts.tasks (λ i. task_ok day k.counts (task_at k.tasks i))
    && places_ok k.counts.tasks k.places
    && nobody_servable k

-- The running task and the next event on file are those that the rules give.
abbrev pub same_file : OnFile → OnFile → Bool
same_file f g = same_running f.running g.running && same_moment f.next g.next

unfoldable pub filed : State → Bool
filed k = same_file k.file (file_of k)

-- 1, 16 or 0: what the kernel handed in decides.
unfoldable pub kernel_refusal : ℕ → State → ℕ
kernel_refusal day k = unless (valid day k) 1 (unless (filed k) 16 0)
