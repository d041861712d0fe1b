-- Start schedules: what ACTIVATE, PREVENT and TRIGGER make of them, when they come due, and that nothing else touches them
-- (document 01, "Start kinds"). Proved in proofs/Scheduling.antt and proofs/Unscheduling.antt.
use Rattle.std.specs.Prelude.{None, Some, ◌≡◌, ◌≢◌, Bool, true, false, not, ◌&&◌, ◌||◌, List, ℕ, ◌+◌, ◌<◌, eqb}
use Rattle.calendar.specs.Times.{duration, plus}
use Rattle.calendar.specs.Dues.{next_due}
use Rattle.calendar.specs.Promises.{IsNext}
use Rattle.calendar.specs.declared.Instant.{Instant}
use Rattle.calendar.specs.declared.End.{End}
use Rattle.calendar.specs.declared.End.TheVariants.{Open, Until, During}
use Rattle.calendar.specs.Moments.{Moment}
use Rattle.layout.specs.Marks.{is}
use Rattle.layout.specs.declared.Call.{Call}
use Rattle.layout.specs.declared.Head.{Head}
use Rattle.layout.specs.declared.Mark.TheVariants.{AC, PR, TG, TI, SL}
use Rattle.record.specs.Refusals.{scheduled, on_interrupt}
use Rattle.schedule.specs.Alarms.{planned, listening, armed, falls, listens}
use Rattle.schedule.specs.Coming.{next_of}
use Rattle.schedule.specs.Schedules.{no_schedule}
use Rattle.schedule.specs.declared.Plan.TheVariants.{Armed}
use Rattle.schedule.specs.declared.Schedule.{Schedule}
use Rattle.task.specs.Continuing.{SameContinuation, SameHold}
use Rattle.task.specs.declared.Task.{Task}
use Rattle.machine.specs.declared.State.{State}
use Rattle.machine.specs.declared.Stepped.{Stepped}
use Rattle.machine.specs.Sets.{holds}
use Rattle.machine.specs.State.{task_at, enabled_at}
use Rattle.machine.specs.Calls.{arrival}
use Rattle.machine.specs.Step.{step}
use Rattle.machine.specs.Log.{final}
use Rattle.machine.specs.Continuing.{Accepts, task_after, first_of, Touch, meets, unmet, Arrives}

-- ---- first, last and next

-- f is the first due of a start at n: AT the next such time of day, AFTER the duration, ALL at once.
pub record IsFirst (day clock : ℕ) (h : Head) (n f : Instant) : Type 0 where
  pub at : h.kind ≡ 1 → IsNext day clock h.first n f
  pub after : h.kind ≡ 2 → f.0 ≡ n.0 + h.first
  pub all : h.kind ≡ 5 → f.0 ≡ n.0

-- The period and the end that a call gives.
pub record AsAsked (h : Head) (s : Schedule) : Type 0 where
  pub period : s.period ≡ h.period
  pub endless : h.endkind ≡ 0 → s.end ≡ Open
  pub until : h.endkind ≡ 1 → s.end ≡ Until h.endtime
  pub during : h.endkind ≡ 2 → s.end ≡ During (duration h.endtime)

-- m is the last due that an end allows a start whose first is f.
abbrev pub IsLast : ℕ → ℕ → Instant → End → Moment → Type 0
IsLast day clock f Open m = m ≡ None
IsLast day clock f (Until t) m = (l : Instant) × (m ≡ Some l) × IsNext day clock t f l
IsLast day clock f (During d) m = m ≡ Some (plus f d)

-- The interrupt and its delay, the end, the period and the priority are those of s.
pub record SameTerms (s v : Schedule) : Type 0 where
  pub interrupt : v.alarm.interrupt ≡ s.alarm.interrupt
  pub delay : v.alarm.delay ≡ s.alarm.delay
  pub end : v.end ≡ s.end
  pub period : v.period ≡ s.period
  pub priority : v.priority ≡ s.priority

-- What a due at n leaves of the schedule s.
pub record Goes (n : Instant) (s v : Schedule) : Type 0 where
  -- the next due is the calendar's
  pub next : next_of v.alarm ≡ next_due s.period s.last n
  -- if there is none, a WHEN waits for its interrupt again, and any other is gone
  pub again : next_of v.alarm ≡ None → listening s.alarm.plan ≡ true → v.alarm.plan ≡ Armed
  pub gone : next_of v.alarm ≡ None → listening s.alarm.plan ≡ false → v ≡ no_schedule
  -- what there is goes by the same terms, up to the same last due
  pub terms : planned v.alarm.plan ≡ true → SameTerms s v × (v.last ≡ s.last)

-- A schedule s that begins at n with its first due at f, and is v after the call; due: the call makes a start due.
pub record ComesFirst (day clock : ℕ) (n f : Instant) (s v : Schedule) (due : Bool) : Type 0 where
  pub next : next_of s.alarm ≡ Some f
  pub last : IsLast day clock f s.end s.last
  -- it pends
  pub pends : f.0 ≢ n.0 → (v ≡ s) × (due ≡ false)
  -- or, where f is n, came due in the call
  pub comes : f.0 ≡ n.0 → Goes n s v × (due ≡ true)

-- ---- ACTIVATE, PREVENT and TRIGGER

-- ACTIVATE on a schedule of the task t, which is u after it; due: a start of it is due in the call.
pub record Activates (day : ℕ) (k : State) (h : Head) (t u : Task) (due : Bool) : Type 0 where
  -- AT, AFTER and ALL begin at once
  pub begins : on_interrupt h.kind ≡ false
      → (s : Schedule) × AsAsked h s × (listening s.alarm.plan ≡ false)
      × ComesFirst day k.clock k.now (first_of day k h) s u.schedule due
  pub first : IsFirst day k.clock h k.now (first_of day k h)
  -- WHEN and WHEN AFTER wait for their interrupt, a WHEN without a delay
  pub waits : on_interrupt h.kind ≡ true
      → AsAsked h u.schedule × (u.schedule.alarm ≡ armed h.interrupt (duration h.first)) × (due ≡ false)
  pub undelayed : h.kind ≡ 3 → h.first ≡ 0
  -- a living task goes on as it was, and so does a terminated one without a start
  pub goes : (t.alive || not due) ≡ true → (u.alive ≡ t.alive) × SameHold t u
  pub kept : due ≡ false → u.kept ≡ t.kept
  pub continuation : SameContinuation t u

-- The due set of an answer has task i.
abbrev pub due_in : Stepped → ℕ → Bool
due_in s i = holds i s.answer.sets.due

-- For every kernel that passes the test and any bytes that it accepts.
pub record CallsSchedule : Type 0 where
  pub activate : (day : ℕ) (k : State) (s : List ℕ) (c : Call) → Accepts day k s c
      → c.head.mark ≡ AC → scheduled c.head.kind ≡ true
      → let i = c.head.number in
      Activates day k c.head (task_at k.tasks i) (task_after day k s i) (due_in (step day k s) i)
  -- schedule and kept-back start are gone, and the task lives on or not
  pub prevent : (day : ℕ) (k : State) (s : List ℕ) (c : Call) → Accepts day k s c → c.head.mark ≡ PR
      → let t = task_at k.tasks c.head.number in
      let u = task_after day k s c.head.number in
      (u.schedule ≡ no_schedule) × (u.kept ≡ None) × (u.alive ≡ t.alive)
  -- each declared task whose schedule waits for an interrupt, which is enabled: it begins anew, whatever was to come
  pub trigger : (day : ℕ) (k : State) (s : List ℕ) (c : Call) (i : ℕ) → Accepts day k s c
      → c.head.mark ≡ TG → enabled_at k c.head.number ≡ true
      → i < k.counts.tasks → listens c.head.number (task_at k.tasks i).schedule.alarm ≡ true
      → let w = (task_at k.tasks i).schedule in
      (v : Schedule) × SameTerms w v × (listening v.alarm.plan ≡ true)
      × ComesFirst day k.clock k.now (plus k.now w.alarm.delay) v (task_after day k s i).schedule (due_in (step day k s) i)

-- ---- nothing else touches a schedule

-- An accepted call that touches the schedule of task i: ACTIVATE on a schedule or PREVENT that names it, TRIGGER of its
-- enabled interrupt, or the tick or sleep to its next due.
unfoldable pub touches_schedule : Touch
touches_schedule k c i =
    let h = c.head in
    let m = h.mark in
    let a = (task_at k.tasks i).schedule.alarm in
    (is m AC && scheduled h.kind && eqb h.number i)
    || (is m PR && eqb h.number i)
    || (is m TG && enabled_at k h.number && listens h.number a)
    || ((is m TI || is m SL) && falls (arrival m k) a)

-- Whatever the kernel and the bytes: a step that doesn't disturb a declared task's schedule leaves it as it is.
abbrev pub ScheduleUndisturbed : Type 0
ScheduleUndisturbed =
    (day : ℕ) (k : State) (s : List ℕ) (i : ℕ) → i < k.counts.tasks → meets touches_schedule day k s i ≡ false
    → (task_after day k s i).schedule ≡ (task_at k.tasks i).schedule

-- So does a list of records.
abbrev pub ScheduleStays : Type 0
ScheduleStays =
    (day : ℕ) (k : State) (rs : List (List ℕ)) (i : ℕ) → i < k.counts.tasks
    → unmet touches_schedule day i k rs ≡ true
    → (task_at (final day k rs).tasks i).schedule ≡ (task_at k.tasks i).schedule

-- ---- it comes due

-- The arrival s at x: the start of task i is due, and what is left of its schedule.
pub record StartDue (day : ℕ) (k : State) (s : List ℕ) (i : ℕ) (x : Instant) : Type 0 where
  pub due : due_in (step day k s) i ≡ true
  pub leaves : Goes x (task_at k.tasks i).schedule (task_after day k s i).schedule

-- A schedule that pends at x comes due in any arrival at x,
abbrev pub StartsInTime : Type 0
StartsInTime =
    (day : ℕ) (k : State) (s : List ℕ) (i : ℕ) (x : Instant) → i < k.counts.tasks
    → next_of (task_at k.tasks i).schedule.alarm ≡ Some x → Arrives day k s x
    → StartDue day k s i x

-- and in no other: who is in the due set of an arrival at x had a schedule that pends at x.
abbrev pub NoOtherStarts : Type 0
NoOtherStarts =
    (day : ℕ) (k : State) (s : List ℕ) (i : ℕ) (x : Instant) → i < k.counts.tasks → Arrives day k s x
    → due_in (step day k s) i ≡ true → falls x (task_at k.tasks i).schedule.alarm ≡ true

-- The promise: a schedule that pends at x and that no record of a list disturbs comes due in any arrival at x.
abbrev pub StartPromiseKept : Type 0
StartPromiseKept =
    (day : ℕ) (k : State) (rs : List (List ℕ)) (i : ℕ) (x : Instant) → i < k.counts.tasks
    → next_of (task_at k.tasks i).schedule.alarm ≡ Some x → unmet touches_schedule day i k rs ≡ true
    → let z = final day k rs in (s : List ℕ) → Arrives day z s x
    → StartDue day z s i x
