-- Continuations: what CONTINUE, RESUME and TRIGGER make of them, when they come due, and that nothing else touches them
-- (request 1). Proved in proofs/Accepted.antt, proofs/Continuing.antt, proofs/Undisturbed.antt, proofs/Arriving.antt and
-- proofs/Unholding.antt.
use Rattle.std.specs.Prelude.{Err, None, Ok, Some, ◌≡◌, ◌≢◌, ◌⊎◌, Bool, true, false, not, ◌&&◌, ◌||◌, List, [], ◌∷◌, ◌++◌, ℕ, suc, ◌+◌, ◌<◌, ◌≤◌, length, eqb}
use Rattle.calendar.specs.Limits.{last_instant}
use Rattle.calendar.specs.Times.{duration}
use Rattle.calendar.specs.Dues.{first_due}
use Rattle.calendar.specs.declared.Instant.{Instant}
use Rattle.layout.specs.Marks.{is}
use Rattle.layout.specs.declared.Call.{Call}
use Rattle.layout.specs.declared.Head.{Head}
use Rattle.layout.specs.declared.Mark.TheVariants.{PR, CO, RE, TG, TI, SL}
use Rattle.record.specs.Refusals.{scheduled, on_interrupt}
use Rattle.record.specs.Reading.{accepted, call_with, opened, Read}
use Rattle.lock.specs.declared.Wait.{Wait}
use Rattle.schedule.specs.Alarms.{set_for, armed, start_of, falls, listens}
use Rattle.schedule.specs.Coming.{next_of}
use Rattle.task.specs.State.{wait_for}
use Rattle.task.specs.Continuing.{Has, HasNone, SameContinuation, SameHold, GoesOn, Called, Fires}
use Rattle.task.specs.declared.Hold.TheVariants.{Unheld, Suspended}
use Rattle.task.specs.declared.Task.{Task}
use Rattle.machine.specs.declared.State.{State}
use Rattle.machine.specs.Running.{Running, runner}
use Rattle.machine.specs.State.{most_tasks, task_at, enabled_at}
use Rattle.machine.specs.Serving.{Served, serve}
use Rattle.machine.specs.Test.{valid, kernel_refusal}
use Rattle.machine.specs.Calls.{arrival}
use Rattle.machine.specs.Step.{step}
use Rattle.machine.specs.Log.{AllOctets, final, log}
use Rattle.machine.specs.Invariants.{IsDay, Passes}
use Rattle.machine.specs.Scripts.{row, one_tick, sleep}
use Rattle.machine.specs.Quiet.{Quiet, later, quiet_tick}

-- ---- serving

-- u is t with another wait.
abbrev pub SameButWait : Task → Task → Type 0
SameButWait t u = (w : Wait) × (u ≡ wait_for w t.len t.list t)

-- Serving changes nothing else.
abbrev pub ServingKeeps : Type 0
ServingKeeps =
    (n : ℕ) (ps : List ℕ) (turns : ℕ) (p : Served) (i : ℕ)
    → SameButWait (task_at p.tasks i) (task_at (serve n ps turns p).tasks i)

-- ---- CONTINUE, RESUME and TRIGGER

-- A kernel that passes the test accepts bytes that open to c.
pub record Accepts (day : ℕ) (k : State) (s : List ℕ) (c : Call) : Type 0 where
  pub tested : valid day k ≡ true
  pub opens : opened s ≡ accepted c
  pub number : (step day k s).answer.number ≡ 0

-- Task i after a step.
abbrev pub task_after : ℕ → State → List ℕ → ℕ → Task
task_after day k s i = task_at (step day k s).state.tasks i

-- When a call of k's present instant first comes due.
abbrev pub first_of : ℕ → State → Head → Instant
first_of day k h = first_due day (start_of h.kind h.first) k.clock k.now

-- CONTINUE of the task t, which is u after it.
pub record Continues (day : ℕ) (k : State) (h : Head) (t u : Task) : Type 0 where
  -- AT and AFTER pend at their first due, and the task is held as before
  pub pends : on_interrupt h.kind ≡ false → (first_of day k h).0 ≢ k.now.0
      → Has (set_for (first_of day k h)) h.priority false u × SameHold t u
  -- where that is now, the continuation came due in the call and is gone
  pub due : on_interrupt h.kind ≡ false → (first_of day k h).0 ≡ k.now.0 → HasNone u × GoesOn h.priority t u
  -- WHEN and WHEN AFTER wait for their interrupt
  pub waits : on_interrupt h.kind ≡ true
      → Has (armed h.interrupt (duration h.first)) h.priority false u × SameHold t u

-- RESUME of the running task t, which is u after it.
pub record Rests (day : ℕ) (k : State) (h : Head) (t u : Task) : Type 0 where
  -- AT and AFTER pend at their first due, and the task is suspended
  pub pends : on_interrupt h.kind ≡ false → (first_of day k h).0 ≢ k.now.0
      → Has (set_for (first_of day k h)) 0 true u × (u.hold ≡ Suspended)
  -- where that is now, it goes on
  pub due : on_interrupt h.kind ≡ false → (first_of day k h).0 ≡ k.now.0 → HasNone u × (u.hold ≡ Unheld)
  -- WHEN and WHEN AFTER wait for their interrupt
  pub waits : on_interrupt h.kind ≡ true
      → Has (armed h.interrupt (duration h.first)) 0 true u × (u.hold ≡ Suspended)
  -- its priority stays
  pub current : u.current ≡ t.current

-- For every kernel that passes the test and any bytes that it accepts.
pub record CallsMake : Type 0 where
  -- on a schedule: the task named, and the running one
  pub continue : (day : ℕ) (k : State) (s : List ℕ) (c : Call) → Accepts day k s c
      → c.head.mark ≡ CO → scheduled c.head.kind ≡ true
      → Continues day k c.head (task_at k.tasks c.head.number) (task_after day k s c.head.number)
  pub resume : (day : ℕ) (k : State) (s : List ℕ) (c : Call) (i : ℕ) → Accepts day k s c
      → c.head.mark ≡ RE → scheduled c.head.kind ≡ true → runner k ≡ Some i
      → Rests day k c.head (task_at k.tasks i) (task_after day k s i)
  -- PREVENT removes it and unholds nobody
  pub prevent : (day : ℕ) (k : State) (s : List ℕ) (c : Call) → Accepts day k s c → c.head.mark ≡ PR
      → let u = task_after day k s c.head.number in
      HasNone u × SameHold (task_at k.tasks c.head.number) u
  -- each declared task whose continuation waits for an interrupt, which is enabled
  pub trigger : (day : ℕ) (k : State) (s : List ℕ) (c : Call) (i : ℕ) → Accepts day k s c
      → c.head.mark ≡ TG → enabled_at k c.head.number ≡ true
      → i < k.counts.tasks → listens c.head.number (task_at k.tasks i).continuation ≡ true
      → Called k.now (task_at k.tasks i) (task_after day k s i)

-- ---- nothing else touches a continuation

-- Task i runs.
abbrev pub is_runner : Running → ℕ → Bool
is_runner None i = false
is_runner (Some j) i = eqb j i

-- An accepted call that touches the continuation of task i: CONTINUE on a schedule or PREVENT that names it, RESUME on a
-- schedule while it runs, TRIGGER of its enabled interrupt, or the tick or sleep to its instant.
unfoldable pub touches : State → Call → ℕ → Bool
touches k c i =
    let h = c.head in
    let m = h.mark in
    let a = (task_at k.tasks i).continuation in
    (is m CO && scheduled h.kind && eqb h.number i)
    || (is m PR && eqb h.number i)
    || (is m RE && scheduled h.kind && is_runner (runner k) i)
    || (is m TG && enabled_at k h.number && listens h.number a)
    || ((is m TI || is m SL) && falls (arrival m k) a)

-- What was opened is such a call.
abbrev pub touches_by : State → Read → List ℕ → ℕ → Bool
touches_by k (Err n) l i = false
touches_by k (Ok h) l i = touches k (call_with h l) i

-- Bytes disturb it if they open to such a call and are accepted.
abbrev pub disturbs : ℕ → State → List ℕ → ℕ → Bool
disturbs day k s i = eqb (step day k s).answer.number 0 && touches_by k (opened s).answer (opened s).list i

-- Whatever the kernel and the bytes: a step that doesn't disturb a declared task's continuation leaves it as it is.
abbrev pub NothingElse : Type 0
NothingElse =
    (day : ℕ) (k : State) (s : List ℕ) (i : ℕ) → i < k.counts.tasks → disturbs day k s i ≡ false
    → SameContinuation (task_at k.tasks i) (task_after day k s i)

-- No record of a list disturbs it.
unfoldable pub undisturbed : ℕ → ℕ → State → List (List ℕ) → Bool
undisturbed day i k [] = true
undisturbed day i k (r ∷ rs) = not (disturbs day k r i) && undisturbed day i (step day k r).state rs

-- Then it is the same after the list.
abbrev pub StaysOverLists : Type 0
StaysOverLists =
    (day : ℕ) (k : State) (rs : List (List ℕ)) (i : ℕ) → i < k.counts.tasks → undisturbed day i k rs ≡ true
    → SameContinuation (task_at k.tasks i) (task_at (final day k rs).tasks i)

-- ---- it comes due

-- The tick to x: accepted, and the continuation of task i comes due.
pub record Due (day : ℕ) (k : State) (i : ℕ) (x : Instant) : Type 0 where
  pub number : (step day k one_tick).answer.number ≡ 0
  pub fires : Fires x (task_at k.tasks i) (task_after day k one_tick i)

-- A continuation that pends at x comes due in the tick to x.
abbrev pub DueInTime : Type 0
DueInTime =
    (day : ℕ) (k : State) (i : ℕ) (x : Instant) → length k.tasks ≡ most_tasks → kernel_refusal day k ≡ 0
    → i < k.counts.tasks → next_of (task_at k.tasks i).continuation ≡ Some x
    → k.now.0 + 1 ≡ x.0 → x.0 ≤ last_instant
    → Due day k i x

-- d ticks are quiet, and in the next the continuation of task i comes due.
pub record DueAfter (day d : ℕ) (k : State) (i : ℕ) (x : Instant) : Type 0 where
  pub answers : log day k (row (suc d) one_tick)
      ≡ row d (quiet_tick k) ++ record { bytes = one_tick; answer = (step day (later d k) one_tick).answer } ∷ []
  pub number : (step day (later d k) one_tick).answer.number ≡ 0
  pub fires : Fires x (task_at k.tasks i) (task_at (final day k (row (suc d) one_tick)).tasks i)

-- A continuation that pends at x, with nothing to come before.
abbrev pub DueAfterTicks : Type 0
DueAfterTicks =
    (day d : ℕ) (k : State) (i : ℕ) (x : Instant) → length k.tasks ≡ most_tasks → kernel_refusal day k ≡ 0
    → i < k.counts.tasks → next_of (task_at k.tasks i).continuation ≡ Some x
    → Quiet d k → k.now.0 + d + 1 ≡ x.0 → x.0 ≤ last_instant
    → DueAfter day d k i x

-- The promise: a continuation that pends at x and that no record of a list disturbs comes due in the tick to x, as it was
-- asked for.
abbrev pub PromiseKept : Type 0
PromiseKept =
    (day : ℕ) → IsDay day → (k : State) → Passes day k → (rs : List (List ℕ)) → AllOctets rs
    → (i : ℕ) (x : Instant) → i < k.counts.tasks → next_of (task_at k.tasks i).continuation ≡ Some x
    → undisturbed day i k rs ≡ true
    → let z = final day k rs in z.now.0 + 1 ≡ x.0 → x.0 ≤ last_instant
    → SameContinuation (task_at k.tasks i) (task_at z.tasks i) × Due day z i x

-- ---- any test of calls

-- A test of calls: whether one, accepted by a kernel, touches something of a task.
abbrev pub Touch : Type 0
Touch = State → Call → ℕ → Bool

-- What was opened is such a call.
abbrev pub met_by : Touch → State → Read → List ℕ → ℕ → Bool
met_by touch k (Err n) l i = false
met_by touch k (Ok h) l i = touch k (call_with h l) i

-- Bytes meet a test if they open to such a call and are accepted.
abbrev pub meets : Touch → ℕ → State → List ℕ → ℕ → Bool
meets touch day k s i = eqb (step day k s).answer.number 0 && met_by touch k (opened s).answer (opened s).list i

-- No record of a list meets it.
unfoldable pub unmet : Touch → ℕ → ℕ → State → List (List ℕ) → Bool
unmet touch day i k [] = true
unmet touch day i k (r ∷ rs) = not (meets touch day k r i) && unmet touch day i (step day k r).state rs

-- ---- it comes due in a tick or a sleep

-- A tick or a sleep that k accepts and that leads to x.
pub record Arrives (day : ℕ) (k : State) (s : List ℕ) (x : Instant) : Type 0 where
  pub call : Call
  pub accepts : Accepts day k s call
  pub time : (call.head.mark ≡ TI) ⊎ (call.head.mark ≡ SL)
  pub now : (step day k s).state.now ≡ x

-- For every kernel that isn't turned away, with its table of tasks: a tick leads to the next instant, up to the last one,
abbrev pub TickArrives : Type 0
TickArrives =
    (day : ℕ) (k : State) (x : Instant) → length k.tasks ≡ most_tasks → kernel_refusal day k ≡ 0
    → k.now.0 + 1 ≡ x.0 → x.0 ≤ last_instant → Arrives day k one_tick x

-- and a sleep to the next event on file.
abbrev pub SleepArrives : Type 0
SleepArrives =
    (day : ℕ) (k : State) (x : Instant) → length k.tasks ≡ most_tasks → kernel_refusal day k ≡ 0
    → k.file.next ≡ Some x → x.0 ≤ last_instant → Arrives day k sleep x

-- The arrival s at x: accepted, and the continuation of task i comes due.
pub record DueOn (day : ℕ) (k : State) (s : List ℕ) (i : ℕ) (x : Instant) : Type 0 where
  pub number : (step day k s).answer.number ≡ 0
  pub fires : Fires x (task_at k.tasks i) (task_after day k s i)

-- A continuation that pends at x comes due in any arrival at x.
abbrev pub DueOnArrival : Type 0
DueOnArrival =
    (day : ℕ) (k : State) (s : List ℕ) (i : ℕ) (x : Instant) → i < k.counts.tasks
    → next_of (task_at k.tasks i).continuation ≡ Some x → Arrives day k s x
    → DueOn day k s i x

-- The promise for any kernel: a continuation that pends at x and that no record of a list disturbs comes due in any arrival
-- at x, as it was asked for.
abbrev pub PromiseOnArrival : Type 0
PromiseOnArrival =
    (day : ℕ) (k : State) (rs : List (List ℕ)) (i : ℕ) (x : Instant) → i < k.counts.tasks
    → next_of (task_at k.tasks i).continuation ≡ Some x → undisturbed day i k rs ≡ true
    → let z = final day k rs in (s : List ℕ) → Arrives day z s x
    → SameContinuation (task_at k.tasks i) (task_at z.tasks i) × DueOn day z s i x
