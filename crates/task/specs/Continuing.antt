-- What CONTINUE and RESUME on a schedule keep of their promise to one task (request 1). Proved in
-- proofs/Continuing.antt and proofs/Firing.antt.
use Rattle.std.specs.Prelude.{None, Some, ◌≡◌, ◌≢◌, Bool, true, false, ◌||◌, ℕ}
use Rattle.calendar.specs.Times.{plus}
use Rattle.calendar.specs.declared.Instant.{Instant}
use Rattle.calendar.specs.declared.Duration.{Duration}
use Rattle.schedule.specs.declared.Plan.{Plan}
use Rattle.schedule.specs.declared.Plan.TheVariants.{Armed}
use Rattle.schedule.specs.declared.Alarm.{Alarm}
use Rattle.schedule.specs.declared.Schedule.{Schedule}
use Rattle.schedule.specs.Alarms.{no_alarm, listening, set_for, armed, falls, listens, coming_at, set_off}
use Rattle.schedule.specs.Coming.{next_of}
use Rattle.task.specs.declared.Hold.TheVariants.{Unheld}
use Rattle.task.specs.declared.Task.{Task}
use Rattle.task.specs.State.{unheld, rest_ok, with_continuation}
use Rattle.task.specs.Continuations.{or_else, with_next, continued, called_by}
use Rattle.task.specs.Turns.{unmarked, due_turn, end_turn, prevent_turn, suspend_turn, go_on_turn, delay_turn, delay_ends, tick_turn, plan_turn, trigger_turn, go_on_later_turn}

-- ---- the words

-- A task's continuation: its alarm, the priority that it gives, and whether a RESUME made it.
pub record Has (a : Alarm) (p : ℕ) (r : Bool) (t : Task) : Type 0 where
  pub alarm : t.continuation ≡ a
  pub given : t.given ≡ p
  pub resumed : t.resumed ≡ r

-- None.
abbrev pub HasNone : Task → Type 0
HasNone t = Has no_alarm 0 false t

-- The continuation of t is that of u.
abbrev pub SameContinuation : Task → Task → Type 0
SameContinuation t u = Has t.continuation t.given t.resumed u

-- Held as before, with the priority as before.
pub record SameHold (t u : Task) : Type 0 where
  pub hold : u.hold ≡ t.hold
  pub current : u.current ≡ t.current

-- A continuation that gives p has come due for t, and u is what the task is then.
pub record GoesOn (p : ℕ) (t u : Task) : Type 0 where
  -- it is unheld
  pub goes : u.hold ≡ Unheld
  -- if it was held, with the priority given, or the one current then
  pub taken : unheld t.hold ≡ false → u.current ≡ or_else p t.current
  -- if not, nothing happened to it
  pub idle : unheld t.hold ≡ true → SameHold t u

-- A CONTINUE's WHEN waits for its interrupt again, with its delay and priority.
pub record WaitsAgain (t u : Task) : Type 0 where
  pub plan : u.continuation.plan ≡ Armed
  pub interrupt : u.continuation.interrupt ≡ t.continuation.interrupt
  pub delay : u.continuation.delay ≡ t.continuation.delay
  pub given : u.given ≡ t.given
  pub resumed : u.resumed ≡ false

-- What a due leaves of the continuation of t.
pub record Leaves (t u : Task) : Type 0 where
  pub again : listening t.continuation.plan ≡ true → t.resumed ≡ false → WaitsAgain t u
  -- a RESUME's is gone, WHEN too
  pub resumed : t.resumed ≡ true → HasNone u
  -- and so is any that is no WHEN
  pub once : listening t.continuation.plan ≡ false → HasNone u

-- What no continuation touches.
pub record SameElse (t u : Task) : Type 0 where
  pub declared : u.declared ≡ t.declared
  pub alive : u.alive ≡ t.alive
  pub kept : u.kept ≡ t.kept
  pub wait : u.wait ≡ t.wait
  pub len : u.len ≡ t.len
  pub list : u.list ≡ t.list
  pub schedule : u.schedule ≡ t.schedule

-- ---- the promises

-- A continuation comes due.
pub record ComesDue : Type 0 where
  pub goes : (t : Task) → GoesOn t.given t (continued t)
  pub leaves : (t : Task) → Leaves t (continued t)
  pub else : (t : Task) → SameElse t (continued t)
  -- a terminated task stays so, unheld, with its priority
  pub terminated : (t : Task) → rest_ok t ≡ true → t.alive ≡ false
      → ((continued t).alive ≡ false) × ((continued t).hold ≡ Unheld) × ((continued t).current ≡ t.current)

-- AT and AFTER, with the first due f of a call at n.
pub record Later : Type 0 where
  -- it pends at f, and nothing else changes
  pub pends : (n f : Instant) (p : ℕ) (r : Bool) (t : Task) → f.0 ≢ n.0
      → go_on_later_turn n (set_for f) p r t ≡ unmarked (with_continuation (set_for f) p r t)
  pub next : (f : Instant) → next_of (set_for f) ≡ Some f
  -- where f is n, it comes due in the call
  pub due : (n f : Instant) (p : ℕ) (r : Bool) (t : Task) → f.0 ≡ n.0
      → go_on_later_turn n (set_for f) p r t ≡ unmarked (continued (with_continuation (set_for f) p r t))

-- WHEN and WHEN AFTER, with the interrupt i.
pub record OnInterrupt : Type 0 where
  -- it waits, with no due, and nothing else changes
  pub waits : (n : Instant) (i : ℕ) (d : Duration) (p : ℕ) (r : Bool) (t : Task)
      → go_on_later_turn n (armed i d) p r t ≡ unmarked (with_continuation (armed i d) p r t)
  pub none : (i : ℕ) (d : Duration) → next_of (armed i d) ≡ None
  -- a trigger of another interrupt is none of its
  pub other : (n : Instant) (i : ℕ) (t : Task) → listens i t.continuation ≡ false → called_by n i t ≡ t
  -- its own at n: it pends a delay later
  pub pends : (n : Instant) (i : ℕ) (t : Task) → listens i t.continuation ≡ true → t.continuation.delay.0 ≢ 0
      → called_by n i t ≡ with_next (set_off n t.continuation) t
  pub next : (n : Instant) (a : Alarm) → next_of (set_off n a) ≡ Some (plus n a.delay)
  -- where the delay is 0, it comes due in the call
  pub due : (n : Instant) (i : ℕ) (t : Task) → listens i t.continuation ≡ true → t.continuation.delay.0 ≡ 0
      → called_by n i t ≡ continued (with_next (set_off n t.continuation) t)
  -- anew at each trigger: whether it was set off before, and for when, makes no difference
  pub anew : (n x y : Instant) (i : ℕ) (p q : Plan) (a : Alarm) (t : Task)
      → listens i (coming_at p x a) ≡ true → listens i (coming_at q y a) ≡ true
      → called_by n i (with_next (coming_at p x a) t) ≡ called_by n i (with_next (coming_at q y a) t)

-- A tick to n, at which the continuation of t falls; u is the task after it.
pub record Fires (n : Instant) (t u : Task) : Type 0 where
  -- it is unheld
  pub goes : u.hold ≡ Unheld
  -- if it was held and no delay ends at n, with the priority given, or the one current then
  pub taken : unheld t.hold ≡ false → delay_ends n t.hold ≡ false → u.current ≡ or_else t.given t.current
  -- a living one that was unheld, or that a delay's end unholds first, keeps its own
  pub idle : t.alive ≡ true → (unheld t.hold || delay_ends n t.hold) ≡ true → u.current ≡ t.current
  pub leaves : Leaves t u

-- A trigger at n of the interrupt that the continuation of t waits for; u is the task after it.
pub record Called (n : Instant) (t u : Task) : Type 0 where
  -- with a delay it pends that much later, whatever was to come; a living task's hold stays
  pub pends : t.continuation.delay.0 ≢ 0 → Has (set_off n t.continuation) t.given t.resumed u
  pub holds : t.continuation.delay.0 ≢ 0 → t.alive ≡ true → SameHold t u
  -- without one it came due in the call: the task is unheld, with the priority given if it was held
  pub goes : t.continuation.delay.0 ≡ 0 → u.hold ≡ Unheld
  pub taken : t.continuation.delay.0 ≡ 0 → unheld t.hold ≡ false → u.current ≡ or_else t.given t.current
  pub idle : t.continuation.delay.0 ≡ 0 → t.alive ≡ true → unheld t.hold ≡ true → u.current ≡ t.current
  pub leaves : t.continuation.delay.0 ≡ 0 → Leaves t u

-- In a tick, and in a trigger: a start may come with it.
pub record Turned : Type 0 where
  pub tick : (n : Instant) (t : Task) → rest_ok t ≡ true → falls n t.continuation ≡ true → Fires n t (tick_turn n t).task
  pub trigger : (day clock : ℕ) (n : Instant) (i : ℕ) (t : Task) → rest_ok t ≡ true → listens i t.continuation ≡ true
      → Called n t (trigger_turn day clock n i t).task

-- A delay that ends at n comes first: it finds the task unheld, and the priority isn't taken.
abbrev pub DelayFirst : Type 0
DelayFirst =
    (n : Instant) (t : Task) → t.alive ≡ true → delay_ends n t.hold ≡ true
    → ((tick_turn n t).task.hold ≡ Unheld) × ((tick_turn n t).task.current ≡ t.current)

-- PREVENT removes it and unholds nobody.
abbrev pub Prevented : Type 0
Prevented = (t : Task) → HasNone (prevent_turn t).task × SameHold t (prevent_turn t).task

-- All other turns leave it as it is.
pub record LeftAlone : Type 0 where
  pub due : (p : ℕ) (t : Task) → SameContinuation t (due_turn p t).task
  pub schedule : (n : Instant) (s : Schedule) (t : Task) → SameContinuation t (plan_turn n s t).task
  -- an end leaves it to the next activation
  pub end : (t : Task) → SameContinuation t (end_turn t).task
  pub suspend : (t : Task) → SameContinuation t (suspend_turn t).task
  -- CONTINUE and RESUME at once
  pub continue : (p : ℕ) (t : Task) → SameContinuation t (go_on_turn p t).task
  pub resume : (n : Instant) (t : Task) → SameContinuation t (delay_turn n t).task
  -- a tick to another instant, a trigger of another interrupt
  pub tick : (n : Instant) (t : Task) → falls n t.continuation ≡ false → SameContinuation t (tick_turn n t).task
  pub trigger : (day clock : ℕ) (n : Instant) (i : ℕ) (t : Task) → listens i t.continuation ≡ false
      → SameContinuation t (trigger_turn day clock n i t).task
