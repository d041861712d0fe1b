-- The priority that a start takes, and what it finds and leaves (document 01, "The step"). Proved in proofs/Starting.antt.
use Rattle.std.specs.Prelude.{is_some, None, Some, ◌≡◌, Bool, true, false, not, ◌&&◌, ◌||◌, ℕ, eqb}
use Rattle.calendar.specs.Moments.{is_at}
use Rattle.calendar.specs.declared.Instant.{Instant}
use Rattle.lock.specs.declared.Wait.TheVariants.{Nothing}
use Rattle.schedule.specs.Alarms.{planned, listens}
use Rattle.schedule.specs.Coming.{next_of}
use Rattle.schedule.specs.declared.Alarm.{Alarm}
use Rattle.schedule.specs.declared.Schedule.{Schedule}
use Rattle.task.specs.declared.Hold.TheVariants.{Unheld}
use Rattle.task.specs.declared.Marks.{Marks}
use Rattle.task.specs.declared.Task.{Task}
use Rattle.task.specs.declared.Turn.{Turn}
use Rattle.task.specs.Continuing.{SameHold}
use Rattle.task.specs.Turns.{due_turn, end_turn, prevent_turn, suspend_turn, go_on_turn, delay_turn, tick_turn, plan_turn, trigger_turn, go_on_later_turn, rest_turn}

-- ---- the words

-- Alive or terminated, unheld, waiting for nothing, with no start kept back.
pub record Clear (alive : Bool) (u : Task) : Type 0 where
  pub lives : u.alive ≡ alive
  pub hold : u.hold ≡ Unheld
  pub wait : u.wait ≡ Nothing
  pub kept : u.kept ≡ None

-- The marks m make u of the task t; a start that comes due with them has the priority p.
pub record Takes (p : ℕ) (t : Task) (m : Marks) (u : Task) : Type 0 where
  -- made, it has that priority
  pub made : m.due ≡ true → m.started ≡ true → u.current ≡ p
  -- neither made nor lost, it is kept back with it
  pub kept : m.due ≡ true → m.started ≡ false → m.lost ≡ false → u.kept ≡ Some p
  -- lost, it leaves the one kept back as it was
  pub lost : m.due ≡ true → m.lost ≡ true → u.kept ≡ t.kept
  -- after an end the one kept back starts, with its own
  pub back : (q : ℕ) → m.ended ≡ true → t.kept ≡ Some q → (m.started ≡ true) × (u.current ≡ q)
  -- after an end without a start the task has the declared one again
  pub again : m.ended ≡ true → m.started ≡ false → u.current ≡ t.declared
  -- what a start and an end leave
  pub begins : m.started ≡ true → Clear true u
  pub ends : m.ended ≡ true → m.started ≡ false → Clear false u
  -- the one kept back stays as it is where nothing comes due, ends or is lost
  pub stays : m.due ≡ false → m.ended ≡ false → m.lost ≡ false → u.kept ≡ t.kept
  -- the declared one stays
  pub declared : u.declared ≡ t.declared

-- Whether a start comes due and whether the task ends say whether it starts: terminated when the start came due, or ended
-- with a start kept back.
pub record MarkedAs (due ended : Bool) (t : Task) (m : Marks) : Type 0 where
  pub is_due : m.due ≡ due
  pub is_ended : m.ended ≡ ended
  pub is_started : m.started ≡ ((due && not t.alive) || (ended && is_some t.kept))

abbrev pub TakesIn : ℕ → Task → Turn → Type 0
TakesIn p t x = Takes p t x.marks x.task

-- A schedule that is there has the priority p.
abbrev pub Plans : ℕ → Task → Type 0
Plans p u = planned u.schedule.alarm.plan ≡ true → u.schedule.priority ≡ p

-- ---- the promises

-- In every turn: a schedule's starts take its priority, an activation's the one that it gives.
pub record TurnsTake : Type 0 where
  pub due : (p : ℕ) (t : Task) → TakesIn p t (due_turn p t)
  pub schedule : (n : Instant) (s : Schedule) (t : Task) → TakesIn s.priority t (plan_turn n s t)
  pub tick : (n : Instant) (t : Task) → TakesIn t.schedule.priority t (tick_turn n t)
  pub trigger : (day clock : ℕ) (n : Instant) (i : ℕ) (t : Task) → TakesIn t.schedule.priority t (trigger_turn day clock n i t)
  -- nothing comes due in the others
  pub end : (p : ℕ) (t : Task) → TakesIn p t (end_turn t)
  pub prevent : (p : ℕ) (t : Task) → TakesIn p t (prevent_turn t)
  pub suspend : (p : ℕ) (t : Task) → TakesIn p t (suspend_turn t)
  pub continue : (p q : ℕ) (t : Task) → TakesIn p t (go_on_turn q t)
  pub resume : (p : ℕ) (n : Instant) (t : Task) → TakesIn p t (delay_turn n t)
  pub later : (p : ℕ) (n : Instant) (a : Alarm) (q : ℕ) (r : Bool) (t : Task) → TakesIn p t (go_on_later_turn n a q r t)
  pub rest : (p : ℕ) (n : Instant) (a : Alarm) (t : Task) → TakesIn p t (rest_turn n a t)

-- When a start comes due in a turn, and that only an end ends a task.
pub record TurnsMark : Type 0 where
  pub due : (p : ℕ) (t : Task) → MarkedAs true false t (due_turn p t).marks
  -- a schedule from n on: at its first due
  pub schedule : (n : Instant) (s : Schedule) (t : Task) → MarkedAs (is_at n (next_of s.alarm)) false t (plan_turn n s t).marks
  -- a tick to n: at its next due
  pub tick : (n : Instant) (t : Task) → MarkedAs (is_at n (next_of t.schedule.alarm)) false t (tick_turn n t).marks
  -- a trigger: where a schedule without delay waits for it
  pub trigger : (day clock : ℕ) (n : Instant) (i : ℕ) (t : Task)
      → MarkedAs (listens i t.schedule.alarm && eqb t.schedule.alarm.delay.0 0) false t (trigger_turn day clock n i t).marks
  pub end : (t : Task) → MarkedAs false true t (end_turn t).marks
  pub prevent : (t : Task) → MarkedAs false false t (prevent_turn t).marks
  pub suspend : (t : Task) → MarkedAs false false t (suspend_turn t).marks
  pub continue : (q : ℕ) (t : Task) → MarkedAs false false t (go_on_turn q t).marks
  pub resume : (n : Instant) (t : Task) → MarkedAs false false t (delay_turn n t).marks
  pub later : (n : Instant) (a : Alarm) (q : ℕ) (r : Bool) (t : Task) → MarkedAs false false t (go_on_later_turn n a q r t).marks
  pub rest : (n : Instant) (a : Alarm) (t : Task) → MarkedAs false false t (rest_turn n a t).marks

-- A living task goes on as it was, held or not, with its priority, whatever comes due for it.
pub record LivingGoesOn : Type 0 where
  pub due : (p : ℕ) (t : Task) → t.alive ≡ true → SameHold t (due_turn p t).task
  pub schedule : (n : Instant) (s : Schedule) (t : Task) → t.alive ≡ true → SameHold t (plan_turn n s t).task

-- A schedule keeps its priority at every due and at every trigger, so each of its starts takes the same.
pub record SchedulesKeep : Type 0 where
  pub schedule : (n : Instant) (s : Schedule) (t : Task) → Plans s.priority (plan_turn n s t).task
  pub tick : (n : Instant) (t : Task) → Plans t.schedule.priority (tick_turn n t).task
  pub trigger : (day clock : ℕ) (n : Instant) (i : ℕ) (t : Task) → Plans t.schedule.priority (trigger_turn day clock n i t).task
  -- PREVENT leaves none
  pub prevent : (t : Task) → planned (prevent_turn t).task.schedule.alarm.plan ≡ false
  -- and no other turn touches it
  pub due : (p : ℕ) (t : Task) → (due_turn p t).task.schedule ≡ t.schedule
  pub end : (t : Task) → (end_turn t).task.schedule ≡ t.schedule
  pub suspend : (t : Task) → (suspend_turn t).task.schedule ≡ t.schedule
  pub continue : (q : ℕ) (t : Task) → (go_on_turn q t).task.schedule ≡ t.schedule
  pub resume : (n : Instant) (t : Task) → (delay_turn n t).task.schedule ≡ t.schedule
  pub later : (n : Instant) (a : Alarm) (q : ℕ) (r : Bool) (t : Task) → (go_on_later_turn n a q r t).task.schedule ≡ t.schedule
  pub rest : (n : Instant) (a : Alarm) (t : Task) → (rest_turn n a t).task.schedule ≡ t.schedule
