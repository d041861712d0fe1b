-- What one task's turn keeps. Proved in proofs/Fairness.antt and proofs/Laws.antt.
use Rattle.std.specs.Prelude.{is_some, ◌≡◌, Bool, true, false, not, ◌&&◌, ◌||◌, ℕ, ◌+◌}
use Rattle.calendar.specs.declared.Instant.{Instant}
use Rattle.lock.specs.Locks.{bit, waiting}
use Rattle.schedule.specs.Alarms.{falls}
use Rattle.schedule.specs.declared.Alarm.{Alarm}
use Rattle.schedule.specs.declared.Schedule.{Schedule}
use Rattle.task.specs.declared.Task.{Task}
use Rattle.task.specs.declared.Turn.{Turn}
use Rattle.task.specs.State.{rest_ok, wanted}
use Rattle.task.specs.Coming.{comes}
use Rattle.task.specs.Turns.{unmarked, delay_ends, due_turn, end_turn, prevent_turn, suspend_turn, go_on_turn, delay_turn, tick_turn, plan_turn, trigger_turn, go_on_later_turn, rest_turn}

-- A turn is fair; p says whether it is that of a PREVENT.
pub record Fair (p : Bool) (t : Task) (u : Turn) : Type 0 where
  -- what was kept back and what falls due is made, lost or kept back
  pub starts : bit (is_some t.kept) + bit u.marks.due ≡ bit u.marks.started + bit u.marks.lost + bit (is_some u.task.kept)
  -- what was alive and what starts has ended or is alive
  pub ends : bit t.alive + bit u.marks.started ≡ bit u.marks.ended + bit u.task.alive
  -- a loss has one of two causes, and each of them is a loss
  pub lost : u.marks.lost ≡ (is_some t.kept && ((u.marks.due && t.alive) || p))
  -- and none grants
  pub granted : u.marks.granted ≡ false
  -- a wait goes on, with its list, until the task ends
  pub waits : waiting u.task.wait ≡ (waiting t.wait && not u.marks.ended)
  pub wants : waiting u.task.wait ≡ true → (u.task.wait ≡ t.wait) × (wanted u.task ≡ wanted t)

-- Every turn is fair; an activation's is a due's or a schedule's.
pub record TurnsAreFair : Type 0 where
  pub due : (p : ℕ) (t : Task) → rest_ok t ≡ true → Fair false t (due_turn p t)
  pub end : (t : Task) → t.alive ≡ true → Fair false t (end_turn t)
  pub prevent : (t : Task) → Fair true t (prevent_turn t)
  pub suspend : (t : Task) → Fair false t (suspend_turn t)
  pub continue : (p : ℕ) (t : Task) → Fair false t (go_on_turn p t)
  pub resume : (n : Instant) (t : Task) → Fair false t (delay_turn n t)
  pub tick : (n : Instant) (t : Task) → rest_ok t ≡ true → Fair false t (tick_turn n t)
  pub schedule : (n : Instant) (s : Schedule) (t : Task) → rest_ok t ≡ true → Fair false t (plan_turn n s t)
  pub trigger : (day clock : ℕ) (n : Instant) (i : ℕ) (t : Task) → rest_ok t ≡ true → Fair false t (trigger_turn day clock n i t)
  pub later : (n : Instant) (a : Alarm) (p : ℕ) (r : Bool) (t : Task) → Fair false t (go_on_later_turn n a p r t)
  pub rest : (n : Instant) (a : Alarm) (t : Task) → Fair false t (rest_turn n a t)

-- What comes to a task is what a tick acts on: its delay ends, its schedule falls due, or its continuation does.
abbrev pub ComesIsDue : Type 0
ComesIsDue =
    (n : Instant) (t : Task)
    → comes n t ≡ (delay_ends n t.hold || (falls n t.schedule.alarm || falls n t.continuation))

-- A tick to an instant at which nothing comes leaves the task as it is.
abbrev pub QuietTurn : Type 0
QuietTurn = (n : Instant) (t : Task) → comes n t ≡ false → tick_turn n t ≡ unmarked t
