-- Tasks to which nothing comes.
use mathlib.Core.Path.{◌≡◌, refl, ◌∙◌}
use mathlib.Core.Bool.{false, ◌||◌, and-false}
use lib.Dec.{eqb}
use Rattle.calendar.specs.declared.Instant.{Instant}
use Rattle.facts.proofs.Bools.{contra, neither}
use Rattle.schedule.specs.Alarms.{falls}
use Rattle.task.specs.Coming.{comes}
use Rattle.task.specs.Turns.{delay_ends}
use Rattle.task.specs.declared.Hold.{Hold}
use Rattle.task.specs.declared.Hold.TheVariants.{Unheld, Suspended, Delayed}
use Rattle.task.specs.declared.Task.{Task}
use Rattle.task.proofs.Laws.{comes_parts}
use Rattle.kernel_time.specs.Stirring.{may_come}

-- Nothing comes to a task to which nothing may come.
pub nothing_comes : (n : Instant) (t : Task) → may_come t.hold t.schedule.alarm.next t.continuation.next n ≡ false → comes n t ≡ false
nothing_comes n t e = comes_parts n t ∙ parts_none t.hold e
  where
    dues : (eqb t.schedule.alarm.next.0 n.0 || eqb t.continuation.next.0 n.0) ≡ false
        → (falls n t.schedule.alarm || falls n t.continuation) ≡ false
    dues e = let q = neither (eqb t.schedule.alarm.next.0 n.0) (eqb t.continuation.next.0 n.0) e in rw (q.0, q.1, and-false, and-false)

    parts_none : (h : Hold) → may_come h t.schedule.alarm.next t.continuation.next n ≡ false
        → (delay_ends n h || (falls n t.schedule.alarm || falls n t.continuation)) ≡ false
    parts_none Unheld e = dues e
    parts_none Suspended e = dues e
    parts_none (Delayed d) e = contra refl e
