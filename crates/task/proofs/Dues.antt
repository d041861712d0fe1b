-- A continuation that comes due, case by case: what is shown of each case is shown of the due.
use mathlib.Core.Path.{◌≡◌}
use mathlib.Core.Bool.{Bool, true, false, not, ◌&&◌}
use Prim.Native.Nat.{ℕ}
use Rattle.facts.proofs.Bools.{by_bool}
use Rattle.schedule.specs.declared.Alarm.{Alarm}
use Rattle.schedule.specs.Alarms.{listening, rearmed}
use Rattle.task.specs.declared.Task.{Task}
use Rattle.task.specs.State.{unheld, with_continuation}
use Rattle.task.specs.Continuations.{goes_on, with_next, dropped, spent, continued}

-- It finds the task held or not.
pub continued_cases : (P : Task → Type 0) (t : Task)
    → (unheld t.hold ≡ true → P (spent t)) → (unheld t.hold ≡ false → P (spent (goes_on t.given t))) → P (continued t)
unfolding continued
continued_cases P t idle held = by_bool (unheld t.hold) (λ e. rw e (idle e)) (λ e. rw e (held e))

-- It leaves one of two continuations.
pub spent_cases : (P : Task → Type 0) (t : Task)
    → ((listening t.continuation.plan && not t.resumed) ≡ true → P (with_next (rearmed t.continuation) t))
    → ((listening t.continuation.plan && not t.resumed) ≡ false → P (dropped t)) → P (spent t)
unfolding spent
spent_cases P t again gone =
    by_bool (listening t.continuation.plan && not t.resumed) (λ e. rw e (again e)) (λ e. rw e (gone e))

-- And nothing else of the task changes.
pub spent_any : (P : Task → Type 0) (t : Task) → ((a : Alarm) (p : ℕ) (r : Bool) → P (with_continuation a p r t)) → P (spent t)
spent_any P t f = spent_cases P t (λ e. f _ _ _) (λ e. f _ _ _)
