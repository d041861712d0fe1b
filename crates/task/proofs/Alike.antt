-- What a hold, a schedule or a continuation leaves of a task as it was: its life, the start kept back and its wait.
use mathlib.Core.Path.{◌≡◌, refl, ◌∙◌}
use mathlib.Core.Bool.{Bool}
use Prim.Native.Nat.{ℕ}
use Rattle.calendar.specs.declared.Instant.{Instant}
use Rattle.facts.proofs.Bools.{by_bool}
use Rattle.schedule.specs.declared.Alarm.{Alarm}
use Rattle.schedule.specs.declared.Schedule.{Schedule}
use Rattle.schedule.specs.Alarms.{falls, listens}
use Rattle.task.specs.declared.Hold.{Hold}
use Rattle.task.specs.declared.Hold.TheVariants.{Unheld}
use Rattle.task.specs.declared.Task.{Task}
use Rattle.task.specs.State.{wanted, with_hold, with_schedule, with_continuation}
use Rattle.task.specs.Continuations.{goes_on, spent, continued, continue_at, called_by}
use Rattle.task.specs.Turns.{delay_ends, wake}
use Rattle.task.proofs.Dues.{continued_cases, spent_any}

-- Of a task only what no set and no wait looks at has changed.
pub record Like (t t' : Task) : Type 0 where
  pub alive : t'.alive ≡ t.alive
  pub kept : t'.kept ≡ t.kept
  pub wait : t'.wait ≡ t.wait
  pub len : t'.len ≡ t.len
  pub list : t'.list ≡ t.list

pub like_wants : (t t' : Task) → Like t t' → wanted t' ≡ wanted t
like_wants t t' h = rw (h.len, h.list)

pub like_refl : (t : Task) → Like t t
like_refl t = record { alive = refl; kept = refl; wait = refl; len = refl; list = refl }

pub like_hold : (h : Hold) (t : Task) → Like t (with_hold h t)
like_hold h t = record { alive = refl; kept = refl; wait = refl; len = refl; list = refl }

pub like_schedule : (s : Schedule) (t : Task) → Like t (with_schedule s t)
like_schedule s t = record { alive = refl; kept = refl; wait = refl; len = refl; list = refl }

pub like_then : (t u v : Task) → Like t u → Like u v → Like t v
like_then t u v h k =
    record { alive = k.alive ∙ h.alive; kept = k.kept ∙ h.kept; wait = k.wait ∙ h.wait; len = k.len ∙ h.len; list = k.list ∙ h.list }

pub like_continuation : (a : Alarm) (p : ℕ) (r : Bool) (t : Task) → Like t (with_continuation a p r t)
like_continuation a p r t = record { alive = refl; kept = refl; wait = refl; len = refl; list = refl }

pub like_goes_on : (p : ℕ) (t : Task) → Like t (goes_on p t)
like_goes_on p t = record { alive = refl; kept = refl; wait = refl; len = refl; list = refl }

like_spent : (t : Task) → Like t (spent t)
like_spent t = spent_any (Like t) t (λ a p r. like_continuation a p r t)

like_continued : (t : Task) → Like t (continued t)
like_continued t =
    continued_cases (Like t) t (λ e. like_spent t)
    (λ e. like_then t (goes_on t.given t) _ (like_goes_on t.given t) (like_spent (goes_on t.given t)))

pub like_continue_at : (n : Instant) (t : Task) → Like t (continue_at n t)
unfolding continue_at
like_continue_at n t = by_bool (falls n t.continuation) (λ e. rw e (like_continued t)) (λ e. rw e (like_refl t))

pub like_later : (n : Instant) (a : Alarm) (p : ℕ) (r : Bool) (t : Task) → Like t (continue_at n (with_continuation a p r t))
like_later n a p r t = like_then t (with_continuation a p r t) _ (like_continuation a p r t) (like_continue_at n (with_continuation a p r t))

pub like_called : (n : Instant) (i : ℕ) (t : Task) → Like t (called_by n i t)
unfolding called_by
like_called n i t = by_bool (listens i t.continuation) (λ e. rw e (like_later n _ _ _ t)) (λ e. rw e (like_refl t))

pub like_wake : (n : Instant) (t : Task) → Like t (wake n t)
unfolding wake
like_wake n t = by_bool (delay_ends n t.hold) (λ e. rw e (like_hold Unheld t)) (λ e. rw e (like_refl t))
