-- A turn begins no wait: who waits after it waited before, on the same list.
use Rattle.std.specs.Prelude.{None, Option, Some}
use mathlib.Core.Path.{◌≡◌, refl, ◌∙◌}
use mathlib.Core.Bool.{Bool, true, false}
use Prim.Native.Nat.{ℕ}
use Rattle.calendar.specs.declared.Instant.{Instant}
use Rattle.lock.specs.Locks.{waiting}
use Rattle.facts.proofs.Bools.{by_bool, contra}
use Rattle.schedule.specs.declared.Alarm.{Alarm}
use Rattle.schedule.specs.declared.Schedule.{Schedule}
use Rattle.schedule.specs.Alarms.{falls, listens}
use Rattle.schedule.specs.Schedules.{advance, triggered}
use Rattle.task.specs.declared.Hold.TheVariants.{Suspended}
use Rattle.task.specs.declared.Task.{Task}
use Rattle.task.specs.State.{with_hold, with_schedule}
use Rattle.task.specs.Turns.{due_if, due_turn, end_if, end_turn, prevent_turn, suspend_turn, go_on_turn, delay_turn, wake, fall_turn, tick_turn, plan_turn, start_turn, trigger_turn, go_on_later_turn, rest_turn}
use Rattle.task.specs.Continuations.{continue_at, called_by}
use Rattle.task.proofs.Alike.{Like, like_then, like_wake, like_continue_at, like_later, like_called}

abbrev pub SameWait : Task → Task → Type 0
SameWait t u = (u.wait ≡ t.wait) × (u.len ≡ t.len) × (u.list ≡ t.list)

abbrev pub NoNewWait : Task → Task → Type 0
NoNewWait t u = waiting u.wait ≡ true → SameWait t u

stays : (t : Task) → NoNewWait t t
stays t w = (refl, refl, refl)

due_waits : (b : Bool) (k : Option ℕ) (p : ℕ) (t : Task) → NoNewWait t (due_if b k p t).task
unfolding due_if
due_waits false k p t w = contra w refl
due_waits true None p t w = (refl, refl, refl)
due_waits true (Some q) p t w = stays t w

end_waits : (k : Option ℕ) (t : Task) → NoNewWait t (end_if k t).task
unfolding end_if
end_waits None t w = contra w refl
end_waits (Some p) t w = contra w refl

fall_waits : (n : Instant) (t : Task) → NoNewWait t (fall_turn n t).task
unfolding fall_turn
fall_waits n t =
    by_bool (falls n t.schedule.alarm) (λ e. rw e (due_waits t.alive t.kept _ (with_schedule (advance n t.schedule) t)))
    (λ e. rw e (stays t))

start_waits : (day clock : ℕ) (n : Instant) (i : ℕ) (t : Task) → NoNewWait t (start_turn day clock n i t).task
unfolding start_turn
start_waits day clock n i t =
    by_bool (listens i t.schedule.alarm) (λ e. rw e (fall_waits n (with_schedule (triggered day clock n t.schedule) t)))
    (λ e. rw e (stays t))

same : (t t' : Task) → Like t t' → SameWait t t'
same t t' h = (h.wait, h.len, h.list)

-- A change that leaves the wait as it is, then one that begins none.
after : (t t' u : Task) → Like t t' → NoNewWait t' u → NoNewWait t u
after t t' u h f w = let s = f w in (s.0 ∙ h.wait, s.1 ∙ h.len, s.2 ∙ h.list)

module _ (t : Task) where
  pub no_wait_end : NoNewWait t (end_turn t).task
  no_wait_end = end_waits t.kept t

  pub no_wait_prevent : NoNewWait t (prevent_turn t).task
  unfolding prevent_turn
  no_wait_prevent w = (refl, refl, refl)

  pub no_wait_suspend : NoNewWait t (suspend_turn t).task
  unfolding suspend_turn
  no_wait_suspend w = (refl, refl, refl)

  pub no_wait_continue : (p : ℕ) → NoNewWait t (go_on_turn p t).task
  unfolding go_on_turn
  no_wait_continue p w = (refl, refl, refl)

  pub no_wait_resume : (n : Instant) → NoNewWait t (delay_turn n t).task
  unfolding delay_turn
  no_wait_resume n w = (refl, refl, refl)

  pub no_wait_due : (p : ℕ) → NoNewWait t (due_turn p t).task
  no_wait_due p = due_waits t.alive t.kept p t

  pub no_wait_schedule : (n : Instant) (s : Schedule) → NoNewWait t (plan_turn n s t).task
  no_wait_schedule n s = fall_waits n (with_schedule s t)

  pub no_wait_tick : (n : Instant) → NoNewWait t (tick_turn n t).task
  no_wait_tick n =
      after t (continue_at n (wake n t)) (tick_turn n t).task (like_then t (wake n t) _ (like_wake n t) (like_continue_at n (wake n t))) (fall_waits n (continue_at n (wake n t)))

  pub no_wait_trigger : (day clock : ℕ) (n : Instant) (i : ℕ) → NoNewWait t (trigger_turn day clock n i t).task
  no_wait_trigger day clock n i = after t (called_by n i t) (trigger_turn day clock n i t).task (like_called n i t) (start_waits day clock n i (called_by n i t))

  pub no_wait_later : (n : Instant) (a : Alarm) (p : ℕ) (r : Bool) → NoNewWait t (go_on_later_turn n a p r t).task
  no_wait_later n a p r w = same t (go_on_later_turn n a p r t).task (like_later n a p r t)

  pub no_wait_rest : (n : Instant) (a : Alarm) → NoNewWait t (rest_turn n a t).task
  no_wait_rest n a w = same (with_hold Suspended t) (rest_turn n a t).task (like_later n a 0 true (with_hold Suspended t))

-- ---- a tick ends no wait

due_keeps : (b : Bool) (k : Option ℕ) (p : ℕ) (t : Task) → b ≡ true → SameWait t (due_if b k p t).task
unfolding due_if
due_keeps false k p t e = contra e refl
due_keeps true None p t e = (refl, refl, refl)
due_keeps true (Some q) p t e = (refl, refl, refl)

fall_keeps : (n : Instant) (t : Task) → t.alive ≡ true → SameWait t (fall_turn n t).task
unfolding fall_turn
fall_keeps n t a =
    by_bool (falls n t.schedule.alarm) (λ e. rw e (due_keeps t.alive t.kept _ (with_schedule (advance n t.schedule) t) a))
    (λ e. rw e (refl, refl, refl))

pub tick_keeps_wait : (n : Instant) (t : Task) → t.alive ≡ true → SameWait t (tick_turn n t).task
tick_keeps_wait n t a =
    let u = continue_at n (wake n t) in
    let h = like_then t (wake n t) u (like_wake n t) (like_continue_at n (wake n t)) in
    let s = fall_keeps n u (h.alive ∙ a) in
    (s.0 ∙ h.wait, s.1 ∙ h.len, s.2 ∙ h.list)
