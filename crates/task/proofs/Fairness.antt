-- One task's turn is fair: its starts and ends balance, its losses are those of the rule, and a wait goes on or ends.
use Rattle.std.specs.Prelude.{is_some, None, Option, Some}
use mathlib.Core.Path.{◌≡◌, refl, ◌∙◌}
use mathlib.Core.Bool.{Bool, true, false, not, ◌&&◌, ◌||◌}
use Prim.Native.Nat.{ℕ}
use native.Mathlib.Omega.{arith}
use Rattle.calendar.specs.declared.Instant.{Instant}
use Rattle.lock.specs.Locks.{waiting}
use Rattle.facts.proofs.Bools.{tests, by_bool, contra}
use Rattle.schedule.specs.declared.Alarm.{Alarm}
use Rattle.schedule.specs.declared.Schedule.{Schedule}
use Rattle.schedule.specs.Alarms.{falls, listens, set_off}
use Rattle.schedule.specs.Schedules.{advance, triggered}
use Rattle.task.specs.declared.Hold.TheVariants.{Suspended, Delayed}
use Rattle.task.specs.declared.Task.{Task}
use Rattle.task.specs.declared.Turn.{Turn}
use Rattle.task.specs.State.{unheld, rest_ok, with_hold, with_schedule, with_continuation}
use Rattle.task.specs.Continuations.{goes_on, with_next, continued, continue_at, called_by}
use Rattle.task.specs.Promises.{Fair, TurnsAreFair}
use Rattle.task.proofs.Dues.{continued_cases, spent_any}
use Rattle.task.proofs.Alike.{Like, like_wants, like_refl, like_hold, like_schedule, like_then, like_continuation, like_goes_on, like_continue_at, like_later, like_wake}
use Rattle.task.specs.Turns.{unmarked, due_if, due_turn, end_if, end_turn, prevent_turn, suspend_turn, go_on_turn, delay_turn, delay_ends, wake, fall_turn, tick_turn, plan_turn, start_turn, trigger_turn, go_on_later_turn, rest_turn}

pub rest_facts : (a k w h : Bool) → (a || (not k && not w && h)) ≡ true → a ≡ false → (k ≡ false) × (w ≡ false) × (h ≡ true)
rest_facts true k w h e z = contra refl z
rest_facts false true w h e z = contra e refl
rest_facts false false true h e z = contra e refl
rest_facts false false false h e z = (refl, refl, e)

pub fair_unmarked : (t t' : Task) → Like t t' → Fair false t (unmarked t')
fair_unmarked t t' h =
    record {
      starts = rw h.kept (omega arith);
      ends = rw h.alive (omega arith);
      lost = simp tests;
      granted = refl;
      waits = rw h.wait (simp tests);
      wants = λ e. (h.wait, like_wants t t' h);
    }

-- Such a change, then a fair turn.
pub fair_after : (p : Bool) (t t' : Task) (u : Turn) → Like t t' → Fair p t' u → Fair p t u
fair_after p t t' u h f =
    record {
      starts = rw h.kept at f.starts;
      ends = rw h.alive at f.ends;
      lost = rw (h.kept, h.alive) at f.lost;
      granted = f.granted;
      waits = rw h.wait at f.waits;
      wants = λ e. ((f.wants e).0 ∙ h.wait, (f.wants e).1 ∙ like_wants t t' h);
    }

-- ---- due and end

fair_due_if : (a : Bool) (k : Option ℕ) (p : ℕ) (t : Task) → t.alive ≡ a → t.kept ≡ k → rest_ok t ≡ true → Fair false t (due_if a k p t)
unfolding due_if
fair_due_if false k p t ea ek r =
    let q = rest_facts t.alive (is_some t.kept) (waiting t.wait) (unheld t.hold) r ea in
    record {
      starts = rw q.0;
      ends = rw ea;
      lost = rw q.0;
      granted = refl;
      waits = rw q.1;
      wants = λ e. contra e refl;
    }
fair_due_if true None p t ea ek r =
    record { starts = rw ek; ends = rw ea; lost = rw ek; granted = refl; waits = simp tests; wants = λ e. (refl, refl) }
fair_due_if true (Some q) p t ea ek r =
    record { starts = rw ek; ends = rw ea; lost = rw (ek, ea); granted = refl; waits = simp tests; wants = λ e. (refl, refl) }

pub fair_due : (p : ℕ) (t : Task) → rest_ok t ≡ true → Fair false t (due_turn p t)
fair_due p t r = fair_due_if t.alive t.kept p t refl refl r

fair_end_if : (k : Option ℕ) (t : Task) → t.kept ≡ k → t.alive ≡ true → Fair false t (end_if k t)
unfolding end_if
fair_end_if None t e a =
    record { starts = rw e; ends = rw a; lost = rw e; granted = refl; waits = simp tests; wants = λ z. contra z refl }
fair_end_if (Some p) t e a =
    record { starts = rw e; ends = rw a; lost = rw e; granted = refl; waits = simp tests; wants = λ z. contra z refl }

pub fair_end : (t : Task) → t.alive ≡ true → Fair false t (end_turn t)
fair_end t a = fair_end_if t.kept t refl a

pub fair_prevent : (t : Task) → Fair true t (prevent_turn t)
unfolding prevent_turn
fair_prevent t =
    record {
      starts = omega arith;
      ends = omega arith;
      lost = simp tests;
      granted = refl;
      waits = simp tests;
      wants = λ e. (refl, refl);
    }

-- ---- holds

pub fair_suspend : (t : Task) → Fair false t (suspend_turn t)
unfolding suspend_turn
fair_suspend t = fair_unmarked t _ (like_hold Suspended t)

pub fair_continue : (p : ℕ) (t : Task) → Fair false t (go_on_turn p t)
unfolding go_on_turn
fair_continue p t = fair_unmarked t _ (like_goes_on p t)

pub fair_resume : (n : Instant) (t : Task) → Fair false t (delay_turn n t)
unfolding delay_turn
fair_resume n t = fair_unmarked t _ (like_hold (Delayed n) t)

-- ---- schedules

pub fair_fall : (n : Instant) (t : Task) → rest_ok t ≡ true → Fair false t (fall_turn n t)
unfolding fall_turn
fair_fall n t r =
    by_bool (falls n t.schedule.alarm)
    (λ e. rw e (fair_after false t (with_schedule (advance n t.schedule) t) _ (like_schedule _ t) (fair_due _ (with_schedule (advance n t.schedule) t) r)))
    (λ e. rw e (fair_unmarked t t (like_refl t)))

-- A task at rest stays at rest, whatever its continuation and its hold become, if the hold is none.
pub record Rests (t t' : Task) : Type 0 where
  pub like : Like t t'
  pub holds : unheld t.hold ≡ true → unheld t'.hold ≡ true

pub rests_on : (t t' : Task) → Rests t t' → rest_ok t ≡ true → rest_ok t' ≡ true
rests_on t t' h r =
    rw (h.like.alive, h.like.kept, h.like.wait)
    (by_bool t.alive (λ a. rw a) (λ a.
    let q = rest_facts t.alive (is_some t.kept) (waiting t.wait) (unheld t.hold) r a in rw (a, q.0, q.1, h.holds q.2)))

rests_then : (t u v : Task) → Rests t u → Rests u v → Rests t v
rests_then t u v h k = record { like = like_then t u v h.like k.like; holds = λ e. k.holds (h.holds e) }

rests_wake : (n : Instant) (t : Task) → Rests t (wake n t)
rests_wake n t = record { like = like_wake n t; holds = λ e. unfold wake in by_bool (delay_ends n t.hold) (λ d. rw d) (λ d. rw d e) }

continued_unheld : (t : Task) → unheld (continued t).hold ≡ true
continued_unheld t =
    continued_cases Free t (λ e. spent_any Free t (λ a p r. e)) (λ e. spent_any Free (goes_on t.given t) (λ a p r. refl))
  where
    Free : Task → Type 0
    Free u = unheld u.hold ≡ true

pub rests_continue_at : (n : Instant) (t : Task) → Rests t (continue_at n t)
rests_continue_at n t =
    record {
      like = like_continue_at n t;
      holds = λ h. unfold continue_at in by_bool (falls n t.continuation) (λ e. rw e (continued_unheld t)) (λ e. rw e h);
    }

rests_continuation : (a : Alarm) (p : ℕ) (r : Bool) (t : Task) → Rests t (with_continuation a p r t)
rests_continuation a p r t = record { like = like_continuation a p r t; holds = λ e. e }

rests_called : (n : Instant) (i : ℕ) (t : Task) → Rests t (called_by n i t)
unfolding called_by
rests_called n i t =
    by_bool (listens i t.continuation)
    (λ e. rw e (rests_then t (with_next (set_off n t.continuation) t) _ (rests_continuation _ _ _ t) (rests_continue_at n (with_next (set_off n t.continuation) t))))
    (λ e. rw e (record { like = like_refl t; holds = λ h. h }))

-- What a tick does before the schedule's turn.
rests_woken : (n : Instant) (t : Task) → Rests t (continue_at n (wake n t))
rests_woken n t = rests_then t (wake n t) _ (rests_wake n t) (rests_continue_at n (wake n t))

pub fair_tick : (n : Instant) (t : Task) → rest_ok t ≡ true → Fair false t (tick_turn n t)
fair_tick n t r =
    let h = rests_woken n t in
    fair_after false t (continue_at n (wake n t)) _ h.like (fair_fall n (continue_at n (wake n t)) (rests_on t _ h r))

pub fair_schedule : (n : Instant) (s : Schedule) (t : Task) → rest_ok t ≡ true → Fair false t (plan_turn n s t)
fair_schedule n s t r = fair_after false t (with_schedule s t) _ (like_schedule s t) (fair_fall n (with_schedule s t) r)

fair_start : (day clock : ℕ) (n : Instant) (i : ℕ) (t : Task) → rest_ok t ≡ true → Fair false t (start_turn day clock n i t)
unfolding start_turn
fair_start day clock n i t r =
    by_bool (listens i t.schedule.alarm) (λ e. rw e (fair_schedule n (triggered day clock n t.schedule) t r))
    (λ e. rw e (fair_unmarked t t (like_refl t)))

pub fair_trigger : (day clock : ℕ) (n : Instant) (i : ℕ) (t : Task) → rest_ok t ≡ true → Fair false t (trigger_turn day clock n i t)
fair_trigger day clock n i t r =
    let h = rests_called n i t in
    fair_after false t (called_by n i t) _ h.like (fair_start day clock n i (called_by n i t) (rests_on t _ h r))

-- ---- continuations

pub fair_later : (n : Instant) (a : Alarm) (p : ℕ) (r : Bool) (t : Task) → Fair false t (go_on_later_turn n a p r t)
fair_later n a p r t = fair_unmarked t _ (like_later n a p r t)

pub fair_rest : (n : Instant) (a : Alarm) (t : Task) → Fair false t (rest_turn n a t)
fair_rest n a t = fair_unmarked t _ (like_then t (with_hold Suspended t) _ (like_hold Suspended t) (like_later n a 0 true (with_hold Suspended t)))

pub turns_are_fair : TurnsAreFair
turns_are_fair =
    record {
      due = fair_due;
      end = fair_end;
      prevent = fair_prevent;
      suspend = fair_suspend;
      continue = fair_continue;
      resume = fair_resume;
      tick = fair_tick;
      schedule = fair_schedule;
      trigger = fair_trigger;
      later = fair_later;
      rest = fair_rest;
    }
