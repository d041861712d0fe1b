-- What a start takes, turn by turn, and that a schedule keeps its priority.
use Rattle.std.specs.Prelude.{is_some, None, Option, Some}
use mathlib.Core.Path.{◌≡◌, refl, sym, ap, subst, ◌∙◌}
use mathlib.Core.Bool.{Bool, true, false, not, ◌&&◌, ◌||◌}
use Prim.Native.Nat.{ℕ, ◌+◌}
use lib.Dec.{eqb}
use borrow.Author.Tests.{eq-eqb, ne_eqb}
use native.Mathlib.Omega.{arith}
use Rattle.calendar.specs.Dues.{next_due}
use Rattle.calendar.specs.declared.Instant.{Instant}
use Rattle.calendar.specs.Moments.{Moment}
use Rattle.facts.proofs.Bools.{by_bool, by_eq, contra}
use Rattle.schedule.specs.declared.Alarm.{Alarm}
use Rattle.schedule.specs.declared.Schedule.{Schedule}
use Rattle.schedule.specs.Alarms.{planned, listening, falls, listens, set_off}
use Rattle.schedule.specs.Schedules.{advanced, advance, triggered}
use Rattle.schedule.proofs.Coming.{falls_at_next}
use Rattle.task.specs.declared.Hold.TheVariants.{Unheld, Suspended}
use Rattle.task.specs.declared.Marks.{Marks}
use Rattle.task.specs.declared.Task.{Task}
use Rattle.task.specs.State.{with_hold, with_schedule, with_continuation}
use Rattle.task.specs.Continuations.{with_next, continue_at, called_by}
use Rattle.task.specs.Turns.{unmarked, due_if, end_if, end_turn, prevent_turn, suspend_turn, go_on_turn, delay_turn, delay_ends, wake, fall_turn, tick_turn, plan_turn, start_turn, trigger_turn}
use Rattle.task.specs.Starting.{Clear, Takes, TakesIn, MarkedAs, Plans, TurnsTake, TurnsMark, LivingGoesOn, SchedulesKeep}
use Rattle.task.proofs.Continuing.{else}
use Rattle.task.proofs.Firing.{due_holds, fall_holds}

-- ---- what a continuation and a delay's end leave of a task

-- What a start looks at.
record Same (t u : Task) : Type 0 where
  declared : u.declared ≡ t.declared
  alive : u.alive ≡ t.alive
  kept : u.kept ≡ t.kept
  schedule : u.schedule ≡ t.schedule

priority_of : {t u : Task} → Same t u → u.schedule.priority ≡ t.schedule.priority
priority_of h = ap (λ (s : Schedule). s.priority) h.schedule

same_refl : (t : Task) → Same t t
same_refl t = record { declared = refl; alive = refl; kept = refl; schedule = refl }

same_then : (t u v : Task) → Same t u → Same u v → Same t v
same_then t u v h k = record { declared = k.declared ∙ h.declared; alive = k.alive ∙ h.alive; kept = k.kept ∙ h.kept; schedule = k.schedule ∙ h.schedule }

same_continue_at : (n : Instant) (t : Task) → Same t (continue_at n t)
unfolding continue_at
same_continue_at n t =
    by_bool (falls n t.continuation) (λ e. let h = else t in rw e (record { declared = h.declared; alive = h.alive; kept = h.kept; schedule = h.schedule }))
    (λ e. rw e (same_refl t))

same_later : (n : Instant) (a : Alarm) (q : ℕ) (r : Bool) (t : Task) → Same t (continue_at n (with_continuation a q r t))
same_later n a q r t =
    same_then t (with_continuation a q r t) _ (record { declared = refl; alive = refl; kept = refl; schedule = refl })
    (same_continue_at n (with_continuation a q r t))

same_called : (n : Instant) (i : ℕ) (t : Task) → Same t (called_by n i t)
unfolding called_by
same_called n i t = by_bool (listens i t.continuation) (λ e. rw e (same_later n _ _ _ t)) (λ e. rw e (same_refl t))

same_wake : (n : Instant) (t : Task) → Same t (wake n t)
unfolding wake
same_wake n t = by_bool (delay_ends n t.hold) (λ e. rw e (record { declared = refl; alive = refl; kept = refl; schedule = refl })) (λ e. rw e (same_refl t))

same_woken : (n : Instant) (t : Task) → Same t (continue_at n (wake n t))
same_woken n t = same_then t (wake n t) _ (same_wake n t) (same_continue_at n (wake n t))

same_rest : (n : Instant) (a : Alarm) (t : Task) → Same t (continue_at n (with_continuation a 0 true (with_hold Suspended t)))
same_rest n a t =
    same_then t (with_hold Suspended t) _ (record { declared = refl; alive = refl; kept = refl; schedule = refl }) (same_later n a 0 true (with_hold Suspended t))

-- ---- starts

-- Nothing comes due and nothing ends.
pub takes_none : (p : ℕ) (t u : Task) (g : Bool) → u.declared ≡ t.declared → u.kept ≡ t.kept
    → Takes p t (record { due = false; started = false; ended = false; lost = false; granted = g }) u
takes_none p t u g e k =
    record {
      made = λ a b. contra a refl;
      kept = λ a b d. contra a refl;
      lost = λ a b. contra a refl;
      back = λ q a b. contra a refl;
      again = λ a b. contra a refl;
      begins = λ a. contra a refl;
      ends = λ a b. contra a refl;
      stays = λ a b d. k;
      declared = e;
    }

takes_unmarked : (p : ℕ) (t u : Task) → u.declared ≡ t.declared → u.kept ≡ t.kept → TakesIn p t (unmarked u)
takes_unmarked p t u e k = takes_none p t u false e k

-- A change that no start looks at comes first.
takes_after : (p : ℕ) (t w : Task) (m : Marks) (u : Task) → w.declared ≡ t.declared → w.kept ≡ t.kept → Takes p w m u → Takes p t m u
takes_after p t w m u d k h =
    record {
      made = h.made;
      kept = h.kept;
      lost = λ a b. h.lost a b ∙ k;
      back = λ q a b. h.back q a (k ∙ b);
      again = λ a b. h.again a b ∙ d;
      begins = h.begins;
      ends = h.ends;
      stays = λ a b f. h.stays a b f ∙ k;
      declared = h.declared ∙ d;
    }

-- And what a schedule's start takes stays.
takes_same : (t w : Task) (m : Marks) (u : Task) → Same t w → Takes w.schedule.priority w m u → Takes t.schedule.priority t m u
takes_same t w m u s x =
    let h = takes_after w.schedule.priority t w m u s.declared s.kept x in
    let e = priority_of s in
    record {
      made = λ a b. h.made a b ∙ e;
      kept = λ a b d. h.kept a b d ∙ ap Some e;
      lost = h.lost;
      back = h.back;
      again = h.again;
      begins = h.begins;
      ends = h.ends;
      stays = h.stays;
      declared = h.declared;
    }

takes_due_if : (a : Bool) (k : Option ℕ) (p : ℕ) (t : Task) → TakesIn p t (due_if a k p t)
unfolding due_if
takes_due_if false k p t =
    record {
      made = λ a b. refl;
      kept = λ a b d. contra refl b;
      lost = λ a b. contra b refl;
      back = λ q a b. contra a refl;
      again = λ a b. contra a refl;
      begins = λ a. record { lives = refl; hold = refl; wait = refl; kept = refl };
      ends = λ a b. contra a refl;
      stays = λ a b d. contra refl a;
      declared = refl;
    }
takes_due_if true None p t =
    record {
      made = λ a b. contra b refl;
      kept = λ a b d. refl;
      lost = λ a b. contra b refl;
      back = λ q a b. contra a refl;
      again = λ a b. contra a refl;
      begins = λ a. contra a refl;
      ends = λ a b. contra a refl;
      stays = λ a b d. contra refl a;
      declared = refl;
    }
takes_due_if true (Some q) p t =
    record {
      made = λ a b. contra b refl;
      kept = λ a b d. contra refl d;
      lost = λ a b. refl;
      back = λ q a b. contra a refl;
      again = λ a b. contra a refl;
      begins = λ a. contra a refl;
      ends = λ a b. contra a refl;
      stays = λ a b d. contra refl a;
      declared = refl;
    }

same_back : (k : Option ℕ) (p q : ℕ) → k ≡ Some p → k ≡ Some q → p ≡ q
same_back k p q e f = cc

takes_end_if : (k : Option ℕ) (p : ℕ) (t : Task) → t.kept ≡ k → TakesIn p t (end_if k t)
unfolding end_if
takes_end_if None p t e =
    record {
      made = λ a b. contra a refl;
      kept = λ a b d. contra a refl;
      lost = λ a b. contra a refl;
      back = λ q a b. absurd (let z : ◌≡◌ {A = ℕ} 0 1 = cc in omega arith);
      again = λ a b. refl;
      begins = λ a. contra a refl;
      ends = λ a b. record { lives = refl; hold = refl; wait = refl; kept = refl };
      stays = λ a b d. contra refl b;
      declared = refl;
    }
takes_end_if (Some x) p t e =
    record {
      made = λ a b. contra a refl;
      kept = λ a b d. contra a refl;
      lost = λ a b. contra a refl;
      back = λ q a b. (refl, same_back t.kept x q e b);
      again = λ a b. contra refl b;
      begins = λ a. record { lives = refl; hold = refl; wait = refl; kept = refl };
      ends = λ a b. contra refl b;
      stays = λ a b d. contra refl b;
      declared = refl;
    }

none_kept : (k : Option ℕ) → is_some k ≡ false → None ≡ k
none_kept None e = refl
none_kept (Some p) e = contra refl e

takes_prevent : (p : ℕ) (t : Task) → TakesIn p t (prevent_turn t)
unfolding prevent_turn
takes_prevent p t =
    record {
      made = λ a b. contra a refl;
      kept = λ a b d. contra a refl;
      lost = λ a b. contra a refl;
      back = λ q a b. contra a refl;
      again = λ a b. contra a refl;
      begins = λ a. contra a refl;
      ends = λ a b. contra a refl;
      stays = λ a b d. none_kept t.kept d;
      declared = refl;
    }

takes_fall : (n : Instant) (t : Task) → TakesIn t.schedule.priority t (fall_turn n t)
unfolding fall_turn
takes_fall n t =
    by_bool (falls n t.schedule.alarm)
    (λ e. let u = with_schedule (advance n t.schedule) t in
    rw e (takes_after t.schedule.priority t u _ _ refl refl (takes_due_if t.alive t.kept t.schedule.priority u)))
    (λ e. rw e (takes_unmarked _ t t refl refl))

takes_plan : (n : Instant) (s : Schedule) (t : Task) → TakesIn s.priority t (plan_turn n s t)
takes_plan n s t = takes_after s.priority t (with_schedule s t) _ _ refl refl (takes_fall n (with_schedule s t))

takes_tick : (n : Instant) (t : Task) → TakesIn t.schedule.priority t (tick_turn n t)
takes_tick n t = let u = continue_at n (wake n t) in takes_same t u _ _ (same_woken n t) (takes_fall n u)

takes_start : (day clock : ℕ) (n : Instant) (i : ℕ) (t : Task) → TakesIn t.schedule.priority t (start_turn day clock n i t)
unfolding start_turn
takes_start day clock n i t =
    by_bool (listens i t.schedule.alarm) (λ e. rw e (takes_plan n (triggered day clock n t.schedule) t))
    (λ e. rw e (takes_unmarked _ t t refl refl))

takes_trigger : (day clock : ℕ) (n : Instant) (i : ℕ) (t : Task) → TakesIn t.schedule.priority t (trigger_turn day clock n i t)
takes_trigger day clock n i t = let u = called_by n i t in takes_same t u _ _ (same_called n i t) (takes_start day clock n i u)

pub turns_take : TurnsTake
unfolding suspend_turn go_on_turn delay_turn
turns_take =
    record {
      due = λ p t. takes_due_if t.alive t.kept p t;
      schedule = takes_plan;
      tick = takes_tick;
      trigger = takes_trigger;
      end = λ p t. takes_end_if t.kept p t refl;
      prevent = takes_prevent;
      suspend = λ p t. takes_unmarked p t _ refl refl;
      continue = λ p q t. takes_unmarked p t _ refl refl;
      resume = λ p n t. takes_unmarked p t _ refl refl;
      later = λ p n a q r t. let h = same_later n a q r t in takes_unmarked p t _ h.declared h.kept;
      rest = λ p n a t. let h = same_rest n a t in takes_unmarked p t _ h.declared h.kept;
    }

-- ---- marks

-- None.
unmarked_as : (t u : Task) → MarkedAs false false t (unmarked u).marks
unmarked_as t u = record { is_due = refl; is_ended = refl; is_started = refl }

marked_same : (d e : Bool) (t u : Task) (m : Marks) → Same t u → MarkedAs d e u m → MarkedAs d e t m
marked_same d e t u m s h =
    record {
      is_due = h.is_due;
      is_ended = h.is_ended;
      is_started = h.is_started ∙ rw (s.alive, s.kept);
    }

marked_due : (a : Bool) (k : Option ℕ) (p : ℕ) (t : Task) → t.alive ≡ a → MarkedAs true false t (due_if a k p t).marks
unfolding due_if
marked_due false k p t e = record { is_due = refl; is_ended = refl; is_started = rw e }
marked_due true None p t e = record { is_due = refl; is_ended = refl; is_started = rw e }
marked_due true (Some q) p t e = record { is_due = refl; is_ended = refl; is_started = rw e }

marked_end : (k : Option ℕ) (t : Task) → t.kept ≡ k → MarkedAs false true t (end_if k t).marks
unfolding end_if
marked_end None t e = record { is_due = refl; is_ended = refl; is_started = rw e }
marked_end (Some p) t e = record { is_due = refl; is_ended = refl; is_started = rw e }

marked_prevent : (t : Task) → MarkedAs false false t (prevent_turn t).marks
unfolding prevent_turn
marked_prevent t = record { is_due = refl; is_ended = refl; is_started = refl }

marked_fall : (n : Instant) (t : Task) → MarkedAs (falls n t.schedule.alarm) false t (fall_turn n t).marks
unfolding fall_turn
marked_fall n t =
    by_bool (falls n t.schedule.alarm)
    (λ e. let u = with_schedule (advance n t.schedule) t in
    let h = marked_due t.alive t.kept t.schedule.priority u refl in
    rw e (record { is_due = h.is_due; is_ended = h.is_ended; is_started = h.is_started }))
    (λ e. rw e (unmarked_as t t))

marked_plan : (n : Instant) (s : Schedule) (t : Task) → MarkedAs (falls n s.alarm) false t (plan_turn n s t).marks
marked_plan n s t =
    let h = marked_fall n (with_schedule s t) in
    record { is_due = h.is_due; is_ended = h.is_ended; is_started = h.is_started }

marked_tick : (n : Instant) (t : Task) → MarkedAs (falls n t.schedule.alarm) false t (tick_turn n t).marks
marked_tick n t =
    let u = continue_at n (wake n t) in
    let s = same_woken n t in
    subst (λ (b : Bool). MarkedAs b false t (fall_turn n u).marks) (ap (λ (x : Schedule). falls n x.alarm) s.schedule)
    (marked_same _ false t u _ s (marked_fall n u))

-- A trigger's due is now where its delay is none.
now_if : (n d : ℕ) → eqb (n + d) n ≡ eqb d 0
now_if n d =
    by_eq d 0 (λ e. eq-eqb (n + d) n (omega arith) ∙ sym (eq-eqb d 0 e))
    (λ e. ne_eqb (n + d) n (λ z. e (omega arith)) ∙ sym (ne_eqb d 0 e))

abbrev sets_off : ℕ → Schedule → Bool
sets_off i s = listens i s.alarm && eqb s.alarm.delay.0 0

marked_start : (day clock : ℕ) (n : Instant) (i : ℕ) (t : Task) → MarkedAs (sets_off i t.schedule) false t (start_turn day clock n i t).marks
unfolding start_turn
marked_start day clock n i t =
    by_bool (listens i t.schedule.alarm)
    (λ e. let s = triggered day clock n t.schedule in
    rw e (subst (λ (b : Bool). MarkedAs b false t (plan_turn n s t).marks) (now_if n.0 t.schedule.alarm.delay.0) (marked_plan n s t)))
    (λ e. rw e (unmarked_as t t))

marked_trigger : (day clock : ℕ) (n : Instant) (i : ℕ) (t : Task) → MarkedAs (sets_off i t.schedule) false t (trigger_turn day clock n i t).marks
marked_trigger day clock n i t =
    let u = called_by n i t in
    let s = same_called n i t in
    subst (λ (b : Bool). MarkedAs b false t (start_turn day clock n i u).marks) (ap (sets_off i) s.schedule)
    (marked_same _ false t u _ s (marked_start day clock n i u))

pub turns_mark : TurnsMark
unfolding suspend_turn go_on_turn delay_turn
turns_mark =
    record {
      due = λ p t. marked_due t.alive t.kept p t refl;
      schedule = λ n s t. rw (falls_at_next n s.alarm) (marked_plan n s t);
      tick = λ n t. rw (falls_at_next n t.schedule.alarm) (marked_tick n t);
      trigger = marked_trigger;
      end = λ t. marked_end t.kept t refl;
      prevent = marked_prevent;
      suspend = λ t. unmarked_as t t;
      continue = λ q t. unmarked_as t t;
      resume = λ n t. unmarked_as t t;
      later = λ n a q r t. unmarked_as t t;
      rest = λ n a t. unmarked_as t t;
    }

pub living_goes_on : LivingGoesOn
living_goes_on =
    record {
      due = λ p t a. due_holds t t t.alive t.kept p a (record { hold = refl; current = refl });
      schedule = λ n s t a. fall_holds t (with_schedule s t) n a (record { hold = refl; current = refl });
    }

-- ---- schedules

due_plan : (a : Bool) (k : Option ℕ) (p : ℕ) (t : Task) → (due_if a k p t).task.schedule ≡ t.schedule
unfolding due_if
due_plan false k p t = refl
due_plan true None p t = refl
due_plan true (Some q) p t = refl

end_plan : (k : Option ℕ) (t : Task) → (end_if k t).task.schedule ≡ t.schedule
unfolding end_if
end_plan None t = refl
end_plan (Some p) t = refl

advanced_plans : (m : Moment) (s : Schedule) → planned (advanced m s).alarm.plan ≡ true → (advanced m s).priority ≡ s.priority
advanced_plans (Some n) s = λ e. refl
advanced_plans None s = by_bool (listening s.alarm.plan) (λ l. rw l (λ e. refl)) (λ l. rw l (λ e. contra e refl))

advance_plans : (n : Instant) (s : Schedule) → planned (advance n s).alarm.plan ≡ true → (advance n s).priority ≡ s.priority
unfolding advance
advance_plans n s = advanced_plans (next_due s.period s.last n) s

fall_plans : (n : Instant) (t : Task) → Plans t.schedule.priority (fall_turn n t).task
unfolding fall_turn
fall_plans n t =
    by_bool (falls n t.schedule.alarm)
    (λ e. rw (e, due_plan t.alive t.kept t.schedule.priority (with_schedule (advance n t.schedule) t)) (advance_plans n t.schedule))
    (λ e. rw e (λ z. refl))

start_plans : (day clock : ℕ) (n : Instant) (i : ℕ) (t : Task) → Plans t.schedule.priority (start_turn day clock n i t).task
unfolding start_turn
start_plans day clock n i t =
    by_bool (listens i t.schedule.alarm) (λ e. rw e (fall_plans n (with_schedule (triggered day clock n t.schedule) t)))
    (λ e. rw e (λ z. refl))

pub schedules_keep : SchedulesKeep
unfolding prevent_turn suspend_turn go_on_turn delay_turn
schedules_keep =
    record {
      schedule = λ n s t. fall_plans n (with_schedule s t);
      tick = λ n t e. fall_plans n (continue_at n (wake n t)) e ∙ priority_of (same_woken n t);
      trigger = λ day clock n i t e. start_plans day clock n i (called_by n i t) e ∙ priority_of (same_called n i t);
      prevent = λ t. refl;
      due = λ p t. due_plan t.alive t.kept p t;
      end = λ t. end_plan t.kept t;
      suspend = λ t. refl;
      continue = λ q t. refl;
      resume = λ n t. refl;
      later = λ n a q r t. (same_later n a q r t).schedule;
      rest = λ n a t. (same_rest n a t).schedule;
    }
