-- What touches no schedule leaves it as it is, and it comes due in any arrival at its next due.
use Rattle.std.specs.Prelude.{None, Option, Some}
use mathlib.Core.Path.{◌≡◌, refl, sym, ap, subst, ◌∙◌}
use mathlib.Core.Bool.{true, false, ◌&&◌, ◌||◌, and-true}
use mathlib.Core.List.{List}
use Prim.Native.Nat.{ℕ}
use lib.Dec.{eqb}
use borrow.Author.Tests.{eq-eqb}
use Rattle.calendar.specs.declared.Instant.{Instant}
use Rattle.layout.specs.Marks.{is}
use Rattle.layout.specs.declared.Call.{Call}
use Rattle.layout.specs.declared.Head.{Head}
use Rattle.layout.specs.declared.Mark.{Mark}
use Rattle.layout.specs.declared.Mark.TheVariants.{AC, TE, SU, PR, RE, TG, TI, SL}
use Rattle.record.specs.Refusals.{scheduled}
use Rattle.lock.specs.declared.Wait.{Wait}
use Rattle.facts.proofs.Bools.{by_bool, contra, both, neither}
use Rattle.schedule.specs.Alarms.{pending, falls, listens}
use Rattle.schedule.specs.Schedules.{advance}
use Rattle.schedule.specs.declared.Schedule.{Schedule}
use Rattle.task.specs.State.{wait_for}
use Rattle.task.specs.Continuations.{continue_at, called_by}
use Rattle.task.specs.Turns.{unmarked, end_if, suspend_turn, go_on_turn, delay_turn, delay_ends, wake, fall_turn, tick_turn, start_turn, trigger_turn}
use Rattle.task.specs.declared.Task.{Task}
use Rattle.machine.specs.declared.State.{State}
use Rattle.machine.specs.State.{task_at, enabled_at}
use Rattle.machine.specs.Activation.{activate_by, continue_by, resume_by}
use Rattle.machine.specs.Calls.{named_turn, runner_turn, arrival}
use Rattle.machine.specs.Log.{final}
use Rattle.machine.specs.Continuing.{task_after}
use Rattle.machine.specs.Scheduling.{Goes, touches_schedule, ScheduleUndisturbed, ScheduleStays, StartsInTime, NoOtherStarts, StartPromiseKept}
use Rattle.machine.proofs.Sorts.{tick_mark}
use Rattle.machine.proofs.Untouched.{Left, step_stays, list_stays}
use Rattle.machine.proofs.Undisturbed.{at_once}
use Rattle.machine.proofs.Arriving.{arrives_turn, arrives_due}
use Rattle.machine.proofs.Unholding.{next_falls, final_declared}
use Rattle.machine.proofs.Scheduling.{goes_of, due_schedule, fall_due, fall_not, bit_is, called_schedule, on_schedule}

abbrev SameSchedule : Task → Task → Type 0
SameSchedule t u = u.schedule ≡ t.schedule

-- What touches task i's schedule, one after the other.
record Unscheduled (k : State) (c : Call) (i : ℕ) : Type 0 where
  activated : (is c.head.mark AC && scheduled c.head.kind && eqb c.head.number i) ≡ false
  prevented : (is c.head.mark PR && eqb c.head.number i) ≡ false
  triggered : (is c.head.mark TG && enabled_at k c.head.number && listens c.head.number (task_at k.tasks i).schedule.alarm) ≡ false
  ticked : ((is c.head.mark TI || is c.head.mark SL) && falls (arrival c.head.mark k) (task_at k.tasks i).schedule.alarm) ≡ false

unscheduled : (k : State) (c : Call) (i : ℕ) → touches_schedule k c i ≡ false → Unscheduled k c i
unfolding touches_schedule
unscheduled k c i e =
    let a = neither _ ((is c.head.mark TI || is c.head.mark SL) && falls (arrival c.head.mark k) (task_at k.tasks i).schedule.alarm) e in
    let b = neither _ (is c.head.mark TG && enabled_at k c.head.number && listens c.head.number (task_at k.tasks i).schedule.alarm) a.0 in
    let d = neither (is c.head.mark AC && scheduled c.head.kind && eqb c.head.number i) (is c.head.mark PR && eqb c.head.number i) b.0 in
    record { activated = d.0; prevented = d.1; triggered = b.1; ticked = a.1 }

-- ---- one task's turn

end_schedule : (k : Option ℕ) (t : Task) → (end_if k t).task.schedule ≡ t.schedule
unfolding end_if
end_schedule None t = refl
end_schedule (Some p) t = refl

wake_schedule : (n : Instant) (t : Task) → (wake n t).schedule ≡ t.schedule
unfolding wake
wake_schedule n t = by_bool (delay_ends n t.hold) (λ e. rw e) (λ e. rw e)

module _ (day clock : ℕ) (n : Instant) (h : Head) (t : Task) where
  continue_same : (continue_by day clock n h t).task.schedule ≡ t.schedule
  unfolding continue_by go_on_turn
  continue_same = by_bool (eqb h.kind 0) (λ e. rw e) (λ e. rw e (on_schedule n _))

  -- AC at once, TE, SU and CO.
  named_same : (m : Mark) → (is m AC ≡ true → scheduled h.kind ≡ false) → is m PR ≡ false → SameSchedule t (named_turn day clock n m h t).task
  unfolding named_turn activate_by suspend_turn
  named_same m ac pr =
      by_bool (is m AC) (λ e. rw (e, at_once h.kind (ac e)) (due_schedule t.alive t.kept _ t).0)
      (λ e. rw e (by_bool (is m TE) (λ te. rw te (end_schedule t.kept t))
      (λ te. rw te (by_bool (is m SU) (λ su. rw su) (λ su. rw (su, pr) continue_same)))))

  -- EN and RE.
  runner_same : (m : Mark) → SameSchedule t (runner_turn day clock n m h t).task
  unfolding runner_turn resume_by delay_turn
  runner_same m =
      by_bool (is m RE) (λ e. rw e (by_bool (eqb h.kind 0) (λ z. rw z) (λ z. rw z (on_schedule n _))))
      (λ e. rw e (end_schedule t.kept t))

start_not : (day clock : ℕ) (n : Instant) (i : ℕ) (t : Task) → listens i t.schedule.alarm ≡ false → start_turn day clock n i t ≡ unmarked t
unfolding start_turn
start_not day clock n i t e = rw e

trigger_same : (day clock : ℕ) (n : Instant) (i : ℕ) (t : Task) → listens i t.schedule.alarm ≡ false → SameSchedule t (trigger_turn day clock n i t).task
trigger_same day clock n i t e = let q = called_schedule n i t in rw (start_not day clock n i (called_by n i t) (rw q e)) q

-- What comes before the schedule in a tick leaves it.
before_start : (n : Instant) (t : Task) → (continue_at n (wake n t)).schedule ≡ t.schedule
before_start n t = on_schedule n (wake n t) ∙ wake_schedule n t

tick_same : (n : Instant) (t : Task) → falls n t.schedule.alarm ≡ false → SameSchedule t (tick_turn n t).task
tick_same n t e = let q = before_start n t in rw (fall_not n (continue_at n (wake n t)) (rw q e)) q

-- ---- a step, and a list of records

left : (day : ℕ) (k : State) (c : Call) (i : ℕ) → touches_schedule k c i ≡ false → Left SameSchedule day k c i
left day k c i e =
    let m = c.head.mark in
    let t = task_at k.tasks i in
    let u = unscheduled k c i e in
    record {
      named = λ q z. let n = eq-eqb c.head.number i z in
          named_same day k.clock k.now c.head t m (λ ac. rw (ac, n, and-true) at u.activated) (rw (n, and-true) at u.prevented);
      runs = λ r. runner_same day k.clock k.now c.head t m;
      triggered = λ tg on. trigger_same day k.clock k.now c.head.number t (rw (tg, on) at u.triggered);
      ticked = λ q. tick_same (arrival m k) t (rw (tick_mark m q) at u.ticked);
    }

next : (t u v : Task) → SameSchedule t u → SameSchedule u v → SameSchedule t v
next t u v a b = b ∙ a

waits : (w : Wait) (n : ℕ) (l : List ℕ) (t : Task) → SameSchedule t (wait_for w n l t)
waits w n l t = refl

pub schedule_undisturbed : ScheduleUndisturbed
schedule_undisturbed day k s i l e = step_stays SameSchedule next waits touches_schedule left day k i l s e

pub schedule_stays : ScheduleStays
schedule_stays = list_stays SameSchedule next waits touches_schedule left

-- ---- it comes due

pub starts_in_time : StartsInTime
starts_in_time day k s i x l e a =
    let t = task_at k.tasks i in
    let u = continue_at x (wake x t) in
    let q = before_start x t in
    let f = next_falls t.schedule.alarm x e in
    let d = fall_due x u (rw q f) in
    let w : (task_after day k s i).schedule ≡ (fall_turn x u).task.schedule = ap (λ (y : Task). y.schedule) (arrives_turn day k s x a i l).1 in
    record {
      due = rw (arrives_due day k s x a i l, d.1);
      leaves = subst (λ (v : Schedule). Goes x t.schedule v) (sym (w ∙ d.0 ∙ ap (advance x) q)) (goes_of x t.schedule (both (pending t.schedule.alarm.plan) _ f).0);
    }

pub no_other_starts : NoOtherStarts
no_other_starts day k s i x l a e =
    let t = task_at k.tasks i in
    let u = continue_at x (wake x t) in
    by_bool (falls x t.schedule.alarm) (λ z. z)
    (λ z. contra (rw (arrives_due day k s x a i l, bit_is) at e) (rw (fall_not x u (rw (before_start x t) z))))

pub start_promise_kept : StartPromiseKept
start_promise_kept day k rs i x l e u s a =
    starts_in_time day (final day k rs) s i x (final_declared day k i l rs) (rw (schedule_stays day k rs i l u) e) a
