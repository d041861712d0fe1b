-- A task's turn keeps the limits of the kernel test.
use Rattle.std.specs.Prelude.{is_some, None, Option, Some}
use mathlib.Core.Path.{◌≡◌, refl}
use mathlib.Core.Bool.{Bool, true, false, not, ◌||◌}
use Prim.Native.Nat.{ℕ, zero, suc, ◌≤◌}
use native.Mathlib.Omega.{arith}
use lib.Dec.{ltb, leb, eqb}
use borrow.Author.Tests.{le-leb, leb-true, eqb-true}
use Rattle.calendar.specs.Limits.{longest_duration, last_instant, most_instant, is_duration}
use Rattle.calendar.specs.Times.{duration, plus}
use Rattle.calendar.specs.declared.Instant.{Instant}
use Rattle.record.specs.Refusals.{scheduled, on_interrupt, at_time, after_duration, or_zero, uses, clean_start, first_timed, start_formed, start_timed, resume_timed, timed}
use Rattle.layout.specs.declared.Form.TheVariants.{Continuation, Resumption}
use Rattle.layout.specs.declared.Head.{Head}
use Rattle.lock.specs.Locks.{waiting}
use Rattle.facts.proofs.Bools.{by_bool, contra, both, and_both, or_right}
use Rattle.task.specs.State.{unheld, with_kept, with_hold, with_current, with_schedule, with_continuation}
use Rattle.schedule.specs.Alarms.{pending, listening, planned, falls, listens}
use Rattle.schedule.specs.Schedules.{no_schedule, advance, triggered}
use Rattle.task.specs.Continuations.{or_else, goes_on, dropped, spent, continued, continue_at, called_by}
use Rattle.task.specs.Turns.{unmarked, started, terminated, due_if, due_turn, end_if, end_turn, prevent_turn, suspend_turn, go_on_turn, delay_turn, delay_ends, wake, fall_turn, tick_turn, plan_turn, start_turn, trigger_turn, go_on_later_turn, rest_turn}
use Rattle.schedule.specs.declared.Alarm.{Alarm}
use Rattle.task.specs.declared.Hold.{Hold}
use Rattle.task.specs.declared.Hold.TheVariants.{Unheld, Suspended, Delayed}
use Rattle.schedule.specs.declared.Schedule.{Schedule}
use Rattle.task.specs.declared.Task.{Task}
use Rattle.task.specs.declared.Turn.{Turn}
use Rattle.task.specs.Promises.{Fair}
use Rattle.task.proofs.Dues.{continued_cases, spent_cases}
use Rattle.task.proofs.Alike.{like_refl}
use Rattle.task.proofs.Fairness.{rest_facts, fair_unmarked, fair_due, fair_end, fair_prevent, fair_suspend, fair_continue, fair_resume, fair_tick, fair_schedule, fair_trigger, fair_later, fair_rest}
use Rattle.machine.specs.declared.Counts.{Counts}
use Rattle.machine.specs.Test.{most_priority, is_priority, kept_ok, hold_ok, alarm_ok, schedule_ok, continuation_ok}
use Rattle.machine.specs.Activation.{alarm_by, schedule_of, activate_by, continue_by, resume_by}
use Rattle.machine.specs.Invariants.{IsDay}
use Rattle.machine.proofs.Facts.{TaskOk}
use Rattle.machine.proofs.Schedules.{Ok, clean_first, soon_ok, set_off_soon, rearmed_ok, alarm_of_soon, terms_parts, pending_terms, advance_ok, triggered_ok, schedule_of_ok, goes_parts, goes_of}

-- A fair turn that leaves the task in its limits; p: that of a PREVENT.
pub record Good (day : ℕ) (n : Counts) (p : Bool) (t : Task) (u : Turn) : Type 0 where
  pub fair : Fair p t u
  pub ok : TaskOk day n u.task

module _ (day : ℕ) (n : Counts) where
  abbrev In : Task → Type 0
  In t = TaskOk day n t

  running_ok : (p : ℕ) (t : Task) → is_priority p ≡ true → In t → In (started p t)
  running_ok p t q h =
      record {
        declared_ok = h.declared_ok;
        current_ok = q;
        kept_ok_law = refl;
        hold_ok_law = refl;
        rests = refl;
        listed = λ e. contra e refl;
        schedule_ok_law = h.schedule_ok_law;
        continuation_ok_law = h.continuation_ok_law;
      }

  terminated_ok : (t : Task) → In t → In (terminated t)
  terminated_ok t h =
      record {
        declared_ok = h.declared_ok;
        current_ok = h.declared_ok;
        kept_ok_law = refl;
        hold_ok_law = refl;
        rests = refl;
        listed = λ e. contra e refl;
        schedule_ok_law = h.schedule_ok_law;
        continuation_ok_law = h.continuation_ok_law;
      }

  back_ok : (p : ℕ) (t : Task) → t.alive ≡ true → is_priority p ≡ true → In t → In (with_kept (Some p) t)
  back_ok p t a q h =
      record {
        declared_ok = h.declared_ok;
        current_ok = h.current_ok;
        kept_ok_law = q;
        hold_ok_law = h.hold_ok_law;
        rests = rw a;
        listed = h.listed;
        schedule_ok_law = h.schedule_ok_law;
        continuation_ok_law = h.continuation_ok_law;
      }

  schedule_in : (s : Schedule) (t : Task) → Ok day n.interrupts s → In t → In (with_schedule s t)
  schedule_in s t q h =
      record {
        declared_ok = h.declared_ok;
        current_ok = h.current_ok;
        kept_ok_law = h.kept_ok_law;
        hold_ok_law = h.hold_ok_law;
        rests = h.rests;
        listed = h.listed;
        schedule_ok_law = q;
        continuation_ok_law = h.continuation_ok_law;
      }

  -- A hold, on a living task unless it is none.
  hold_in : (g : Hold) (t : Task) → (unheld g ≡ false → t.alive ≡ true) → hold_ok g ≡ true → In t → In (with_hold g t)
  hold_in g t a q h =
      record {
        declared_ok = h.declared_ok;
        current_ok = h.current_ok;
        kept_ok_law = h.kept_ok_law;
        hold_ok_law = q;
        rests =
            by_bool t.alive (λ e. rw e)
            (λ e.
            let r = rest_facts t.alive (is_some t.kept) (waiting t.wait) (unheld t.hold) h.rests e in
            by_bool (unheld g) (λ z. rw (e, r.0, r.1, z)) (λ z. contra (a z) e));
        listed = h.listed;
        schedule_ok_law = h.schedule_ok_law;
        continuation_ok_law = h.continuation_ok_law;
      }

  current_in : (p : ℕ) (t : Task) → is_priority p ≡ true → In t → In (with_current p t)
  current_in p t q h =
      record {
        declared_ok = h.declared_ok;
        current_ok = q;
        kept_ok_law = h.kept_ok_law;
        hold_ok_law = h.hold_ok_law;
        rests = h.rests;
        listed = h.listed;
        schedule_ok_law = h.schedule_ok_law;
        continuation_ok_law = h.continuation_ok_law;
      }

  -- ---- due and end

  due_in_law : (a : Bool) (b : Option ℕ) (p : ℕ) (t : Task) → t.alive ≡ a → is_priority p ≡ true → In t → In (due_if a b p t).task
  unfolding due_if
  due_in_law false b p t a q h = running_ok p t q h
  due_in_law true None p t a q h = back_ok p t a q h
  due_in_law true (Some r) p t a q h = h

  due_ok : (p : ℕ) (t : Task) → is_priority p ≡ true → In t → In (due_turn p t).task
  due_ok p t q h = due_in_law t.alive t.kept p t refl q h

  end_in : (b : Option ℕ) (t : Task) → kept_ok b ≡ true → In t → In (end_if b t).task
  unfolding end_if
  end_in None t q h = terminated_ok t h
  end_in (Some p) t q h = running_ok p t q h

  pub good_due : (p : ℕ) (t : Task) → is_priority p ≡ true → In t → Good day n false t (due_turn p t)
  good_due p t q h = record { fair = fair_due p t h.rests; ok = due_ok p t q h }

  pub good_end : (t : Task) → t.alive ≡ true → In t → Good day n false t (end_turn t)
  good_end t a h = record { fair = fair_end t a; ok = end_in t.kept t h.kept_ok_law h }

  prevent_in : (t : Task) → In t → In (dropped (with_schedule no_schedule (with_kept None t)))
  prevent_in t h =
      record {
        declared_ok = h.declared_ok;
        current_ok = h.current_ok;
        kept_ok_law = refl;
        hold_ok_law = h.hold_ok_law;
        rests =
            by_bool t.alive (λ e. rw e)
            (λ e.
            let r = rest_facts t.alive (is_some t.kept) (waiting t.wait) (unheld t.hold) h.rests e in
            rw (e, r.1, r.2));
        listed = h.listed;
        schedule_ok_law = unfold schedule_ok in refl;
        continuation_ok_law = unfold continuation_ok in refl;
      }

  pub good_prevent : (t : Task) → In t → Good day n true t (prevent_turn t)
  good_prevent t h = record { fair = fair_prevent t; ok = unfold prevent_turn in prevent_in t h }

  -- ---- holds

  pub or_else_law : (p q : ℕ) → p ≤ most_priority → is_priority q ≡ true → is_priority (or_else p q) ≡ true
  or_else_law zero q l e = e
  or_else_law (suc p) q l e = and_both (le-leb 1 (suc p) (omega arith)) (le-leb (suc p) most_priority l)

  pub good_suspend : (t : Task) → t.alive ≡ true → In t → Good day n false t (suspend_turn t)
  good_suspend t a h = record { fair = fair_suspend t; ok = unfold suspend_turn in hold_in Suspended t (λ z. a) refl h }

  goes_on_in : (p : ℕ) (t : Task) → p ≤ most_priority → In t → In (goes_on p t)
  goes_on_in p t l h =
      hold_in Unheld (with_current (or_else p t.current) t) (λ z. contra refl z) refl
      (current_in (or_else p t.current) t (or_else_law p t.current l h.current_ok) h)

  pub good_continue : (p : ℕ) (t : Task) → p ≤ most_priority → In t → Good day n false t (go_on_turn p t)
  good_continue p t l h =
      record {
        fair = fair_continue p t;
        ok = unfold go_on_turn in goes_on_in p t l h;
      }

  pub good_resume : (m : Instant) (t : Task) → t.alive ≡ true → m.0 ≤ most_instant → In t → Good day n false t (delay_turn m t)
  good_resume m t a l h =
      record { fair = fair_resume m t; ok = unfold delay_turn in hold_in (Delayed m) t (λ z. a) (le-leb m.0 most_instant l) h }

  -- ---- schedules

  fall_ok : (m : Instant) (t : Task) → m.0 ≤ last_instant → In t → In (fall_turn m t).task
  unfolding fall_turn
  fall_ok m t l h =
      by_bool (falls m t.schedule.alarm)
      (λ e. rw e (
      let s = t.schedule in
      let q = (both (pending s.alarm.plan) _ e).0 in
      let r = (terms_parts day s (pending_terms day n.interrupts s q h.schedule_ok_law)).0 in
      due_ok s.priority (with_schedule (advance m s) t) r (schedule_in (advance m s) t (advance_ok day n.interrupts m s l q h.schedule_ok_law) h)))
      (λ e. rw e h)

  wake_in : (m : Instant) (t : Task) → In t → In (wake m t)
  unfolding wake
  wake_in m t h = by_bool (delay_ends m t.hold) (λ e. rw e (hold_in Unheld t (λ z. contra refl z) refl h)) (λ e. rw e h)

  -- ---- continuations

  continuation_in : (a : Alarm) (p : ℕ) (r : Bool) (t : Task) → continuation_ok n.interrupts a p ≡ true → In t → In (with_continuation a p r t)
  continuation_in a p r t q h =
      record {
        declared_ok = h.declared_ok;
        current_ok = h.current_ok;
        kept_ok_law = h.kept_ok_law;
        hold_ok_law = h.hold_ok_law;
        rests = h.rests;
        listed = h.listed;
        schedule_ok_law = h.schedule_ok_law;
        continuation_ok_law = q;
      }

  -- What the test says of a task's continuation that there is.
  goes : (t : Task) → planned t.continuation.plan ≡ true → In t → (alarm_ok n.interrupts t.continuation ≡ true) × (t.given ≤ most_priority)
  goes t q h = goes_parts n.interrupts t.continuation t.given q h.continuation_ok_law

  spent_in : (t : Task) → In t → In (spent t)
  spent_in t h =
      spent_cases In t
      (λ e. let q = (both (listening t.continuation.plan) _ e).0 in
      let g = goes t (or_right (pending t.continuation.plan) _ q) h in
      continuation_in _ _ _ t (goes_of n.interrupts _ t.given (rearmed_ok n.interrupts t.continuation g.0 q) g.1) h)
      (λ e. continuation_in _ 0 false t (unfold continuation_ok in refl) h)

  continued_in : (t : Task) → pending t.continuation.plan ≡ true → In t → In (continued t)
  continued_in t q h =
      continued_cases In t (λ e. spent_in t h)
      (λ e. spent_in (goes_on t.given t) (goes_on_in t.given t (goes t (rw q) h).1 h))

  continue_at_in : (m : Instant) (t : Task) → In t → In (continue_at m t)
  unfolding continue_at
  continue_at_in m t h =
      by_bool (falls m t.continuation) (λ e. rw e (continued_in t (both (pending t.continuation.plan) _ e).0 h)) (λ e. rw e h)

  called_in : (m : Instant) (i : ℕ) (t : Task) → m.0 ≤ last_instant → In t → In (called_by m i t)
  unfolding called_by
  called_in m i t l h =
      by_bool (listens i t.continuation)
      (λ e. let q = (both (listening t.continuation.plan) _ e).0 in
      let g = goes t (or_right (pending t.continuation.plan) _ q) h in
      let s = soon_ok n.interrupts _ (set_off_soon n.interrupts t.continuation g.0 m l q) in
      rw e (continue_at_in m _ (continuation_in _ _ _ t (goes_of n.interrupts _ t.given s g.1) h)))
      (λ e. rw e h)

  pub good_later : (m : Instant) (a : Alarm) (p : ℕ) (r : Bool) (t : Task) → alarm_ok n.interrupts a ≡ true → p ≤ most_priority → In t → Good day n false t (go_on_later_turn m a p r t)
  good_later m a p r t q l h =
      record { fair = fair_later m a p r t; ok = continue_at_in m _ (continuation_in a p r t (goes_of n.interrupts a p q l) h) }

  pub good_rest : (m : Instant) (a : Alarm) (t : Task) → t.alive ≡ true → alarm_ok n.interrupts a ≡ true → In t → Good day n false t (rest_turn m a t)
  good_rest m a t v q h =
      record {
        fair = fair_rest m a t;
        ok = (good_later m a 0 true (with_hold Suspended t) q (omega arith) (hold_in Suspended t (λ z. v) refl h)).ok;
      }

  pub good_tick : (m : Instant) (t : Task) → m.0 ≤ last_instant → In t → Good day n false t (tick_turn m t)
  good_tick m t l h = record { fair = fair_tick m t h.rests; ok = fall_ok m (continue_at m (wake m t)) l (continue_at_in m (wake m t) (wake_in m t h)) }

  pub good_schedule : (m : Instant) (s : Schedule) (t : Task) → m.0 ≤ last_instant → Ok day n.interrupts s → In t → Good day n false t (plan_turn m s t)
  good_schedule m s t l q h = record { fair = fair_schedule m s t h.rests; ok = fall_ok m (with_schedule s t) l (schedule_in s t q h) }

  pub good_same : (t : Task) → In t → Good day n false t (unmarked t)
  good_same t h = record { fair = fair_unmarked t t (like_refl t); ok = h }

  module _ (is_day : IsDay day) (clock : ℕ) (m : Instant) (l : m.0 ≤ last_instant) where
    start_in : (i : ℕ) (t : Task) → In t → Good day n false t (start_turn day clock m i t)
    unfolding start_turn
    start_in i t h =
        by_bool (listens i t.schedule.alarm)
        (λ e. rw e (good_schedule m (triggered day clock m t.schedule) t l
        (triggered_ok day n.interrupts is_day clock m l t.schedule (both (listening t.schedule.alarm.plan) _ e).0 h.schedule_ok_law) h))
        (λ e. rw e (good_same t h))

    pub good_trigger : (i : ℕ) (t : Task) → In t → Good day n false t (trigger_turn day clock m i t)
    good_trigger i t h =
        record { fair = fair_trigger day clock m i t h.rests; ok = (start_in i (called_by m i t) (called_in m i t l h)).ok }

    -- Kind 0 needs no schedule; another kind's passed refusals 3, 5 and 6.
    pub good_activate : (c : Head) (t : Task) → c.priority ≤ most_priority → start_formed c ≡ true → start_timed day c ≡ true
        → (not (on_interrupt c.kind) || ltb c.interrupt n.interrupts) ≡ true → In t → Good day n false t (activate_by day clock m c t)
    unfolding activate_by
    good_activate c t q f s i h =
        let r = or_else_law c.priority t.declared q h.declared_ok in
        by_bool (eqb c.kind 0) (λ z. rw z (good_due (or_else c.priority t.declared) t r h))
        (λ z. rw z (good_schedule m (schedule_of day clock m c (or_else c.priority t.declared)) t l
        (schedule_of_ok day n.interrupts is_day clock m l c (or_else c.priority t.declared) r f s i) h))

    -- The alarm of a call that passed refusals 3, 5 and 6.
    alarm_in : (c : Head) → or_zero (at_time c.kind || after_duration c.kind) c.first ≡ true → first_timed day c.kind c.first ≡ true
        → (not (on_interrupt c.kind) || ltb c.interrupt n.interrupts) ≡ true → alarm_ok n.interrupts (alarm_by day clock m c) ≡ true
    alarm_in c u f i = soon_ok n.interrupts _ (alarm_of_soon day n.interrupts is_day clock m l c.kind c.first c.interrupt u f i)

    pub good_go_on : (c : Head) (t : Task) → c.priority ≤ most_priority → clean_start (uses Continuation c) c ≡ true → timed day Continuation c ≡ true
        → (not (on_interrupt c.kind) || ltb c.interrupt n.interrupts) ≡ true → In t → Good day n false t (continue_by day clock m c t)
    unfolding continue_by uses timed
    good_go_on c t q f s i h =
        by_bool (eqb c.kind 0) (λ z. rw z (good_continue c.priority t q h))
        (λ z. rw z (good_later m (alarm_by day clock m c) c.priority false t (alarm_in c (clean_first _ c f) s i) q h))

    pub good_resume_by : (c : Head) (t : Task) → t.alive ≡ true → clean_start (uses Resumption c) c ≡ true → timed day Resumption c ≡ true
        → (not (on_interrupt c.kind) || ltb c.interrupt n.interrupts) ≡ true → In t → Good day n false t (resume_by day clock m c t)
    unfolding resume_by uses timed resume_timed
    good_resume_by c t a f s i h =
        let d = both (scheduled c.kind || is_duration c.first) (first_timed day c.kind c.first) s in
        by_bool (eqb c.kind 0)
        (λ z. let e : is_duration c.first ≡ true = rw (eqb-true c.kind 0 z) at d.0 in
        let b = leb-true c.first longest_duration (both (leb 1 c.first) _ e).1 in
        rw z (good_resume (plus m (duration c.first)) t a (omega arith) h))
        (λ z. rw z (good_rest m (alarm_by day clock m c) t a (alarm_in c (rw z at (clean_first _ c f)) d.1 i) h))
