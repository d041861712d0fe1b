-- What ACTIVATE, PREVENT and TRIGGER make of a schedule, and that it comes due in time.
use Rattle.std.specs.Prelude.{None, Option, Some}
use mathlib.Core.Path.{◌≡◌, refl, sym, ap, subst, ◌∙◌}
use mathlib.Core.Bool.{Bool, true, false, not, ◌&&◌, ◌||◌}
use mathlib.Core.List.{List}
use Prim.Native.Nat.{ℕ, zero, suc, ◌<◌}
use native.Mathlib.Omega.{arith}
use lib.Dec.{eqb}
use borrow.Author.Tests.{eq-eqb, ne_eqb, eqb-true, ltb-true}
use Rattle.calendar.specs.Limits.{is_time_of_day, is_period}
use Rattle.calendar.specs.Times.{duration, plus}
use Rattle.calendar.specs.Dues.{first_due, last_allowed, next_due}
use Rattle.calendar.specs.declared.Instant.{Instant}
use Rattle.calendar.specs.declared.End.{End}
use Rattle.calendar.specs.declared.End.TheVariants.{Open, Until, During}
use Rattle.calendar.specs.Moments.{Moment}
use Rattle.calendar.proofs.Theorems.{at_is_next, end_is_next}
use Rattle.layout.specs.declared.Call.{Call}
use Rattle.layout.specs.declared.Head.{Head}
use Rattle.layout.specs.declared.Mark.{Mark}
use Rattle.layout.specs.declared.Mark.TheVariants.{AC, TG}
use Rattle.layout.specs.declared.Form.TheVariants.{Activation}
use Rattle.record.specs.Refusals.{scheduled, on_interrupt, at_time, after_duration, start, uses, or_zero, clean_names, clean_start, start_formed, end_timed, first_timed, start_timed, timed}
use Rattle.facts.proofs.Bools.{by_bool, contra, both, or_then, or_right}
use Rattle.lock.specs.Locks.{bit}
use Rattle.schedule.specs.Alarms.{pending, listening, planned, set_for, armed, falls, listens, coming_at, rearmed, set_off, alarm_of}
use Rattle.schedule.specs.Coming.{next_of}
use Rattle.schedule.specs.Schedules.{no_schedule, with_alarm, advanced, advance, last_of, triggered}
use Rattle.schedule.specs.declared.Alarm.{Alarm}
use Rattle.schedule.specs.declared.Schedule.{Schedule}
use Rattle.task.specs.State.{with_schedule}
use Rattle.task.specs.Continuations.{or_else, with_next, continue_at, called_by}
use Rattle.task.specs.Turns.{unmarked, due_if, prevent_turn, fall_turn, plan_turn, start_turn, trigger_turn}
use Rattle.task.specs.Continuing.{SameHold}
use Rattle.task.specs.declared.Task.{Task}
use Rattle.task.specs.declared.Turn.{Turn}
use Rattle.task.proofs.Continuing.{else, at_other, at_due, left_alone, same_then}
use Rattle.machine.specs.declared.State.{State}
use Rattle.machine.specs.declared.Sort.TheVariants.{OneTask, AnInterrupt}
use Rattle.machine.specs.State.{task_at, enabled_at}
use Rattle.machine.specs.Work.{changed, every_turn}
use Rattle.machine.specs.Test.{end_ok, alarm_ok, last_ok, schedule_ok, terms_ok}
use Rattle.machine.specs.Sorts.{sort_of}
use Rattle.machine.specs.Activation.{end_of, schedule_of, activate_by}
use Rattle.machine.specs.Calls.{named_turn, change_of, work_by}
use Rattle.machine.specs.Step.{finish, step}
use Rattle.machine.specs.Continuing.{SameButWait, Accepts, task_after, first_of}
use Rattle.machine.specs.Scheduling.{IsFirst, AsAsked, IsLast, SameTerms, Goes, ComesFirst, Activates, due_in, CallsSchedule}
use Rattle.machine.proofs.SetLaws.{has_only}
use Rattle.machine.proofs.Schedules.{terms_parts, clean_first}
use Rattle.machine.proofs.Passed.{Formal, formal_as, passed}
use Rattle.machine.proofs.Works.{set_at}
use Rattle.machine.proofs.Accepted.{same_on, held_on, task_ok_law, table, no_refusal, step_work}
use Rattle.machine.proofs.Continuing.{sched, named_turn_law, prevent_turn_law, trigger_turns, trigger_turn_law}

-- ---- a due

-- The moment is none, or an instant.
never_at : {X : Type 0} {m : Instant} → Some m ≡ None → X
never_at e = absurd (let z : ◌≡◌ {A = ℕ} 0 1 = cc in omega arith)

same_terms : (s : Schedule) (a : Alarm) → a.interrupt ≡ s.alarm.interrupt → a.delay ≡ s.alarm.delay → SameTerms s (with_alarm a s) × ((with_alarm a s).last ≡ s.last)
same_terms s a i d = (record { interrupt = i; delay = d; end = refl; period = refl; priority = refl }, refl)

pub goes_of : (n : Instant) (s : Schedule) → pending s.alarm.plan ≡ true → Goes n s (advance n s)
unfolding advance
goes_of n s p = go (next_due s.period s.last n) refl
  where
    go : (m : Moment) → next_due s.period s.last n ≡ m → Goes n s (advanced m s)
    go (Some m) e =
        let here : next_of (coming_at s.alarm.plan m s.alarm) ≡ Some m = rw p in
        record {
          next = here ∙ sym e;
          again = λ z w. never_at (sym here ∙ z);
          gone = λ z w. never_at (sym here ∙ z);
          terms = λ z. same_terms s (coming_at s.alarm.plan m s.alarm) refl refl;
        }
    go None e =
        by_bool (listening s.alarm.plan)
        (λ q. let own : with_alarm (rearmed s.alarm) s ≡ advanced None s = rw q in
        subst (λ (v : Schedule). Goes n s v) own
        (record { next = sym e; again = λ z w. refl; gone = λ z w. contra q w; terms = λ z. same_terms s (rearmed s.alarm) refl refl }))
        (λ q. let own : no_schedule ≡ advanced None s = rw q in
        subst (λ (v : Schedule). Goes n s v) own
        (record { next = sym e; again = λ z w. contra w q; gone = λ z w. refl; terms = λ z. contra z refl }))

-- A due leaves the schedule, and is marked.
pub due_schedule : (a : Bool) (k : Option ℕ) (p : ℕ) (t : Task) → ((due_if a k p t).task.schedule ≡ t.schedule) × ((due_if a k p t).marks.due ≡ true)
unfolding due_if
due_schedule false k p t = (refl, refl)
due_schedule true None p t = (refl, refl)
due_schedule true (Some q) p t = (refl, refl)

-- Who lives, or has no start due, goes on.
due_goes : (a : Bool) (k : Option ℕ) (p : ℕ) (t : Task) → (a || not (due_if a k p t).marks.due) ≡ true
    → ((due_if a k p t).task.alive ≡ t.alive) × SameHold t (due_if a k p t).task
unfolding due_if
due_goes false k p t e = contra e refl
due_goes true None p t e = (refl, record { hold = refl; current = refl })
due_goes true (Some q) p t e = (refl, record { hold = refl; current = refl })

-- ---- what falls on n

module _ (n : Instant) (t : Task) where
  pub fall_due : falls n t.schedule.alarm ≡ true
      → ((fall_turn n t).task.schedule ≡ advance n t.schedule) × ((fall_turn n t).marks.due ≡ true)
  unfolding fall_turn
  fall_due e = rw e (due_schedule t.alive t.kept t.schedule.priority (with_schedule (advance n t.schedule) t))

  pub fall_not : falls n t.schedule.alarm ≡ false → fall_turn n t ≡ unmarked t
  unfolding fall_turn
  fall_not e = rw e

  fall_goes : (t.alive || not (fall_turn n t).marks.due) ≡ true → ((fall_turn n t).task.alive ≡ t.alive) × SameHold t (fall_turn n t).task
  unfolding fall_turn
  fall_goes =
      by_bool (falls n t.schedule.alarm)
      (λ e. rw e (λ z. let g = due_goes t.alive t.kept t.schedule.priority (with_schedule (advance n t.schedule) t) z in
      (g.0, record { hold = g.1.hold; current = g.1.current })))
      (λ e. rw e (λ z. (refl, record { hold = refl; current = refl })))

  fall_kept : (fall_turn n t).marks.due ≡ false → (fall_turn n t).task.kept ≡ t.kept
  fall_kept z = by_bool (falls n t.schedule.alarm) (λ e. contra (fall_due e).1 z) (λ e. rw (fall_not e))

-- ---- a schedule that begins

module _ (day clock : ℕ) (n f : Instant) (s : Schedule) (t : Task) (p : pending s.alarm.plan ≡ true) (e : s.alarm.next ≡ f)
    (last : IsLast day clock f s.end s.last) where
  pub comes_first : ComesFirst day clock n f s (plan_turn n s t).task.schedule (plan_turn n s t).marks.due
  comes_first =
      record {
        next = rw (p, e);
        last = last;
        pends = λ ne.
            let r = fall_not n (with_schedule s t) (rw (p, e) (ne_eqb f.0 n.0 ne)) in
            (ap (λ (u : Turn). u.task.schedule) r, ap (λ (u : Turn). u.marks.due) r);
        comes = λ q.
            let d = fall_due n (with_schedule s t) (rw (p, e) (eq-eqb f.0 n.0 q)) in
            (subst (λ (v : Schedule). Goes n s v) (sym d.0) (goes_of n s p), d.1);
      }

-- The last due of an end given with a call,
last_given : (day clock : ℕ) (f : Instant) (e t : ℕ) → end_timed day e t ≡ true → IsLast day clock f (end_of e t) (last_allowed day (end_of e t) clock f)
unfolding last_allowed end_timed
last_given day clock f zero t h = refl
last_given day clock f (suc zero) t h = end_is_next day clock t f (ltb-true t day (both (is_time_of_day day t) _ h).0)
last_given day clock f (suc (suc m)) t h = refl

-- and of one that passed the kernel test.
last_stored : (day clock : ℕ) (f : Instant) (e : End) → end_ok day e ≡ true → IsLast day clock f e (last_allowed day e clock f)
unfolding last_allowed
last_stored day clock f Open h = refl
last_stored day clock f (Until t) h = end_is_next day clock t f (ltb-true t day h)
last_stored day clock f (During d) h = refl

-- ---- ACTIVATE

as_asked : (day clock : ℕ) (n : Instant) (h : Head) (p : ℕ) → AsAsked h (schedule_of day clock n h p)
unfolding schedule_of
as_asked day clock n h p = record { period = refl; endless = λ e. rw e; until = λ e. rw e; during = λ e. rw e }

is_first : (day : ℕ) (k : State) (h : Head) → first_timed day h.kind h.first ≡ true → IsFirst day k.clock h k.now (first_of day k h)
unfolding first_due first_timed
is_first day k h e =
    record {
      at = λ q. rw q (at_is_next day k.clock h.first k.now (ltb-true h.first day (both (is_time_of_day day h.first) _ (rw q at e)).0));
      after = λ q. rw q;
      all = λ q. rw q;
    }

-- What an ACTIVATE that isn't refused has passed.
record Given (day : ℕ) (h : Head) : Type 0 where
  first : first_timed day h.kind h.first ≡ true
  end : end_timed day h.endkind h.endtime ≡ true
  clean : or_zero (at_time h.kind || after_duration h.kind) h.first ≡ true

given : (day : ℕ) (k : State) (c : Call) → Formal day AC k.counts k.begun c → Given day c.head
unfolding uses timed start_timed
given day k c p =
    let h = c.head in
    let a = both _ (end_timed day h.endkind h.endtime) p.timed in
    let b = both (first_timed day h.kind h.first && is_period h.period) _ a.0 in
    let f = both (clean_names (uses Activation h) c) (start_formed h) p.formed in
    let g = both (clean_start (start h.kind h.endkind) h) _ f.1 in
    record {
      first = (both (first_timed day h.kind h.first) (is_period h.period) b.0).0;
      end = a.1;
      clean = clean_first (start h.kind h.endkind) h g.0;
    }

-- The turn of an ACTIVATE on a schedule, which is made of the task t.
module _ (day : ℕ) (k : State) (h : Head) (g : Given day h) (t : Task) (p : ℕ) where
  abbrev n : Instant
  n = k.now

  abbrev new : Schedule
  new = schedule_of day k.clock n h p

  abbrev turn : Turn
  turn = plan_turn n new t

  sets : on_interrupt h.kind ≡ false → new.alarm ≡ set_for (first_of day k h)
  unfolding schedule_of alarm_of
  sets o = rw o

  arms : on_interrupt h.kind ≡ true → new.alarm ≡ armed h.interrupt (duration h.first)
  unfolding schedule_of alarm_of
  arms o = rw o

  soon : on_interrupt h.kind ≡ false → pending new.alarm.plan ≡ true
  soon o = rw (sets o)

  quiet : on_interrupt h.kind ≡ false → listening new.alarm.plan ≡ false
  quiet o = rw (sets o)

  next : on_interrupt h.kind ≡ false → new.alarm.next ≡ first_of day k h
  next o = rw (sets o)

  idle : on_interrupt h.kind ≡ true → falls n new.alarm ≡ false
  idle o = rw (arms o)

  last : on_interrupt h.kind ≡ false → IsLast day k.clock (first_of day k h) new.end new.last
  unfolding schedule_of last_of alarm_of
  last o = rw o (last_given day k.clock (first_of day k h) h.endkind h.endtime g.end)

  planned_turn : Activates day k h t turn.task turn.marks.due
  planned_turn =
      record {
        begins = λ o. (new, as_asked day k.clock n h p, quiet o, comes_first day k.clock n (first_of day k h) new t (soon o) (next o) (last o));
        first = is_first day k h g.first;
        waits = λ o.
            let r = fall_not n (with_schedule new t) (idle o) in
            (subst (λ (v : Schedule). AsAsked h v) (sym (ap (λ (u : Turn). u.task.schedule) r)) (as_asked day k.clock n h p), ap (λ (u : Turn). u.task.schedule.alarm) r ∙ arms o, ap (λ (u : Turn). u.marks.due) r);
        undelayed = λ q. eqb-true h.first 0 (rw q at g.clean);
        goes = λ z. let r = fall_goes n (with_schedule new t) z in (r.0, record { hold = r.1.hold; current = r.1.current });
        kept = λ z. fall_kept n (with_schedule new t) z;
        continuation = left_alone.schedule n new t;
      }

-- ---- what the step has of a turn

pub bit_is : (b : Bool) → eqb (bit b) 1 ≡ b
bit_is true = refl
bit_is false = refl

-- The due set has the task named if its turn says so.
pub named_due : (day : ℕ) (k : State) (s : List ℕ) (c : Call) → Accepts day k s c → sort_of c.head.mark ≡ OneTask
    → due_in (step day k s) c.head.number
    ≡ (named_turn day k.clock k.now c.head.mark c.head (task_at k.tasks c.head.number)).marks.due
unfolding work_by change_of changed finish
named_due day k s c h q =
    rw (step_work day k s c h OneTask q refl, has_only c.head.number) (bit_is _)

-- So it is in a trigger.
pub trigger_due : (day : ℕ) (k : State) (s : List ℕ) (c : Call) (i : ℕ) → Accepts day k s c → c.head.mark ≡ TG
    → enabled_at k c.head.number ≡ true → i < k.counts.tasks
    → due_in (step day k s) i ≡ (trigger_turn day k.clock k.now c.head.number (task_at k.tasks i)).marks.due
unfolding work_by every_turn finish
trigger_due day k s c i h e on l =
    let f = trigger_turn day k.clock k.now c.head.number in
    rw (
      step_work day k s c h AnInterrupt (ap sort_of e) refl,
      trigger_turns day c.head.mark k c.head.number e on,
      set_at k.counts.tasks f k.tasks (table day k h.tested) (λ (u : Turn). u.marks.due) i l,
    )
    (bit_is _)

-- Serving leaves all of it.
served_on : (day : ℕ) (k : State) (h : Head) (t u v : Task) (a b : Bool) → SameButWait u v → b ≡ a → Activates day k h t u a → Activates day k h t v b
served_on day k h t u v a b w e x =
    let s : v.schedule ≡ u.schedule = ap (λ (y : Task). y.schedule) w.1 in
    let o = held_on u v w in
    record {
      begins = λ z. rw (s, e) (x.begins z);
      first = x.first;
      waits = λ z. rw (s, e) (x.waits z);
      undelayed = x.undelayed;
      goes = λ z. let r = x.goes (rw e at z) in (ap (λ (y : Task). y.alive) w.1 ∙ r.0, record { hold = o.hold ∙ r.1.hold; current = o.current ∙ r.1.current });
      kept = λ z. ap (λ (y : Task). y.kept) w.1 ∙ x.kept (rw e at z);
      continuation = same_then t u v x.continuation (same_on u v w);
    }

activate_turn : (day clock : ℕ) (n : Instant) (m : Mark) (h : Head) (t : Task) → m ≡ AC → scheduled h.kind ≡ true
    → named_turn day clock n m h t ≡ plan_turn n (schedule_of day clock n h (or_else h.priority t.declared)) t
unfolding named_turn activate_by
activate_turn day clock n m h t e s = rw (e, sched h.kind s)

-- ---- PREVENT and TRIGGER

prevented_start : (t : Task) → ((prevent_turn t).task.schedule ≡ no_schedule) × ((prevent_turn t).task.kept ≡ None) × ((prevent_turn t).task.alive ≡ t.alive)
unfolding prevent_turn
prevented_start t = (refl, refl, refl)

-- A continuation leaves the schedule, when it comes due and when it is set off.
pub on_schedule : (n : Instant) (t : Task) → (continue_at n t).schedule ≡ t.schedule
on_schedule n t = by_bool (falls n t.continuation) (λ e. rw (at_due n t e) (else t).schedule) (λ e. rw (at_other n t e))

pub called_schedule : (n : Instant) (i : ℕ) (t : Task) → (called_by n i t).schedule ≡ t.schedule
unfolding called_by
called_schedule n i t = by_bool (listens i t.continuation) (λ e. rw e (on_schedule n (with_next (set_off n t.continuation) t))) (λ e. rw e)

-- The end of a schedule that passed the kernel test.
end_stored : (day ni : ℕ) (s : Schedule) → listening s.alarm.plan ≡ true → schedule_ok day ni s ≡ true → end_ok day s.end ≡ true
unfolding schedule_ok
end_stored day ni s q e =
    (terms_parts day s (both (alarm_ok ni s.alarm && last_ok s) (terms_ok day s) (or_then (planned s.alarm.plan) _ e (or_right (pending s.alarm.plan) _ q))).1).2

trigger_begins : (day clock : ℕ) (n : Instant) (i ni : ℕ) (t : Task) → listens i t.schedule.alarm ≡ true → schedule_ok day ni t.schedule ≡ true
    → let v = triggered day clock n t.schedule in
    let u = trigger_turn day clock n i t in
    ComesFirst day clock n (plus n t.schedule.alarm.delay) v u.task.schedule u.marks.due
unfolding start_turn last_of
trigger_begins day clock n i ni t e ok =
    let w = called_by n i t in
    let q = called_schedule n i t in
    rw (q, e)
    (comes_first day clock n (plus n t.schedule.alarm.delay) (triggered day clock n t.schedule) w refl refl
    (last_stored day clock (plus n t.schedule.alarm.delay) t.schedule.end (end_stored day ni t.schedule (both (listening t.schedule.alarm.plan) _ e).0 ok)))

pub calls_schedule : CallsSchedule
calls_schedule =
    record {
      activate = λ day k s c h e on.
          let i = c.head.number in
          let t = task_at k.tasks i in
          let q = activate_turn day k.clock k.now c.head.mark c.head t e on in
          let p = or_else c.head.priority t.declared in
          let g = given day k c (formal_as e (passed day k c (no_refusal day k s c h)).formal) in
          served_on day k c.head t _ (task_after day k s i) _ (due_in (step day k s) i)
          (rw q at (named_turn_law day k s c h (ap sort_of e))) (rw q at (named_due day k s c h (ap sort_of e))) (planned_turn day k c.head g t p);
      prevent = λ day k s c h e.
          let t = task_at k.tasks c.head.number in
          let w = rw (prevent_turn_law day k.clock k.now c.head.mark c.head t e) at (named_turn_law day k s c h (ap sort_of e)) in
          let p = prevented_start t in
          (ap (λ (y : Task). y.schedule) w.1 ∙ p.0, ap (λ (y : Task). y.kept) w.1 ∙ p.1, ap (λ (y : Task). y.alive) w.1 ∙ p.2);
      trigger = λ day k s c i h e on l z.
          let t = task_at k.tasks i in
          let w = trigger_turn_law day k s c i h e on l in
          let q : (task_after day k s i).schedule ≡ (trigger_turn day k.clock k.now c.head.number t).task.schedule = ap (λ (y : Task). y.schedule) w.1 in (
            triggered day k.clock k.now t.schedule,
            record { interrupt = refl; delay = refl; end = refl; period = refl; priority = refl },
            refl,
            rw (q, trigger_due day k s c i h e on l) (trigger_begins day k.clock k.now c.head.number k.counts.interrupts t z (task_ok_law day k h.tested i l).schedule_ok_law),
          );
    }
