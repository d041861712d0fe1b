-- What CONTINUE, RESUME and TRIGGER make of a continuation.
use Rattle.std.specs.Prelude.{Some}
use mathlib.Core.Path.{◌≡◌, refl, ap, subst, ◌∙◌}
use mathlib.Core.Logic.{◌≢◌}
use mathlib.Core.Bool.{Bool, true, false}
use mathlib.Core.List.{List}
use Prim.Native.Nat.{ℕ, ◌<◌}
use native.Mathlib.Omega.{arith}
use lib.Dec.{eqb, ltb}
use borrow.Author.Tests.{ne_eqb, ltb-true}
use Rattle.calendar.specs.Times.{duration}
use Rattle.calendar.specs.declared.Instant.{Instant}
use Rattle.layout.specs.declared.Call.{Call}
use Rattle.layout.specs.declared.Head.{Head}
use Rattle.layout.specs.declared.Mark.{Mark}
use Rattle.layout.specs.declared.Mark.TheVariants.{PR, CO, RE, TG}
use Rattle.record.specs.Refusals.{scheduled, on_interrupt}
use Rattle.facts.proofs.Bools.{by_bool, by_eq, both}
use Rattle.task.specs.State.{with_hold, with_continuation}
use Rattle.schedule.specs.declared.Alarm.{Alarm}
use Rattle.task.specs.declared.Hold.TheVariants.{Suspended}
use Rattle.task.specs.declared.Task.{Task}
use Rattle.task.specs.declared.Turn.{Turn}
use Rattle.schedule.specs.Alarms.{set_for, armed, alarm_of}
use Rattle.task.specs.Continuations.{continued}
use Rattle.task.specs.Turns.{unmarked, prevent_turn, trigger_turn, go_on_later_turn}
use Rattle.task.specs.Continuing.{Has, HasNone, SameHold, GoesOn}
use Rattle.task.proofs.Continuing.{comes_due_law, later, on_interrupt_law, prevented}
use Rattle.task.proofs.Firing.{turned}
use Rattle.machine.specs.declared.State.{State}
use Rattle.machine.specs.declared.Sort.TheVariants.{OneTask, TheRunner, AnInterrupt}
use Rattle.machine.specs.State.{task_at, enabled_at}
use Rattle.machine.specs.Running.{runner}
use Rattle.machine.specs.Work.{every_turn}
use Rattle.machine.specs.Sorts.{sort_of}
use Rattle.machine.specs.Refusals.{declared_by}
use Rattle.machine.specs.Activation.{alarm_by, continue_by, resume_by}
use Rattle.machine.specs.Calls.{named_turn, runner_turn, change_of, trigger_in, interrupt_by, work_by}
use Rattle.machine.specs.Continuing.{SameButWait, Accepts, task_after, first_of, CallsMake}
use Rattle.machine.proofs.Passed.{passed}
use Rattle.machine.proofs.Done.{runs}
use Rattle.machine.proofs.Accepted.{same_on, held_on, has_on, hold_on, goes_on_law, called_on, task_ok_law, in_table, table, no_refusal, step_leaves, one_at, every_at}

-- ---- a schedule asked for

-- A continuation that gives p is asked for t, which is u after it; r: by a RESUME.
record Asked (day : ℕ) (k : State) (h : Head) (p : ℕ) (r : Bool) (t u : Task) : Type 0 where
  pends : on_interrupt h.kind ≡ false → (first_of day k h).0 ≢ k.now.0 → Has (set_for (first_of day k h)) p r u × SameHold t u
  due : on_interrupt h.kind ≡ false → (first_of day k h).0 ≡ k.now.0 → HasNone u × GoesOn p t u
  waits : on_interrupt h.kind ≡ true → Has (armed h.interrupt (duration h.first)) p r u × SameHold t u

asked : (day : ℕ) (k : State) (h : Head) (p : ℕ) (r : Bool) (t u : Task)
    → SameButWait (go_on_later_turn k.now (alarm_by day k.clock k.now h) p r t).task u → Asked day k h p r t u
unfolding alarm_of
asked day k h p r t u s =
    record {
      pends = λ e ne. stays (set_for f) (turn e ∙ later.pends n f p r t ne);
      due = λ e q.
          let x = with_continuation (set_for f) p r t in
          let w : SameButWait (continued x) u = subst (λ (y : Turn). SameButWait y.task u) (turn e ∙ later.due n f p r t q) s in
          let g = goes_on_law (continued x) u w (comes_due_law.goes x) in (
            has_on (continued x) u w ((comes_due_law.leaves x).once refl),
            record { goes = g.goes; taken = g.taken; idle = λ z. let i = g.idle z in record { hold = i.hold; current = i.current } },
          );
      waits = λ e. stays (armed h.interrupt (duration h.first)) (rw e (on_interrupt_law.waits n h.interrupt (duration h.first) p r t));
    }
  where
    n : Instant
    n = k.now

    f : Instant
    f = first_of day k h

    turn : on_interrupt h.kind ≡ false → go_on_later_turn n (alarm_by day k.clock n h) p r t ≡ go_on_later_turn n (set_for f) p r t
    turn e = rw e

    stays : (a : Alarm) → go_on_later_turn n (alarm_by day k.clock n h) p r t ≡ unmarked (with_continuation a p r t) → Has a p r u × SameHold t u
    stays a e =
        let x = with_continuation a p r t in
        let w : SameButWait x u = subst (λ (y : Turn). SameButWait y.task u) e s in
        let q = held_on x u w in
        (same_on x u w, record { hold = q.hold; current = q.current })

-- ---- CONTINUE and RESUME

pub sched : (kind : ℕ) → scheduled kind ≡ true → eqb kind 0 ≡ false
sched kind e = ne_eqb kind 0 (λ z. let l = ltb-true 0 kind e in omega arith)

-- The turn of the task that is named.
pub named_turn_law : (day : ℕ) (k : State) (s : List ℕ) (c : Call) → Accepts day k s c → sort_of c.head.mark ≡ OneTask
    → SameButWait (named_turn day k.clock k.now c.head.mark c.head (task_at k.tasks c.head.number)).task (task_after day k s c.head.number)
unfolding work_by change_of declared_by
named_turn_law day k s c h q =
    let i = c.head.number in
    let p = passed day k c (no_refusal day k s c h) in
    let l = ltb-true i k.counts.tasks (both (ltb i k.counts.tasks) _ (rw q at p.formal.known)).0 in
    rw (one_at k i _ (in_table day k h.tested i l)) at (step_leaves day k s c h OneTask q refl i)

-- The turn of the running task.
pub runner_turn_law : (day : ℕ) (k : State) (s : List ℕ) (c : Call) (i : ℕ) → Accepts day k s c → sort_of c.head.mark ≡ TheRunner → runner k ≡ Some i
    → SameButWait (runner_turn day k.clock k.now c.head.mark c.head (task_at k.tasks i)).task (task_after day k s i)
unfolding work_by change_of
runner_turn_law day k s c i h q r =
    rw (r, one_at k i _ (in_table day k h.tested i (runs k i r).0)) at (step_leaves day k s c h TheRunner q refl i)

go_on_turn_law : (day clock : ℕ) (n : Instant) (m : Mark) (h : Head) (t : Task) → m ≡ CO → scheduled h.kind ≡ true
    → named_turn day clock n m h t ≡ go_on_later_turn n (alarm_by day clock n h) h.priority false t
unfolding named_turn continue_by
go_on_turn_law day clock n m h t e s = rw (e, sched h.kind s)

rest_turn_law : (day clock : ℕ) (n : Instant) (m : Mark) (h : Head) (t : Task) → m ≡ RE → scheduled h.kind ≡ true
    → runner_turn day clock n m h t ≡ go_on_later_turn n (alarm_by day clock n h) 0 true (with_hold Suspended t)
unfolding runner_turn resume_by
rest_turn_law day clock n m h t e s = rw (e, sched h.kind s)

pub prevent_turn_law : (day clock : ℕ) (n : Instant) (m : Mark) (h : Head) (t : Task) → m ≡ PR → named_turn day clock n m h t ≡ prevent_turn t
unfolding named_turn
prevent_turn_law day clock n m h t e = rw e

pub trigger_turns : (day : ℕ) (m : Mark) (k : State) (j : ℕ) → m ≡ TG → enabled_at k j ≡ true
    → interrupt_by day m k j ≡ every_turn k k.now (trigger_turn day k.clock k.now j)
unfolding interrupt_by trigger_in
trigger_turns day m k j e on = rw (e, on)

-- Each declared task's turn.
pub trigger_turn_law : (day : ℕ) (k : State) (s : List ℕ) (c : Call) (i : ℕ) → Accepts day k s c → c.head.mark ≡ TG
    → enabled_at k c.head.number ≡ true → i < k.counts.tasks
    → SameButWait (trigger_turn day k.clock k.now c.head.number (task_at k.tasks i)).task (task_after day k s i)
unfolding work_by
trigger_turn_law day k s c i h e on l =
    let j = c.head.number in
    let f = trigger_turn day k.clock k.now j in
    rw (trigger_turns day c.head.mark k j e on, every_at k k.now f (table day k h.tested) i l) at
    (step_leaves day k s c h AnInterrupt (ap sort_of e) refl i)

pub calls_make : CallsMake
calls_make =
    record {
      continue = λ day k s c h e on.
          let t = task_at k.tasks c.head.number in
          let q = go_on_turn_law day k.clock k.now c.head.mark c.head t e on in
          let a = asked day k c.head c.head.priority false t _ (rw q at (named_turn_law day k s c h (ap sort_of e))) in
          record { pends = a.pends; due = a.due; waits = a.waits };
      resume = λ day k s c i h e on r.
          let t = task_at k.tasks i in
          let q = rest_turn_law day k.clock k.now c.head.mark c.head t e on in
          let w = rw q at (runner_turn_law day k s c i h (ap sort_of e) r) in
          let a = asked day k c.head 0 true (with_hold Suspended t) _ w in
          record {
            pends = λ o ne. let x = a.pends o ne in (x.0, x.1.hold);
            due = λ o z. let x = a.due o z in (x.0, x.1.goes);
            waits = λ o. let x = a.waits o in (x.0, x.1.hold);
            current =
                by_bool (on_interrupt c.head.kind) (λ o. (a.waits o).1.current)
                (λ o. by_eq (first_of day k c.head).0 k.now.0 (λ z. (a.due o z).1.taken refl) (λ ne. (a.pends o ne).1.current));
          };
      prevent = λ day k s c h e.
          let t = task_at k.tasks c.head.number in
          let w = rw (prevent_turn_law day k.clock k.now c.head.mark c.head t e) at (named_turn_law day k s c h (ap sort_of e)) in
          let p = prevented t in
          (has_on _ _ w p.0, hold_on _ _ w p.1);
      trigger = λ day k s c i h e on l z.
          called_on _ _ (trigger_turn_law day k s c i h e on l)
          (turned.trigger day k.clock k.now c.head.number (task_at k.tasks i) (task_ok_law day k h.tested i l).rests z);
    }
