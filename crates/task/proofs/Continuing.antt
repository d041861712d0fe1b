-- What a continuation does to its task when it comes due, when it first comes due, and what leaves it alone.
use Rattle.std.specs.Prelude.{is_some, None, Option, Some}
use mathlib.Core.Path.{◌≡◌, refl, ◌∙◌}
use mathlib.Core.Bool.{Bool, true, false, and-false}
use Prim.Native.Nat.{ℕ, ◌+◌}
use native.Mathlib.Omega.{arith}
use borrow.Author.Tests.{eq-eqb, ne_eqb}
use Rattle.calendar.specs.declared.Instant.{Instant}
use Rattle.lock.specs.Locks.{waiting}
use Rattle.facts.proofs.Bools.{by_bool, contra}
use Rattle.schedule.specs.declared.Alarm.{Alarm}
use Rattle.schedule.specs.declared.Schedule.{Schedule}
use Rattle.schedule.specs.Alarms.{falls, listens}
use Rattle.schedule.specs.Schedules.{advance}
use Rattle.task.specs.declared.Hold.{Hold}
use Rattle.task.specs.declared.Hold.TheVariants.{Unheld, Suspended, Delayed}
use Rattle.task.specs.declared.Task.{Task}
use Rattle.task.specs.State.{unheld, rest_ok, with_current, with_hold, with_schedule, with_continuation}
use Rattle.task.specs.Continuations.{goes_on, dropped, spent, continued, continue_at, called_by}
use Rattle.task.specs.Turns.{due_if, due_turn, end_if, prevent_turn, suspend_turn, go_on_turn, delay_turn, delay_ends, wake, fall_turn, tick_turn, start_turn}
use Rattle.task.proofs.Dues.{continued_cases, spent_any}
use Rattle.task.proofs.Fairness.{rest_facts}
use Rattle.task.specs.Continuing.{HasNone, SameContinuation, SameHold, GoesOn, Leaves, SameElse, ComesDue, Later, OnInterrupt, Prevented, LeftAlone}

-- An unheld task's hold is none.
pub unheld_is : (h : Hold) → unheld h ≡ true → h ≡ Unheld
unheld_is Unheld e = refl
unheld_is Suspended e = contra e refl
unheld_is (Delayed n) e = contra e refl

-- A task has its own continuation.
pub has : (t : Task) → SameContinuation t t
has t = record { alarm = refl; given = refl; resumed = refl }

pub same_then : (t u v : Task) → SameContinuation t u → SameContinuation u v → SameContinuation t v
same_then t u v h k = record { alarm = k.alarm ∙ h.alarm; given = k.given ∙ h.given; resumed = k.resumed ∙ h.resumed }

-- ---- a due

pub goes : (t : Task) → GoesOn t.given t (continued t)
goes t =
    continued_cases (GoesOn t.given t) t
    (λ e. spent_any (GoesOn t.given t) t (λ a p r.
    record { goes = unheld_is t.hold e; taken = λ z. contra e z; idle = λ z. record { hold = refl; current = refl } }))
    (λ e. spent_any (GoesOn t.given t) (goes_on t.given t) (λ a p r.
    record { goes = refl; taken = λ z. refl; idle = λ z. contra z e }))

same : (t : Task) (h : Hold) (q : ℕ) (a : Alarm) (p : ℕ) (r : Bool) → SameElse t (with_continuation a p r (with_hold h (with_current q t)))
same t h q a p r = record { declared = refl; alive = refl; kept = refl; wait = refl; len = refl; list = refl; schedule = refl }

pub else : (t : Task) → SameElse t (continued t)
else t =
    continued_cases (SameElse t) t (λ e. spent_any (SameElse t) t (λ a p r. same t t.hold t.current a p r))
    (λ e. spent_any (SameElse t) (goes_on t.given t) (λ a p r. same t Unheld _ a p r))

-- The continuation of u is that of t.
leaves_spent : (t u : Task) → SameContinuation t u → Leaves t (spent u)
unfolding spent
leaves_spent t u h =
    record {
      again = λ l r.
          rw (h.alarm, h.resumed, l, r)
          (record { plan = refl; interrupt = refl; delay = refl; given = h.given; resumed = refl });
      resumed = λ r. rw (h.resumed, r, and-false) none;
      once = λ l. rw (h.alarm, l) none;
    }
  where
    none : HasNone (dropped u)
    none = record { alarm = refl; given = refl; resumed = refl }

pub leaves : (t : Task) → Leaves t (continued t)
leaves t = continued_cases (Leaves t) t (λ e. leaves_spent t t (has t)) (λ e. leaves_spent t (goes_on t.given t) (has _))

pub rest_unheld : (t : Task) → rest_ok t ≡ true → t.alive ≡ false → unheld t.hold ≡ true
rest_unheld t r a = (rest_facts t.alive (is_some t.kept) (waiting t.wait) (unheld t.hold) r a).2

pub comes_due_law : ComesDue
comes_due_law =
    record {
      goes = goes;
      leaves = leaves;
      else = else;
      terminated = λ t r a. ((else t).alive ∙ a, (goes t).goes, ((goes t).idle (rest_unheld t r a)).current);
    }

-- ---- first dues

pub at_other : (n : Instant) (t : Task) → falls n t.continuation ≡ false → continue_at n t ≡ t
unfolding continue_at
at_other n t e = rw e

pub at_due : (n : Instant) (t : Task) → falls n t.continuation ≡ true → continue_at n t ≡ continued t
unfolding continue_at
at_due n t e = rw e

-- One that finds its task unheld changes neither hold nor priority.
pub at_idle : (n : Instant) (t : Task) → unheld t.hold ≡ true → SameHold t (continue_at n t)
at_idle n t h =
    by_bool (falls n t.continuation) (λ e. rw (at_due n t e) ((goes t).idle h))
    (λ e. rw (at_other n t e) (record { hold = refl; current = refl }))

pub later : Later
unfolding continue_at
later =
    record {
      pends = λ n f p r t e. rw (ne_eqb f.0 n.0 e);
      next = λ f. refl;
      due = λ n f p r t e. rw (eq-eqb f.0 n.0 e);
    }

pub on_interrupt_law : OnInterrupt
unfolding called_by continue_at
on_interrupt_law =
    record {
      waits = λ n i d p r t. refl;
      none = λ i d. refl;
      other = λ n i t e. rw e;
      pends = λ n i t e d. rw (e, ne_eqb (n.0 + t.continuation.delay.0) n.0 (λ z. d (omega arith)));
      next = λ n a. refl;
      due = λ n i t e d. rw (e, eq-eqb (n.0 + t.continuation.delay.0) n.0 (omega arith));
      anew = λ n x y i p q a t e f. rw (e, f);
    }

-- ---- what leaves it alone

due_same : (a : Bool) (k : Option ℕ) (p : ℕ) (t : Task) → SameContinuation t (due_if a k p t).task
unfolding due_if
due_same false k p t = has (due_if false k p t).task
due_same true None p t = has (due_if true None p t).task
due_same true (Some q) p t = has (due_if true (Some q) p t).task

end_same : (k : Option ℕ) (t : Task) → SameContinuation t (end_if k t).task
unfolding end_if
end_same None t = has (end_if None t).task
end_same (Some p) t = has (end_if (Some p) t).task

-- What falls on n is a due of the task with its schedule advanced, of some priority.
pub fall_cases : (P : Task → Type 0) (n : Instant) (t : Task)
    → ((p : ℕ) → P (due_turn p (with_schedule (advance n t.schedule) t)).task) → P t → P (fall_turn n t).task
unfolding fall_turn
fall_cases P n t due quiet = by_bool (falls n t.schedule.alarm) (λ e. rw e (due _)) (λ e. rw e quiet)

pub fall_same : (n : Instant) (t : Task) → SameContinuation t (fall_turn n t).task
fall_same n t = fall_cases (SameContinuation t) n t (λ p. due_same t.alive t.kept p (with_schedule (advance n t.schedule) t)) (has t)

-- What a trigger sets off is a fall of the task with another schedule.
pub start_cases : (P : Task → Type 0) (day clock : ℕ) (n : Instant) (i : ℕ) (t : Task)
    → ((s : Schedule) → P (fall_turn n (with_schedule s t)).task) → P t → P (start_turn day clock n i t).task
unfolding start_turn
start_cases P day clock n i t fall quiet = by_bool (listens i t.schedule.alarm) (λ e. rw e (fall _)) (λ e. rw e quiet)

pub start_same : (day clock : ℕ) (n : Instant) (i : ℕ) (t : Task) → SameContinuation t (start_turn day clock n i t).task
start_same day clock n i t = start_cases (SameContinuation t) day clock n i t (λ s. fall_same n (with_schedule s t)) (has t)

pub wake_same : (n : Instant) (t : Task) → SameContinuation t (wake n t)
unfolding wake
wake_same n t = by_bool (delay_ends n t.hold) (λ e. rw e (has (with_hold Unheld t))) (λ e. rw e (has t))

tick_same : (n : Instant) (t : Task) → falls n t.continuation ≡ false → SameContinuation t (tick_turn n t).task
tick_same n t e =
    let w = wake_same n t in
    rw (at_other n (wake n t) (rw w.alarm e)) (same_then t (wake n t) _ w (fall_same n (wake n t)))

pub left_alone : LeftAlone
left_alone =
    record {
      due = λ p t. due_same t.alive t.kept p t;
      schedule = λ n s t. fall_same n (with_schedule s t);
      end = λ t. end_same t.kept t;
      suspend = λ t. unfold suspend_turn in has (suspend_turn t).task;
      continue = λ p t. unfold go_on_turn in has (go_on_turn p t).task;
      resume = λ n t. unfold delay_turn in has (delay_turn n t).task;
      tick = tick_same;
      trigger = λ day clock n i t e. rw (on_interrupt_law.other n i t e) (start_same day clock n i t);
    }

pub prevented : Prevented
unfolding prevent_turn
prevented t = (has (prevent_turn t).task, record { hold = refl; current = refl })
