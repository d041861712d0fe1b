-- Ticks and triggers: a continuation that comes due in them, with a start that may come in the same turn.
use Rattle.std.specs.Prelude.{None, Option, Some}
use mathlib.Core.Path.{◌≡◌, refl, sym, ap, ◌∙◌}
use mathlib.Core.Bool.{Bool, true, false, or-false}
use Prim.Native.Nat.{ℕ}
use Rattle.calendar.specs.declared.Instant.{Instant}
use Rattle.facts.proofs.Bools.{by_bool, contra, both}
use Rattle.schedule.specs.declared.Alarm.{Alarm}
use Rattle.schedule.specs.Alarms.{listening, falls, listens, set_off}
use Rattle.schedule.specs.Schedules.{advance}
use Rattle.task.specs.declared.Hold.TheVariants.{Unheld}
use Rattle.task.specs.declared.Task.{Task}
use Rattle.task.specs.State.{unheld, rest_ok, with_hold, with_schedule}
use Rattle.task.specs.Continuations.{with_next, continued, continue_at}
use Rattle.task.specs.Turns.{due_if, delay_ends, wake, fall_turn, tick_turn, start_turn, trigger_turn}
use Rattle.task.specs.Continuing.{SameContinuation, SameHold, Leaves, Fires, Called, Turned, DelayFirst}
use Rattle.task.proofs.Alike.{like_continue_at, like_wake}
use Rattle.task.proofs.Continuing.{goes, leaves, else, rest_unheld, at_due, at_idle, on_interrupt_law, fall_cases, fall_same, start_cases, start_same, wake_same}

-- ---- a start that comes with it

-- Hold and priority of a living task stay.
pub due_holds : (t u : Task) (a : Bool) (k : Option ℕ) (p : ℕ) → a ≡ true → SameHold t u → SameHold t (due_if a k p u).task
unfolding due_if
due_holds t u false k p a h = contra a refl
due_holds t u true None p a h = record { hold = h.hold; current = h.current }
due_holds t u true (Some q) p a h = record { hold = h.hold; current = h.current }

pub fall_holds : (t u : Task) (n : Instant) → u.alive ≡ true → SameHold t u → SameHold t (fall_turn n u).task
fall_holds t u n a h =
    fall_cases (SameHold t) n u
    (λ p. due_holds t (with_schedule (advance n u.schedule) u) u.alive u.kept p a (record { hold = h.hold; current = h.current })) h

start_holds : (t : Task) (day clock : ℕ) (n : Instant) (i : ℕ) → t.alive ≡ true → SameHold t (start_turn day clock n i t).task
start_holds t day clock n i a =
    start_cases (SameHold t) day clock n i t (λ s. fall_holds t (with_schedule s t) n a (record { hold = refl; current = refl }))
    (record { hold = refl; current = refl })

-- An unheld task stays unheld, started or not.
due_unheld : (a : Bool) (k : Option ℕ) (p : ℕ) (t : Task) → t.hold ≡ Unheld → (due_if a k p t).task.hold ≡ Unheld
unfolding due_if
due_unheld false k p t e = refl
due_unheld true None p t e = e
due_unheld true (Some q) p t e = e

fall_unheld : (n : Instant) (t : Task) → t.hold ≡ Unheld → (fall_turn n t).task.hold ≡ Unheld
fall_unheld n t h =
    fall_cases (λ u. u.hold ≡ Unheld) n t (λ p. due_unheld t.alive t.kept p (with_schedule (advance n t.schedule) t) h) h

start_unheld : (day clock : ℕ) (n : Instant) (i : ℕ) (t : Task) → t.hold ≡ Unheld → (start_turn day clock n i t).task.hold ≡ Unheld
start_unheld day clock n i t h =
    start_cases (λ u. u.hold ≡ Unheld) day clock n i t (λ s. fall_unheld n (with_schedule s t) h) h

-- What a due leaves stays.
pub leaves_on : (t u v : Task) → SameContinuation u v → Leaves t u → Leaves t v
leaves_on t u v h l =
    record {
      again = λ a r. let w = l.again a r in
          record {
            plan = ap (λ (x : Alarm). x.plan) h.alarm ∙ w.plan;
            interrupt = ap (λ (x : Alarm). x.interrupt) h.alarm ∙ w.interrupt;
            delay = ap (λ (x : Alarm). x.delay) h.alarm ∙ w.delay;
            given = h.given ∙ w.given;
            resumed = h.resumed ∙ w.resumed;
          };
      resumed = λ r. let w = l.resumed r in record { alarm = h.alarm ∙ w.alarm; given = h.given ∙ w.given; resumed = h.resumed ∙ w.resumed };
      once = λ a. let w = l.once a in record { alarm = h.alarm ∙ w.alarm; given = h.given ∙ w.given; resumed = h.resumed ∙ w.resumed };
    }

-- The same is left of two continuations that differ only in whether and when they come.
pub record Kin (t w : Task) : Type 0 where
  pub listens : listening t.continuation.plan ≡ listening w.continuation.plan
  pub interrupt : w.continuation.interrupt ≡ t.continuation.interrupt
  pub delay : w.continuation.delay ≡ t.continuation.delay
  pub given : w.given ≡ t.given
  pub resumed : t.resumed ≡ w.resumed

leaves_of : (t w u : Task) → Kin t w → Leaves w u → Leaves t u
leaves_of t w u h l =
    record {
      again = λ a r. let x = l.again (sym h.listens ∙ a) (sym h.resumed ∙ r) in
          record { plan = x.plan; interrupt = x.interrupt ∙ h.interrupt; delay = x.delay ∙ h.delay; given = x.given ∙ h.given; resumed = x.resumed };
      resumed = λ r. l.resumed (sym h.resumed ∙ r);
      once = λ a. l.once (sym h.listens ∙ a);
    }

kin : (t w : Task) → SameContinuation t w → Kin t w
kin t w h =
    record {
      listens = ap (λ (x : Alarm). listening x.plan) (sym h.alarm);
      interrupt = ap (λ (x : Alarm). x.interrupt) h.alarm;
      delay = ap (λ (x : Alarm). x.delay) h.alarm;
      given = h.given;
      resumed = sym h.resumed;
    }

-- ---- ticks and triggers

-- A held task lives.
held_lives : (t : Task) → rest_ok t ≡ true → unheld t.hold ≡ false → t.alive ≡ true
held_lives t r h = by_bool t.alive (λ a. a) (λ a. contra (rest_unheld t r a) h)

asleep : (n : Instant) (t : Task) → delay_ends n t.hold ≡ false → wake n t ≡ t
unfolding wake
asleep n t e = rw e

woken : (n : Instant) (t : Task) → delay_ends n t.hold ≡ true → wake n t ≡ with_hold Unheld t
unfolding wake
woken n t e = rw e

pub delay_first : DelayFirst
delay_first n t a d =
    let u = with_hold Unheld t in
    let c = at_idle n u refl in
    let f = fall_holds u (continue_at n u) n ((like_continue_at n u).alive ∙ a) c in
    rw (woken n t d) (f.hold, f.current)

tick_fires : (n : Instant) (t : Task) → rest_ok t ≡ true → falls n t.continuation ≡ true → Fires n t (tick_turn n t).task
tick_fires n t r e =
    let w = wake n t in
    let s = wake_same n t in
    let c = continued w in
    let due = at_due n w (rw s.alarm e) in
    let stays : t.alive ≡ true → SameHold c (fall_turn n c).task =
    λ a. fall_holds c c n ((else w).alive ∙ (like_wake n t).alive ∙ a) (record { hold = refl; current = refl }) in
    record {
      goes = rw due (fall_unheld n c (goes w).goes);
      taken = λ h d. rw due ((stays (held_lives t r h)).current ∙ rw (asleep n t d) ((goes t).taken h));
      idle = λ a i.
          by_bool (delay_ends n t.hold) (λ d. (delay_first n t a d).1)
          (λ d. rw due ((stays a).current ∙ rw (asleep n t d) ((goes t).idle (rw (d, or-false) at i)).current));
      leaves = rw due (leaves_on t c _ (fall_same n c) (leaves_of t w c (kin t w s) (leaves w)));
    }

-- A WHEN is set off.
called : (n : Instant) (t : Task) → Task
called n t = with_next (set_off n t.continuation) t

called_kin : (n : Instant) (i : ℕ) (t : Task) → listens i t.continuation ≡ true → Kin t (called n t)
unfolding called
called_kin n i t e =
    record { listens = (both (listening t.continuation.plan) _ e).0; interrupt = refl; delay = refl; given = refl; resumed = refl }

trigger_calls : (day clock : ℕ) (n : Instant) (i : ℕ) (t : Task) → rest_ok t ≡ true → listens i t.continuation ≡ true
    → Called n t (trigger_turn day clock n i t).task
unfolding called
trigger_calls day clock n i t r e =
    let w = called n t in
    let c = continued w in
    record {
      pends = λ d. rw (on_interrupt_law.pends n i t e d) (start_same day clock n i w);
      holds = λ d a. rw (on_interrupt_law.pends n i t e d) (let h = start_holds w day clock n i a in record { hold = h.hold; current = h.current });
      goes = λ d. rw (on_interrupt_law.due n i t e d) (start_unheld day clock n i c (goes w).goes);
      taken = λ d h. rw (on_interrupt_law.due n i t e d) ((start_holds c day clock n i ((else w).alive ∙ held_lives t r h)).current ∙ (goes w).taken h);
      idle = λ d a h. rw (on_interrupt_law.due n i t e d) ((start_holds c day clock n i ((else w).alive ∙ a)).current ∙ ((goes w).idle h).current);
      leaves = λ d. rw (on_interrupt_law.due n i t e d) (leaves_on t c _ (start_same day clock n i c) (leaves_of t w c (called_kin n i t e) (leaves w)));
    }

pub turned : Turned
turned = record { tick = tick_fires; trigger = trigger_calls }
