-- One task in the kernel test: by its priorities, schedule and continuation, by a start kept back, and by whether it is at ease.
use Rattle.std.specs.Prelude.{is_some, None, Option, Some}
use mathlib.Core.Path.{◌≡◌, refl}
use mathlib.Core.Bool.{Bool, true, false, not, ◌&&◌, ◌||◌, and-true, and-false, and_assoc, and_comm, or-true, or-false}
use mathlib.Core.List.{List}
use Prim.Native.Nat.{ℕ, ◌≤◌}
use borrow.Author.Tests.{le-leb}
use Rattle.lock.specs.Locks.{waiting}
use Rattle.lock.specs.declared.Locks.{Locks}
use Rattle.lock.specs.declared.Wait.{Wait}
use Rattle.lock.specs.declared.Wait.TheVariants.{Nothing, Request, Reserve, Enter}
use Rattle.facts.proofs.Bools.{contra, neither}
use Rattle.task.specs.State.{unheld, runnable, wanted}
use Rattle.schedule.specs.Alarms.{pending, planned}
use Rattle.schedule.specs.Coming.{next_of}
use Rattle.task.specs.Coming.{delay_end}
use Rattle.schedule.specs.declared.Alarm.{Alarm}
use Rattle.task.specs.declared.Hold.{Hold}
use Rattle.task.specs.declared.Hold.TheVariants.{Unheld, Suspended, Delayed}
use Rattle.schedule.specs.declared.Schedule.{Schedule}
use Rattle.task.specs.declared.Task.{Task}
use Rattle.machine.specs.Granting.{could_be_granted}
use Rattle.machine.specs.Test.{most_priority, is_priority, kept_ok, hold_ok, alarm_ok, schedule_ok, continuation_ok, task_ok}
use Rattle.machine.specs.declared.Counts.{Counts}
use Rattle.kernel_test.specs.Looks.{at_ease, wait_settled, busy_ok}

-- It passes its test and doesn't wait on a list that could be granted.
unfoldable pub fit : ℕ → Counts → List Task → Locks → Task → Bool
fit day n ts r t = task_ok day n t && not (waiting t.wait && could_be_granted n.tasks ts r t.current t.wait (wanted t))

-- ---- no schedule, no continuation

pub plan_none : (day ni : ℕ) (s : Schedule) → planned s.alarm.plan ≡ false → schedule_ok day ni s ≡ true
unfolding schedule_ok
plan_none day ni s e = rw e

pub continuation_none : (ni : ℕ) (a : Alarm) (p : ℕ) → planned a.plan ≡ false → continuation_ok ni a p ≡ true
unfolding continuation_ok
continuation_none ni a p e = rw e

-- One that there is, with a byte for its priority.
pub continuation_some : (ni : ℕ) (a : Alarm) (p : ℕ) → planned a.plan ≡ true → p ≤ most_priority → alarm_ok ni a ≡ continuation_ok ni a p
unfolding continuation_ok
continuation_some ni a p e l = rw (e, le-leb p most_priority l, and-true)

pub no_start : (a : Alarm) → planned a.plan ≡ false → next_of a ≡ None
no_start a e = rw (neither (pending a.plan) _ e).0

-- ---- a start kept back: there is none, or its task lives and it has a priority

pub record Starts (alive : Bool) (k : Option ℕ) : Type 0 where
  pub kept : kept_ok k ≡ true
  pub lives : (alive || not (is_some k)) ≡ true

pub start_none : (a : Bool) (k : Option ℕ) → is_some k ≡ false → Starts a k
start_none a (Some p) e = contra refl e
start_none a None e = record { kept = refl; lives = or-true a }

pub start_kept : (a : Bool) (k : Option ℕ) → (a && kept_ok k) ≡ true → Starts a k
start_kept false k e = contra e refl
start_kept true k e = record { kept = e; lives = refl }

-- ---- at ease

pub record Eased (w : Wait) (h : Hold) : Type 0 where
  pub waits : waiting w ≡ false
  pub hold : hold_ok h ≡ true
  pub free : unheld h ≡ true
  pub ends : delay_end h ≡ None

pub eased : (w : Wait) (h : Hold) → at_ease w h ≡ true → Eased w h
eased Request h e = contra e refl
eased Reserve h e = contra e refl
eased Enter h e = contra e refl
eased Nothing Suspended e = contra e refl
eased Nothing (Delayed n) e = contra e refl
eased Nothing Unheld e = record { waits = refl; hold = refl; free = refl; ends = refl }

-- It can run if it lives.
pub eased_runs : (t : Task) → at_ease t.wait t.hold ≡ true → t.alive ≡ runnable t
eased_runs t e = let q = eased t.wait t.hold e in rw (q.free, q.waits, and-true, and-true)

-- One that isn't at ease can't run.
pub busy_rests : (t : Task) → at_ease t.wait t.hold ≡ false → runnable t ≡ false
busy_rests t e = rw (and_assoc t.alive, and_comm (unheld t.hold), e, and-false)

-- ---- one task

module _ (day : ℕ) (n : Counts) (ts : List Task) (r : Locks) (t : Task) where
  pub odd_priority : (is_priority t.declared && is_priority t.current) ≡ false → fit day n ts r t ≡ false
  unfolding fit task_ok
  odd_priority e = rw e

  pub odd_schedule : schedule_ok day n.interrupts t.schedule ≡ false → fit day n ts r t ≡ false
  unfolding fit task_ok
  odd_schedule e = rw (e, and-false)

  pub odd_continuation : continuation_ok n.interrupts t.continuation t.given ≡ false → fit day n ts r t ≡ false
  unfolding fit task_ok
  odd_continuation e = rw (e, and-false)

  pub odd_kept : is_some t.kept ≡ true → (t.alive && kept_ok t.kept) ≡ false → fit day n ts r t ≡ false
  unfolding fit task_ok
  odd_kept k e = rw (k, or-false) (go (is_priority t.declared && is_priority t.current) (kept_ok t.kept) (hold_ok t.hold) t.alive _ _ _ _ e)
    where
      go : (p k h a w s c g : Bool) → (a && k) ≡ false → (p && k && h && a && w && s && c && g) ≡ false
      go p k h false w s c g e = rw and-false
      go p k h true w s c g e = rw (e, and-false)

  pub odd_busy : at_ease t.wait t.hold ≡ false → busy_ok n ts r t ≡ false → fit day n ts r t ≡ false
  unfolding fit task_ok busy_ok wait_settled
  odd_busy e = rw (and_assoc (not (is_some t.kept)), e, and-false, or-false) (go (is_priority t.declared && is_priority t.current && kept_ok t.kept) (hold_ok t.hold) t.alive _ _ _ _)
    where
      go : (p h a w s c g : Bool) → (a && h && (w && g)) ≡ false → (p && h && a && w && s && c && g) ≡ false
      go false h a w s c g e = refl
      go true false a w s c g e = refl
      go true true false w s c g e = refl
      go true true true false s c g e = refl
      go true true true true false c g e = refl
      go true true true true true false g e = refl
      go true true true true true true g e = e

  module _
      (priorities : (is_priority t.declared && is_priority t.current) ≡ true)
      (schedule : schedule_ok day n.interrupts t.schedule ≡ true)
      (continuation : continuation_ok n.interrupts t.continuation t.given ≡ true)
      (start : Starts t.alive t.kept) where
    pub fit_eased : at_ease t.wait t.hold ≡ true → fit day n ts r t ≡ true
    unfolding fit task_ok
    fit_eased e =
        let q = eased t.wait t.hold e in
        rw (priorities, start.kept, q.hold, and_assoc (not (is_some t.kept)), e, and-true, start.lives, q.waits, schedule, continuation)

    pub fit_busy : busy_ok n ts r t ≡ true → fit day n ts r t ≡ true
    unfolding fit task_ok busy_ok wait_settled
    fit_busy = rw (priorities, schedule, continuation, start.kept) (go (hold_ok t.hold) t.alive _ _ _)
      where
        go : (h a e w g : Bool) → (a && h && (w && g)) ≡ true → (h && (a || e) && w && true && true && g) ≡ true
        go h false e w g x = contra x refl
        go false true e w g x = contra x refl
        go true true e false g x = contra x refl
        go true true e true g x = x
