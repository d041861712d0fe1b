-- What serving leaves of a task, what an accepted call is, and what its work leaves of each declared task.
use mathlib.Core.Path.{◌≡◌, refl, sym, ap, ◌∙◌}
use mathlib.Core.Bool.{Bool, true, false}
use mathlib.Core.List.{List}
use Prim.Native.Nat.{ℕ, zero, suc, ◌≤◌, ◌<◌}
use native.Mathlib.Omega.{arith}
use lib.Dec.{leb, ltb}
use lib.ListN.{length, get_or-eq_default}
use lib.Seq.{get_or-set_same}
use borrow.Author.Tests.{ltb-true, ltb-false, leb-true, leb-false}
use Rattle.calendar.specs.declared.Instant.{Instant}
use Rattle.layout.specs.declared.Call.{Call}
use Rattle.facts.proofs.Bools.{by_bool, by_eq, contra}
use Rattle.lock.specs.declared.Wait.TheVariants.{Nothing}
use Rattle.schedule.specs.declared.Alarm.{Alarm}
use Rattle.task.specs.State.{no_task, wait_over}
use Rattle.task.specs.declared.Task.{Task}
use Rattle.task.specs.declared.Turn.{Turn}
use Rattle.task.specs.Continuing.{Has, SameContinuation, SameHold, GoesOn, Called, Fires}
use Rattle.task.proofs.Firing.{leaves_on}
use Rattle.machine.specs.declared.Change.{Change}
use Rattle.machine.specs.declared.State.{State}
use Rattle.machine.specs.declared.Sort.{Sort}
use Rattle.machine.specs.declared.Stepped.{Stepped}
use Rattle.machine.specs.State.{task_at}
use Rattle.machine.specs.Work.{Work, changed, every_turn}
use Rattle.machine.specs.Test.{valid, kernel_refusal}
use Rattle.machine.specs.Sorts.{sort_of, declaring, declares}
use Rattle.machine.specs.Calls.{work_by}
use Rattle.machine.specs.Step.{answered, finish, or_refuse, or_turn_away, carry_out, step}
use Rattle.machine.specs.Continuing.{SameButWait, ServingKeeps, Accepts, task_after}
use Rattle.machine.proofs.Below.{all_at}
use Rattle.machine.proofs.Passed.{parts, refusal_of}
use Rattle.machine.proofs.Facts.{TaskOk, task_untest}
use Rattle.machine.proofs.Cases.{carried_by, step_on}
use Rattle.machine.proofs.Works.{turn_at}
use Rattle.machine.proofs.Serving.{grant_at, grant_other, serve_keeps}

-- ---- serving

same_refl : (t : Task) → SameButWait t t
same_refl t = (t.wait, refl)

-- One more grant.
same_grant : (t u : Task) → SameButWait t u → SameButWait t (wait_over u)
same_grant t u h = (Nothing, ap wait_over h.1)

pub serving_keeps : ServingKeeps
serving_keeps n ps turns p i =
    serve_keeps n ps (λ q. SameButWait (task_at p.tasks i) (task_at q.tasks i))
    (λ q j l e h. by_eq i j (λ z. rw (z, grant_at n q j e) (same_grant (task_at p.tasks j) (task_at q.tasks j) (rw z at h))) (λ z. rw (grant_other q j i z) h))
    turns p (same_refl (task_at p.tasks i))

-- So all but the waits is the work's.
pub finish_keeps : (k : State) (w : Work) (i : ℕ) → SameButWait (task_at w.tasks i) (task_at (finish k w).state.tasks i)
unfolding finish
finish_keeps k w i = serving_keeps k.counts.tasks k.places k.counts.tasks _ i

module _ (u v : Task) (h : SameButWait u v) where
  pub same_on : SameContinuation u v
  same_on =
      record {
        alarm = ap (λ (t : Task). t.continuation) h.1;
        given = ap (λ (t : Task). t.given) h.1;
        resumed = ap (λ (t : Task). t.resumed) h.1;
      }

  pub held_on : SameHold u v
  held_on = record { hold = ap (λ (t : Task). t.hold) h.1; current = ap (λ (t : Task). t.current) h.1 }

  pub has_on : {a : Alarm} {p : ℕ} {r : Bool} → Has a p r u → Has a p r v
  has_on x = record { alarm = same_on.alarm ∙ x.alarm; given = same_on.given ∙ x.given; resumed = same_on.resumed ∙ x.resumed }

  pub hold_on : {t : Task} → SameHold t u → SameHold t v
  hold_on x = record { hold = held_on.hold ∙ x.hold; current = held_on.current ∙ x.current }

  pub goes_on_law : {p : ℕ} {t : Task} → GoesOn p t u → GoesOn p t v
  goes_on_law x = record { goes = held_on.hold ∙ x.goes; taken = λ e. held_on.current ∙ x.taken e; idle = λ e. hold_on (x.idle e) }

  pub fires_on : {n : Instant} {t : Task} → Fires n t u → Fires n t v
  fires_on x = record { goes = held_on.hold ∙ x.goes; taken = λ e d. held_on.current ∙ x.taken e d; idle = λ a e. held_on.current ∙ x.idle a e; leaves = leaves_on _ u v same_on x.leaves }

  pub called_on : {n : Instant} {t : Task} → Called n t u → Called n t v
  called_on x =
      record {
        pends = λ d. has_on (x.pends d);
        holds = λ d a. hold_on (x.holds d a);
        goes = λ d. held_on.hold ∙ x.goes d;
        taken = λ d e. held_on.current ∙ x.taken d e;
        idle = λ d a e. held_on.current ∙ x.idle d a e;
        leaves = λ d. leaves_on _ u v same_on (x.leaves d);
      }

-- ---- declared tasks

module _ (day : ℕ) (k : State) (v : valid day k ≡ true) where
  pub task_ok_law : (i : ℕ) → i < k.counts.tasks → TaskOk day k.counts (task_at k.tasks i)
  task_ok_law i l = task_untest day k.counts (task_at k.tasks i) (all_at k.counts.tasks _ (parts day k v).tasks i l)

  -- Each stands in the table: what isn't there has no priority.
  pub in_table : (i : ℕ) → i < k.counts.tasks → i < length k.tasks
  in_table i l =
      by_bool (ltb i (length k.tasks)) (λ q. ltb-true i (length k.tasks) q)
      (λ q. contra (task_ok_law i l).declared_ok (rw (get_or-eq_default k.tasks no_task (ltb-false i (length k.tasks) q))))

  pub table : k.counts.tasks ≤ length k.tasks
  table =
      by_bool (leb k.counts.tasks (length k.tasks)) (λ q. leb-true _ _ q)
      (λ q. absurd (let h = in_table (length k.tasks) (leb-false _ _ q) in omega arith))

-- ---- accepted calls

-- What has number 0 isn't turned away.
not_away : (k : State) (n : ℕ) (z : Stepped) → (or_turn_away k n z).answer.number ≡ 0 → n ≡ 0
unfolding answered
not_away k zero z e = refl
not_away k (suc n) z e = e

module _ (day : ℕ) (k : State) (s : List ℕ) (c : Call) (h : Accepts day k s c) where
  pub accepts_taken : kernel_refusal day k ≡ 0
  unfolding step
  accepts_taken = not_away k (kernel_refusal day k) _ h.number

  step_by : step day k s ≡ or_refuse k (refusal_of day k c) (carry_out day k c)
  step_by = step_on day k s accepts_taken ∙ rw h.opens (carried_by day k c)

  pub no_refusal : refusal_of day k c ≡ 0
  unfolding answered
  no_refusal = go (refusal_of day k c) (ap (λ x. x.answer.number) (sym step_by) ∙ h.number)
    where
      go : (n : ℕ) → (or_refuse k n (carry_out day k c)).answer.number ≡ 0 → n ≡ 0
      go zero e = refl
      go (suc n) e = e

  pub step_out : step day k s ≡ carry_out day k c
  step_out = step_by ∙ rw no_refusal

  -- A call's work is served.
  pub step_work : (x : Sort) → sort_of c.head.mark ≡ x → declaring x ≡ false → step day k s ≡ finish k (work_by day x k c)
  unfolding carry_out declares
  step_work x q e = step_out ∙ rw (q, e)

  -- What it leaves of task i.
  pub step_leaves : (x : Sort) → sort_of c.head.mark ≡ x → declaring x ≡ false → (i : ℕ)
      → SameButWait (task_at (work_by day x k c).tasks i) (task_after day k s i)
  step_leaves x q e i = rw (step_work x q e) (finish_keeps k (work_by day x k c) i)

-- ---- what a work leaves of a task

pub one_at : (k : State) (i : ℕ) (c : Change) → i < length k.tasks → task_at (changed k i c).tasks i ≡ c.task
unfolding changed
one_at k i c l = get_or-set_same k.tasks i c.task no_task l

pub every_at : (k : State) (n : Instant) (f : Task → Turn) → k.counts.tasks ≤ length k.tasks → (i : ℕ) → i < k.counts.tasks
    → task_at (every_turn k n f).tasks i ≡ (f (task_at k.tasks i)).task
unfolding every_turn
every_at k n f room i l = turn_at k.counts.tasks f k.tasks room i l
