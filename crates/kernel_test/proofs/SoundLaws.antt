-- What the kernel test says of the tasks, the waits and the instant.
use mathlib.Core.Path.{◌≡◌, refl}
use mathlib.Core.Bool.{true}
use mathlib.Core.List.{List, [], ◌∷◌}
use Prim.Native.Nat.{ℕ, zero, suc, ◌≤◌, ◌<◌}
use lib.ListN.{set}
use lib.Seq.{get_or-set_other}
use borrow.Author.Tests.{leb-true}
use Rattle.calendar.specs.Limits.{last_instant}
use Rattle.lock.specs.Locks.{waiting}
use Rattle.lock.specs.declared.Locks.{Locks}
use Rattle.facts.proofs.Bools.{by_eq, both, and_both, or_then, then_or}
use Rattle.task.specs.State.{no_task}
use Rattle.task.specs.declared.Task.{Task}
use Rattle.task.proofs.Waits.{NoNewWait}
use Rattle.machine.specs.State.{most_tasks, task_at, with_state}
use Rattle.machine.specs.Sums.{all_below}
use Rattle.machine.specs.Test.{wait_ok, task_ok, counts_ok, valid}
use Rattle.machine.specs.declared.Counts.{Counts}
use Rattle.machine.specs.declared.State.{State}
use Rattle.machine.proofs.Below.{all_at, all_from}
use Rattle.kernel_test.specs.Looks.{waits_ok}
use Rattle.machine.proofs.Passed.{counts_fit, parts}
use Rattle.kernel_test.proofs.TestLaws.{wait_of}

-- A task that begins no wait passes the test of waits as it did.
pub wait_stays : (n : Counts) (t u : Task) → NoNewWait t u → wait_ok n t ≡ true → wait_ok n u ≡ true
wait_stays n t u h e =
    then_or (waiting u.wait) _
    (λ w. let s = h w in rw (s.0, s.1, s.2) (or_then (waiting t.wait) _ e (rw s.0 at w)))

placed : (n : Counts) (l : List Task) (i : ℕ) (t : Task) → wait_ok n t ≡ true → wait_ok n (task_at (set l i t) i) ≡ true
placed n [] i t e = refl
placed n (x ∷ l) zero t e = e
placed n (x ∷ l) (suc i) t e = placed n l i t e

module _ (k : State) (e : waits_ok k ≡ true) where
  in_range : (counts_ok k.counts ≡ true) × (all_below k.counts.tasks (λ i. wait_ok k.counts (task_at k.tasks i)) ≡ true)
  unfolding waits_ok
  in_range = both (counts_ok k.counts) _ e

  pub places_fit : k.counts.tasks ≤ most_tasks
  places_fit = (counts_fit k.counts in_range.0).tasks

  pub wait_at : (i : ℕ) → i < k.counts.tasks → wait_ok k.counts (task_at k.tasks i) ≡ true
  wait_at = all_at k.counts.tasks (λ i. wait_ok k.counts (task_at k.tasks i)) in_range.1

  -- With a task whose wait passes the test, whatever the locks are.
  pub waits_changed : (i : ℕ) (t : Task) (l : Locks) → wait_ok k.counts t ≡ true → waits_ok (with_state (set k.tasks i t) l k.enabled k) ≡ true
  unfolding waits_ok
  waits_changed i t l h =
      and_both in_range.0
      (all_from k.counts.tasks _
      (λ j b. by_eq j i (λ q. rw q (placed k.counts k.tasks i t h)) (λ q. rw (get_or-set_other k.tasks i j t no_task q) (wait_at j b))))

-- A kernel that passes the test.
pub record Sound (day : ℕ) (k : State) : Type 0 where
  pub now : k.now.0 ≤ last_instant
  pub counts : counts_ok k.counts ≡ true
  pub tasks : all_below k.counts.tasks (λ i. task_ok day k.counts (task_at k.tasks i)) ≡ true
  pub waits : waits_ok k ≡ true

pub sound : (day : ℕ) (k : State) → valid day k ≡ true → Sound day k
unfolding waits_ok
sound day k e =
    let n = k.counts in
    let p = parts day k e in
    record {
      now = leb-true _ _ p.now;
      counts = p.counts;
      tasks = p.tasks;
      waits =
          and_both p.counts
          (all_from n.tasks _ (λ i l. wait_of day n (task_at k.tasks i) (all_at n.tasks _ p.tasks i l)));
    }
