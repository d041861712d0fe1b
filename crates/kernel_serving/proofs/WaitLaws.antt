-- What the waits of a kernel are good for, and that a grant keeps it.
use mathlib.Core.Path.{◌≡◌}
use mathlib.Core.Bool.{true, false, ◌&&◌}
use mathlib.Core.List.{List}
use Prim.Native.Nat.{ℕ, ◌≤◌, ◌<◌}
use lib.Dec.{leb, ltb}
use borrow.Author.Tests.{leb-true}
use Rattle.lists.specs.Lists.{distinct, every}
use Rattle.layout.specs.Fields.{most_numbers}
use Rattle.lock.specs.Locks.{most_locks, waiting}
use Rattle.lock.specs.declared.Locks.{Locks}
use Rattle.facts.proofs.Bools.{by_eq, both, and_both, or_then}
use Rattle.lists.proofs.EveryLaws.{every_more}
use Rattle.task.specs.State.{wanted}
use Rattle.task.specs.declared.Task.{Task}
use Rattle.machine.specs.State.{task_at, count_of}
use Rattle.machine.specs.Granting.{available, could_be_granted, servable}
use Rattle.machine.specs.Serving.{grant_to}
use Rattle.machine.specs.Sums.{all_below}
use Rattle.machine.specs.Test.{between, counts_ok, wait_ok}
use Rattle.machine.specs.declared.Counts.{Counts}
use Rattle.machine.specs.declared.State.{State}
use Rattle.machine.proofs.Below.{all_at, all_from}
use Rattle.machine.proofs.Passed.{counts_fit, count_fits}
use Rattle.machine.proofs.Serving.{grant_at, grant_other}
use Rattle.kernel_test.specs.Looks.{waits_ok}
use Rattle.kernel_serving.specs.Served.{served, with_served}

-- The list of a task that waits.
pub record Listed (t : Task) : Type 0 where
  pub short : t.len ≤ most_numbers
  pub once : distinct (wanted t) ≡ true
  pub below : every (λ x. ltb x most_locks) (wanted t) ≡ true

list_fits : (n : Counts) → counts_ok n ≡ true → (t : Task) → wait_ok n t ≡ true → waiting t.wait ≡ true → Listed t
list_fits n f t e w =
    let a = both (between 1 most_numbers t.len && distinct (wanted t)) _ (or_then (waiting t.wait) _ e w) in
    let b = both (between 1 most_numbers t.len) (distinct (wanted t)) a.0 in
    record {
      short = leb-true _ _ (both (leb 1 t.len) _ b.0).1;
      once = b.1;
      below = every_more (count_of n t.wait) most_locks (wanted t) (count_fits n (counts_fit n f) t.wait) a.1;
    }

module _ (k : State) (h : waits_ok k ≡ true) where
  unfold_waits : (counts_ok k.counts ≡ true) × (all_below k.counts.tasks (λ i. wait_ok k.counts (task_at k.tasks i)) ≡ true)
  unfolding waits_ok
  unfold_waits = both _ _ h

  pub listed : (i : ℕ) → i < k.counts.tasks → waiting (task_at k.tasks i).wait ≡ true → Listed (task_at k.tasks i)
  listed i l = list_fits k.counts unfold_waits.0 (task_at k.tasks i) (all_at k.counts.tasks _ unfold_waits.1 i l)

  -- The granted task waits for nothing, and the others are as they were.
  pub waits_kept : (j : ℕ) → servable k.counts.tasks k.tasks k.locks j ≡ true → waits_ok (with_served (grant_to j (served k 0)) k) ≡ true
  unfolding waits_ok
  waits_kept j e =
      and_both unfold_waits.0
      (all_from k.counts.tasks _
      (λ i l. by_eq i j (λ q. rw (q, grant_at k.counts.tasks (served k 0) j e)) (λ q. rw (grant_other (served k 0) j i q) (all_at k.counts.tasks _ unfold_waits.1 i l))))

-- ---- who could be granted

module _ (n : ℕ) (ts : List Task) (r : Locks) (i : ℕ) where
  pub servable_idle : waiting (task_at ts i).wait ≡ false → servable n ts r i ≡ false
  servable_idle e = rw e

  pub servable_waits : waiting (task_at ts i).wait ≡ true
      → servable n ts r i ≡ could_be_granted n ts r (task_at ts i).current (task_at ts i).wait (wanted (task_at ts i))
  servable_waits e = rw e
