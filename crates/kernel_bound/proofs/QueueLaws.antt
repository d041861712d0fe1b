-- Who is ahead: the tasks looked at so far, and what stands beyond the table. Then the bound by its tests.
use Rattle.std.specs.Prelude.{None, Some}
use mathlib.Core.Path.{◌≡◌, refl, sym, ◌∙◌}
use mathlib.Core.Bool.{Bool, true, false, not, ◌&&◌, and-false}
use Prim.Native.Nat.{ℕ, ◌+◌, ◌*◌, ◌≤◌, ◌<◌, min}
use native.Mathlib.Nat.{le_antisymm, min-eq_left, min-eq_right, min-le_left}
use native.Mathlib.Numerals.{add-one}
use native.Mathlib.Omega.{arith}
use lib.Dec.{leb, ltb, eqb}
use lib.ListN.{length, get_or-eq_default}
use borrow.Author.Tests.{lt-ltb, le-ltb, leb-true, leb-false, not-true, not-false}
use Rattle.lock.specs.Locks.{bit, same_kind}
use Rattle.lock.specs.declared.Wait.TheVariants.{Request}
use Rattle.facts.proofs.Bools.{by_bool}
use Rattle.task.specs.State.{no_task}
use Rattle.machine.specs.State.{most_tasks, task_at, place_at}
use Rattle.machine.specs.Sums.{sum_below}
use Rattle.machine.specs.Running.{most_places, urgency}
use Rattle.machine.specs.declared.State.{State}
use Rattle.machine.proofs.Below.{sum_cut}
use Rattle.wait_bound.specs.Queue.{queues, is_ahead, ahead, waited_for, bound_of}

-- A sum whose parts from m on are 0.
sum_clipped : (f : ℕ → ℕ) (m : ℕ) → ((i : ℕ) → m ≤ i → f i ≡ 0) → (n : ℕ) → sum_below (min n m) f ≡ sum_below n f
sum_clipped f m h n =
    by_bool (leb n m) (λ q. rw (min-eq_left (leb-true n m q)))
    (λ q. let l : m ≤ n = omega (arith, leb-false n m q) in rw (min-eq_right l) (sym (sum_cut m n f l (λ i a b. h i a))))

-- ---- who is ahead of j on semaphore s

-- Of the first n tasks.
abbrev pub ahead_below : State → ℕ → ℕ → ℕ → ℕ
ahead_below k s j n = sum_below n (λ i. bit (is_ahead k s j i))

-- No task stands beyond the table.
beyond : (k : State) (i : ℕ) → length k.tasks ≤ i → task_at k.tasks i ≡ no_task
beyond k i h = get_or-eq_default k.tasks no_task h

module _ (k : State) (s j : ℕ) where
  pub ahead_none : 0 ≡ ahead_below k s j 0
  unfolding sum_below
  ahead_none = refl

  -- One more task: b is what the test said.
  module _ (i : ℕ) {u a : ℕ} {b : Bool} (own : u ≡ most_places * (task_at k.tasks j).current + place_at k.places j)
      (said : b ≡ (queues s (task_at k.tasks i) && ltb (most_places * (task_at k.tasks i).current + place_at k.places i) u))
      (so_far : a ≡ ahead_below k s j i) where
    ahead_said : b ≡ is_ahead k s j i
    unfolding urgency
    ahead_said = said ∙ rw own

    pub ahead_more : b ≡ true → a + 1 ≡ ahead_below k s j (i + 1)
    unfolding sum_below
    ahead_more e = rw (add-one i, ← ahead_said, e, so_far)

    pub ahead_passed : b ≡ false → a ≡ ahead_below k s j (i + 1)
    unfolding sum_below
    ahead_passed e = so_far ∙ rw (add-one i, ← ahead_said, e) (omega arith)

  pub ahead_all : {n i a : ℕ} → length k.tasks ≡ most_tasks → n ≡ min k.counts.tasks most_tasks → i ≤ n → n ≤ i → a ≡ ahead_below k s j i → a ≡ ahead k s j
  unfolding ahead
  ahead_all long e below above f =
      f ∙ rw (le_antisymm below above, e) (sum_clipped _ most_tasks (λ i h. rw (beyond k i (omega arith))) k.counts.tasks)

-- ---- the bound of task i

-- n is the number of the tasks that the table has, b what the test of the wait said.
module _ (k : State) (i : ℕ) {n : ℕ} (long : length k.tasks ≡ most_tasks) (few : n ≡ min k.counts.tasks most_tasks) where
  pub not_declared : n ≤ i → None ≡ bound_of k i
  unfolding bound_of
  not_declared h =
      let m = k.counts.tasks in
      by_bool (leb m most_tasks)
      (λ q. let f = min-eq_left (leb-true m most_tasks q) in rw (le-ltb i m (omega arith)))
      (λ q. let l : most_tasks ≤ m = omega (arith, leb-false m most_tasks q) in let f = min-eq_right l in rw (beyond k i (omega arith), and-false (ltb i m)))

  module _ (h : i < n) {b : Bool} (said : b ≡ (same_kind (task_at k.tasks i).wait Request && eqb (task_at k.tasks i).len 1)) where
    declared : ltb i k.counts.tasks ≡ true
    declared = lt-ltb i k.counts.tasks (omega (arith, min-le_left k.counts.tasks most_tasks))

    pub not_for_one : not b ≡ true → None ≡ bound_of k i
    unfolding bound_of
    not_for_one e = rw (declared, ← said, not-true b e)

    pub for_one : {s a : ℕ} → not b ≡ false → s ≡ waited_for k i → a ≡ ahead k s i → Some (record { semaphore = s; number = a + 1 }) ≡ bound_of k i
    unfolding bound_of
    for_one e f g = rw (declared, ← said, not-false b e, g, add-one, f)
