-- What could be granted: what it is good for, and what it looks at.
use mathlib.Core.Path.{◌≡◌, sym, ap, ◌∙◌}
use mathlib.Core.Bool.{true, false, and-true}
use mathlib.Core.List.{List}
use Prim.Native.Nat.{ℕ, ◌+◌, ◌<◌}
use native.Mathlib.Numerals.{add-one}
use lib.Dec.{ltb}
use Rattle.lock.specs.Locks.{waiting, same_kind, is_free, all_free}
use Rattle.lock.specs.declared.Wait.{Wait}
use Rattle.lock.specs.declared.Wait.TheVariants.{Reserve}
use Rattle.lock.specs.declared.Locks.{Locks}
use Rattle.facts.proofs.Bools.{by_bool, contra, both}
use Rattle.lock.proofs.Levels.{same_kind_law}
use Rattle.lists.proofs.EveryLaws.{every_below, every_alike, every_then}
use Rattle.task.specs.State.{wanted}
use Rattle.task.specs.declared.Task.{Task}
use Rattle.machine.specs.Sums.{all_below}
use Rattle.machine.specs.State.{task_at}
use Rattle.machine.specs.Granting.{goes_before, unopposed, available, could_be_granted, servable}
use Rattle.machine.proofs.Below.{all_same}
use Rattle.lists.specs.Lists.{every}

-- ---- a list

module _ (n : ℕ) (ts : List Task) (r : Locks) (q : ℕ) (w : Wait) (l : List ℕ) where
  -- Each number of it is free.
  pub could_free : could_be_granted n ts r q w l ≡ true → all_free w r l ≡ true
  unfolding could_be_granted available
  could_free e = every_then (available n ts r q w) (is_free w r) l (λ x h. (both (is_free w r x) _ h).0) e

  -- Only its own numbers count.
  pub could_alike : (n' : ℕ) (ts' : List Task) (r' : Locks) (m : ℕ) → every (λ x. ltb x m) l ≡ true
      → ((x : ℕ) → x < m → available n ts r q w x ≡ available n' ts' r' q w x) → could_be_granted n ts r q w l ≡ could_be_granted n' ts' r' q w l
  unfolding could_be_granted
  could_alike n' ts' r' m = every_below (available n ts r q w) (available n' ts' r' q w) m l

-- ---- writers who wait

-- The tasks count by whether they go before.
pub unopposed_same : (n : ℕ) (ts ts' : List Task) (q x : ℕ) → ((i : ℕ) → i < n → goes_before q x (task_at ts i) ≡ goes_before q x (task_at ts' i))
    → unopposed n ts q x ≡ unopposed n ts' q x
unfolding unopposed
unopposed_same n ts ts' q x h = all_same n _ _ (λ i l. rw (h i l))

-- Who doesn't wait goes before nobody.
pub idle_before : (q x : ℕ) (t : Task) → waiting t.wait ≡ false → goes_before q x t ≡ false
idle_before q x t e =
    let k : same_kind t.wait Reserve ≡ false = by_bool (same_kind t.wait Reserve) (λ s. contra (ap waiting (same_kind_law t.wait Reserve s)) e) (λ s. s) in
    rw k

-- One more task, that waits for nothing, changes nothing.
pub unopposed_more : (n : ℕ) (ts ts' : List Task) (q x : ℕ) → ((i : ℕ) → i < n → task_at ts' i ≡ task_at ts i) → waiting (task_at ts' n).wait ≡ false
    → unopposed (n + 1) ts' q x ≡ unopposed n ts q x
unfolding unopposed all_below
unopposed_more n ts ts' q x h e =
    rw (add-one, idle_before q x (task_at ts' n) e, and-true) (all_same n _ _ (λ i l. rw (h i l)))

-- ---- tasks that wait alike

-- For nothing, or for the same list at the same priority.
pub record WaitsAlike (t u : Task) : Type 0 where
  pub idle : waiting t.wait ≡ false → waiting u.wait ≡ false
  pub same : waiting t.wait ≡ true → (u.wait ≡ t.wait) × (u.len ≡ t.len) × (u.list ≡ t.list) × (u.current ≡ t.current)

before_alike : (q x : ℕ) (t u : Task) → WaitsAlike t u → goes_before q x t ≡ goes_before q x u
before_alike q x t u h =
    by_bool (waiting t.wait) (λ e. let s = h.same e in rw (s.0, s.1, s.2, s.3))
    (λ e. idle_before q x t e ∙ sym (idle_before q x u (h.idle e)))

-- The same of them could be granted.
pub servable_alike : (n : ℕ) (ts ts' : List Task) (r : Locks) → ((i : ℕ) → i < n → WaitsAlike (task_at ts i) (task_at ts' i))
    → (i : ℕ) → i < n → servable n ts r i ≡ servable n ts' r i
unfolding could_be_granted available
servable_alike n ts ts' r h i l =
    let t = task_at ts i in
    by_bool (waiting t.wait)
    (λ e. let s = (h i l).same e in rw (s.0, s.1, s.2, s.3, e)
    (every_alike (available n ts r t.current t.wait) (available n ts' r t.current t.wait) (wanted t)
    (λ x. rw (unopposed_same n ts ts' t.current x (λ j b. before_alike t.current x (task_at ts j) (task_at ts' j) (h j b))))))
    (λ e. rw (e, (h i l).idle e))
