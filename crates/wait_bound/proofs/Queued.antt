-- A task that waits in a REQUEST of one semaphore, of a kernel that passes the test.
use mathlib.Core.Path.{◌≡◌, refl}
use mathlib.Core.Bool.{true, ◌&&◌}
use mathlib.Core.List.{List, [], ◌∷◌}
use Prim.Native.Nat.{ℕ, ◌<◌}
use native.Mathlib.Omega.{arith}
use lib.Dec.{ltb, eqb}
use lib.ListN.{get_or, take}
use borrow.Author.Tests.{ltb-true, ltb-false, eqb-true}
use Rattle.lock.specs.Locks.{same_kind, value_at, can_move}
use Rattle.lock.specs.declared.Wait.TheVariants.{Request}
use Rattle.facts.proofs.Bools.{by_bool, contra, both}
use Rattle.lock.proofs.Levels.{same_kind_law}
use Rattle.task.specs.State.{wanted}
use Rattle.machine.specs.State.{task_at}
use Rattle.machine.specs.Granting.{available, could_be_granted, servable}
use Rattle.machine.specs.Invariants.{Passes}
use Rattle.machine.specs.declared.State.{State}
use Rattle.machine.proofs.Facts.{ok_of_passes}
use Rattle.wait_bound.specs.Waiting.{WaitsFor}
use Rattle.lists.specs.Lists.{every}

pub record Queued (k : State) (j s : ℕ) : Type 0 where
  pub declared : j < k.counts.tasks
  pub kind : (task_at k.tasks j).wait ≡ Request
  pub list : wanted (task_at k.tasks j) ≡ s ∷ []

-- A list of one names its first number; were there none, it could be granted.
one_named : (day : ℕ) (k : State) → Passes day k → (j s : ℕ) → j < k.counts.tasks → (task_at k.tasks j).wait ≡ Request
    → (task_at k.tasks j).len ≡ 1 → get_or (task_at k.tasks j).list 0 0 ≡ s → wanted (task_at k.tasks j) ≡ s ∷ []
one_named day k p j s l w n f = rw n (go (task_at k.tasks j).list refl f)
  where
    go : (xs : List ℕ) → (task_at k.tasks j).list ≡ xs → get_or xs 0 0 ≡ s → take 1 xs ≡ s ∷ []
    go [] e f =
        let g : servable k.counts.tasks k.tasks k.locks j ≡ true = unfold could_be_granted every in rw (w, n, e) in
        contra g ((ok_of_passes day k p).stuck j l)
    go (x ∷ xs) e f = rw f

pub queued : (day : ℕ) (k : State) → Passes day k → (j s : ℕ) → WaitsFor k j s → Queued k j s
queued day k p j s a =
    let t = task_at k.tasks j in
    let b = both (ltb j k.counts.tasks && same_kind t.wait Request) (eqb t.len 1) a.0 in
    let c = both (ltb j k.counts.tasks) (same_kind t.wait Request) b.0 in
    let l = ltb-true j k.counts.tasks c.0 in
    let w = same_kind_law t.wait Request c.1 in
    record { declared = l; kind = w; list = one_named day k p j s l w (eqb-true _ 1 b.1) a.1 }

module _ (day : ℕ) (k : State) (p : Passes day k) (j s : ℕ) (q : Queued k j s) where
  -- The semaphore is declared,
  pub low_number : s < k.counts.semaphores
  unfolding every
  low_number =
      let h = (((ok_of_passes day k p).tasks_ok_law j q.declared).listed (rw q.kind)).below in
      ltb-true s _ (both (ltb s k.counts.semaphores) true (rw (q.kind, q.list) at h)).0

  -- and its value is 0: else the task could be granted.
  pub none_left : value_at k.locks s ≡ 0
  none_left =
      by_bool (ltb 0 (value_at k.locks s))
      (λ e.
      let g : servable k.counts.tasks k.tasks k.locks j ≡ true = unfold could_be_granted available can_move every in rw (q.kind, q.list, e) in
      contra g ((ok_of_passes day k p).stuck j q.declared))
      (λ e. let l = ltb-false 0 (value_at k.locks s) e in omega arith)
