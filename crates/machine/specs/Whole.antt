-- Lists are granted whole or not at all, and serving is a loop. Proved in proofs/Whole.antt and proofs/Serves.antt.
use Rattle.std.specs.Prelude.{Some, ◌≡◌, ◌≢◌, Bool, true, false, List, ℕ, ◌<◌, ◌^◌, set}
use Rattle.layout.specs.declared.Call.{Call}
use Rattle.record.specs.Refusals.{named}
use Rattle.lock.specs.Locks.{all_free, take_all}
use Rattle.lock.specs.declared.Wait.{Wait}
use Rattle.task.specs.State.{wanted, wait_for, wait_over}
use Rattle.machine.specs.declared.State.{State}
use Rattle.machine.specs.declared.Sort.TheVariants.{ListAsked}
use Rattle.machine.specs.Sets.{put}
use Rattle.machine.specs.State.{task_at}
use Rattle.machine.specs.Sorts.{sort_of}
use Rattle.machine.specs.Running.{runner}
use Rattle.machine.specs.Granting.{could_be_granted, servable}
use Rattle.machine.specs.Work.{Work}
use Rattle.machine.specs.Serving.{Served, grant_to, serve}
use Rattle.machine.specs.Calls.{work_of}
use Rattle.machine.specs.Promises.{First, AreBytes}

-- ---- RQ, TR, RS and ET

-- The list could be granted: all of it is free, all of it is taken, and the runner i is granted.
pub record Taken (k : State) (i : ℕ) (w : Wait) (c : Call) (a : Work) : Type 0 where
  pub free : all_free w k.locks (named c) ≡ true
  pub locks : a.locks ≡ take_all w k.locks (named c)
  pub granted : a.sets.granted ≡ 2 ^ i
  pub tasks : a.tasks ≡ k.tasks

-- It couldn't: nothing is taken, nobody is granted, and the runner i waits for the list unless it only tried.
pub record Untaken (k : State) (i : ℕ) (waits : Bool) (w : Wait) (c : Call) (a : Work) : Type 0 where
  pub locks : a.locks ≡ k.locks
  pub granted : a.sets.granted ≡ 0
  pub waiting : waits ≡ true → a.tasks ≡ set k.tasks i (wait_for w c.head.len c.list (task_at k.tasks i))
  pub tried : waits ≡ false → a.tasks ≡ k.tasks

abbrev pub Asked : State → ℕ → Bool → Wait → Call → Bool → Work → Type 0
Asked k i waits w c true a = Taken k i w c a
Asked k i waits w c false a = Untaken k i waits w c a

-- Asking takes all of the list or nothing.
abbrev pub AsksWhole : Type 0
AsksWhole =
    (day : ℕ) (k : State) (i : ℕ) (w : Wait) (waits : Bool) (c : Call) → runner k ≡ Some i
    → sort_of c.head.mark ≡ ListAsked w waits
    → Asked k i waits w c
    (could_be_granted k.counts.tasks k.tasks k.locks (task_at k.tasks i).current w (named c)) (work_of day k c)

-- ---- serving

-- Task i is granted the list that it waits on: all of it is free, all of it is taken, the wait is over, and no other
-- task changes.
pub record Grants (i : ℕ) (p q : Served) : Type 0 where
  pub free : all_free (task_at p.tasks i).wait p.locks (wanted (task_at p.tasks i)) ≡ true
  pub locks : q.locks ≡ take_all (task_at p.tasks i).wait p.locks (wanted (task_at p.tasks i))
  pub over : task_at q.tasks i ≡ wait_over (task_at p.tasks i)
  pub others : (j : ℕ) → j ≢ i → task_at q.tasks j ≡ task_at p.tasks j
  pub granted : q.granted ≡ put i p.granted

-- While some waiting task's list could be granted, the first such is granted it; then nobody waits on such a list.
pub data Loop (n : ℕ) (ps : List ℕ) : Served → Served → Type 0 where
  stop : {p : Served} → ((i : ℕ) → i < n → servable n p.tasks p.locks i ≡ false) → Loop n ps p p
  next : {p q : Served} (i : ℕ) → First n (servable n p.tasks p.locks) ps p.tasks i → Grants i p (grant_to i p)
      → Loop n ps (grant_to i p) q
      → Loop n ps p q

-- As many turns as tasks are enough.
abbrev pub ServesAll : Type 0
ServesAll = (n : ℕ) (ps : List ℕ) (p : Served) → AreBytes n ps → Loop n ps p (serve n ps n p)
