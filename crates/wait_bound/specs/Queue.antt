-- Who waits for a semaphore, who is ahead of whom, and after how many RELEASEs a task is granted (request 4).
use Rattle.std.specs.Prelude.{Option, None, Some, Bool, cond, ◌&&◌, ℕ, suc, ltb, eqb, get_or}
use Rattle.wait_bound.specs.declared.Releases.{Releases}
use Rattle.lists.specs.Lists.{names}
use Rattle.lock.specs.Locks.{bit, same_kind}
use Rattle.lock.specs.declared.Wait.TheVariants.{Request}
use Rattle.task.specs.State.{wanted}
use Rattle.task.specs.declared.Task.{Task}
use Rattle.machine.specs.Sums.{sum_below}
use Rattle.machine.specs.State.{task_at}
use Rattle.machine.specs.Running.{urgency}
use Rattle.machine.specs.declared.State.{State}

-- A task waits in a REQUEST whose list names semaphore s, alone or among others.
abbrev pub queues : ℕ → Task → Bool
queues s t = same_kind t.wait Request && names (wanted t) s

-- Task i is ahead of j on semaphore s: it waits for it too, and is more urgent, or as urgent and earlier.
abbrev pub is_ahead : State → ℕ → ℕ → ℕ → Bool
is_ahead k s j i =
    queues s (task_at k.tasks i) && ltb (urgency k.places k.tasks i) (urgency k.places k.tasks j)

-- How many tasks are ahead of j.
unfoldable pub ahead : State → ℕ → ℕ → ℕ
ahead k s j = sum_below k.counts.tasks (λ i. bit (is_ahead k s j i))

-- Task i waits in a REQUEST of one semaphore,
abbrev pub waits_for_one : State → ℕ → Bool
waits_for_one k i =
    ltb i k.counts.tasks && same_kind (task_at k.tasks i).wait Request && eqb (task_at k.tasks i).len 1

-- and that is the one.
abbrev pub waited_for : State → ℕ → ℕ
waited_for k i = get_or (task_at k.tasks i).list 0 0

-- By when a task is granted; none where it doesn't wait in a REQUEST of one semaphore.
abbrev pub Bound : Type 0
Bound = Option Releases

-- The semaphore that task i alone waits for, and the number of accepted RELEASEs that name it by which it is granted.
unfoldable pub bound_of : State → ℕ → Bound
bound_of k i =
    let s = waited_for k i in
    cond (waits_for_one k i) (Some (record { semaphore = s; number = suc (ahead k s i) })) None
