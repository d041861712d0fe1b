-- Serving: what ends every accepted call.
use Rattle.std.specs.Prelude.{None, Some, List, ℕ, zero, suc, set}
use Rattle.lock.specs.Locks.{take_all}
use Rattle.lock.specs.declared.Locks.{Locks}
use Rattle.task.specs.State.{wanted, wait_over}
use Rattle.task.specs.declared.Task.{Task}
use Rattle.machine.specs.Running.{Running, urgency, most_urgent}
use Rattle.machine.specs.Sets.{put}
use Rattle.machine.specs.State.{task_at}
use Rattle.machine.specs.Granting.{servable}

-- What serving changes.
pub record Served : Type 0 where
  pub tasks : List Task
  pub locks : Locks
  pub granted : ℕ

-- The most urgent task that waits on a list that could be granted, held or not.
abbrev pub next_served : ℕ → List ℕ → Served → Running
next_served n ps p = most_urgent n (servable n p.tasks p.locks) (urgency ps p.tasks)

-- Task i is granted the whole list that it waits on.
unfoldable pub grant_to : ℕ → Served → Served
grant_to i p =
    record {
      tasks = set p.tasks i (wait_over (task_at p.tasks i));
      locks = take_all (task_at p.tasks i).wait p.locks (wanted (task_at p.tasks i));
      granted = put i p.granted;
    }

-- While there is one to be served, the next is granted. Each grant ends a wait, so as many turns as tasks are enough.
unfoldable pub serve : ℕ → List ℕ → ℕ → Served → Served
serve n ps zero p = p
serve n ps (suc turns) p = elim (next_served n ps p) [ None ↦ p | Some i ↦ serve n ps turns (grant_to i p) ]
