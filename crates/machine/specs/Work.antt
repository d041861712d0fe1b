-- What an accepted call does before the waiting tasks are served: to one task and the locks, or to every task.
use Rattle.std.specs.Prelude.{Bool, false, List, ◌++◌, map, ℕ, take, drop, set}
use Rattle.calendar.specs.declared.Instant.{Instant}
use Rattle.lock.specs.declared.Locks.{Locks}
use Rattle.task.specs.declared.Task.{Task}
use Rattle.task.specs.declared.Turn.{Turn}
use Rattle.machine.specs.declared.Change.{Change}
use Rattle.machine.specs.declared.State.{State}
use Rattle.machine.specs.declared.Sets.{Sets}
use Rattle.machine.specs.Sets.{set_of, mark, each_set, no_sets, only_in}

pub record Work : Type 0 where
  pub now : Instant
  pub tasks : List Task
  pub locks : Locks
  pub enabled : List Bool
  pub sets : Sets

-- ---- one task and the locks

-- The task has its turn.
abbrev pub by_turn : Locks → Turn → Change
by_turn l u = record { task = u.task; locks = l; marks = u.marks }

-- The task has no turn; it may be granted what it asked for.
abbrev pub by_locks : Task → Locks → Bool → Change
by_locks t l g =
    record {
      task = t;
      locks = l;
      marks = record { due = false; started = false; ended = false; lost = false; granted = g };
    }

-- Task i is changed.
unfoldable pub changed : State → ℕ → Change → Work
changed k i c =
    record {
      now = k.now;
      tasks = set k.tasks i c.task;
      locks = c.locks;
      enabled = k.enabled;
      sets = only_in i c.marks;
    }

-- ---- no task

-- Interrupts may be enabled or disabled.
unfoldable pub only_enabled : State → List Bool → Work
only_enabled k is =
    record {
      now = k.now;
      tasks = k.tasks;
      locks = k.locks;
      enabled = is;
      sets = no_sets;
    }

-- ---- every task

abbrev pub turns : ℕ → (Task → Turn) → List Task → List Turn
turns n f ts = map f (take n ts)

-- Each declared task has its turn, at instant n.
unfoldable pub every_turn : State → Instant → (Task → Turn) → Work
every_turn k n f =
    let us = turns k.counts.tasks f k.tasks in
    record {
      now = n;
      tasks = map (λ u. u.task) us ++ drop k.counts.tasks k.tasks;
      locks = k.locks;
      enabled = k.enabled;
      sets = each_set (λ x. set_of (map (λ u. mark x u.marks) us));
    }
