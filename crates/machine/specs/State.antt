-- What a kernel holds (document 01), and the kernel with one part changed.
use Rattle.std.specs.Prelude.{None, Bool, true, false, List, ℕ, get_or, replicate}
use Rattle.calendar.specs.Times.{instant}
use Rattle.calendar.specs.declared.Instant.{Instant}
use Rattle.layout.specs.Fields.{no_list}
use Rattle.lock.specs.Locks.{most_locks, empty_bolt}
use Rattle.lock.specs.declared.Wait.{Wait}
use Rattle.lock.specs.declared.Wait.TheVariants.{Nothing, Request, Reserve, Enter}
use Rattle.lock.specs.declared.Locks.{Locks}
use Rattle.schedule.specs.Alarms.{no_alarm}
use Rattle.schedule.specs.Schedules.{no_schedule}
use Rattle.task.specs.State.{no_task}
use Rattle.task.specs.declared.Hold.TheVariants.{Unheld}
use Rattle.task.specs.declared.Task.{Task}
use Rattle.machine.specs.declared.Counts.{Counts}
use Rattle.machine.specs.declared.OnFile.{OnFile}
use Rattle.machine.specs.declared.State.{State}

-- ---- how many of each kind there can be

abbrev pub most_tasks : ℕ
most_tasks = 32

abbrev pub most_semaphores : ℕ
most_semaphores = most_locks

abbrev pub most_bolts : ℕ
most_bolts = most_locks

abbrev pub most_interrupts : ℕ
most_interrupts = 8

-- ---- one place

abbrev pub task_at : List Task → ℕ → Task
task_at ts i = get_or ts i no_task

-- The place of task i in the order of events.
abbrev pub place_at : List ℕ → ℕ → ℕ
place_at ps i = get_or ps i 0

abbrev pub enabled_at : State → ℕ → Bool
enabled_at k i = get_or k.enabled i false

-- How many numbers a list of a kind can name.
abbrev pub count_of : Counts → Wait → ℕ
count_of n Nothing = 0
count_of n Request = n.semaphores
count_of n Reserve = n.bolts
count_of n Enter = n.bolts

-- ---- a fresh kernel

-- A task as its declaration leaves it.
unfoldable pub fresh_task : ℕ → Task
fresh_task p =
    record {
      declared = p;
      current = p;
      alive = false;
      kept = None;
      wait = Nothing;
      len = 0;
      list = no_list;
      given = 0;
      resumed = false;
      hold = Unheld;
      schedule = no_schedule;
      continuation = no_alarm;
    }

-- A place of the table of tasks in which none is declared.
abbrev pub vacant : Task
vacant = fresh_task 0

-- Nothing is declared.
unfoldable pub nothing : State
nothing =
    record {
      tasks = replicate most_tasks vacant;
      places = replicate most_tasks 0;
      locks = record { semaphores = replicate most_semaphores 0; bolts = replicate most_bolts empty_bolt };
      enabled = replicate most_interrupts false;
      counts = record { tasks = 0; semaphores = 0; bolts = 0; interrupts = 0 };
      clock = 0;
      now = instant 0;
      begun = false;
      file = record { running = None; next = None };
    }

-- ---- a kernel with some parts changed

abbrev pub with_state : List Task → Locks → List Bool → State → State
with_state ts r is k = record k { tasks = ts; locks = r; enabled = is }

abbrev pub with_places : List ℕ → State → State
with_places ps k = record k { places = ps }

abbrev pub with_counts : Counts → State → State
with_counts n k = record k { counts = n }

abbrev pub with_clock : ℕ → State → State
with_clock t k = record k { clock = t }

-- f is on file.
abbrev pub with_file : OnFile → State → State
with_file f k = record k { file = f }

-- The kernel after an accepted call, at instant n.
abbrev pub begun_at : Instant → State → State
begun_at n k = record k { now = n; begun = true }
