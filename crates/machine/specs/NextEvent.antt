-- The next event: when something next comes to a declared task without another call. It is on file, with the running task.
use Rattle.std.specs.Prelude.{List, [], ◌++◌, ℕ, zero, suc}
use Rattle.calendar.specs.Moments.{first_after, Moment}
use Rattle.calendar.specs.declared.Instant.{Instant}
use Rattle.task.specs.Coming.{pendings}
use Rattle.task.specs.declared.Task.{Task}
use Rattle.machine.specs.declared.State.{State}
use Rattle.machine.specs.declared.OnFile.{OnFile}
use Rattle.machine.specs.State.{task_at}
use Rattle.machine.specs.Running.{runner}

-- All that pends for the first n tasks.
unfoldable pub all_pending : ℕ → List Task → List Moment
all_pending zero ts = []
all_pending (suc n) ts = pendings (task_at ts n) ++ all_pending n ts

-- The first of it that is later than now, or none.
unfoldable pub next_among : Instant → ℕ → List Task → Moment
next_among now n ts = first_after now (all_pending n ts)

abbrev pub next_event : State → Moment
next_event k = next_among k.now k.counts.tasks k.tasks

-- What a kernel is to have on file.
abbrev pub file_of : State → OnFile
file_of k = record { running = runner k; next = next_event k }
