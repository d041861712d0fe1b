-- Names for contracts: what one look at a kernel tells.
use Rattle.std.specs.Prelude.{None, Option, Some, Bool, not, cond, ◌&&◌, List, ℕ}
use Rattle.lock.specs.Locks.{waiting}
use Rattle.lock.specs.declared.Locks.{Locks}
use Rattle.lock.specs.declared.Wait.{Wait}
use Rattle.task.specs.State.{unheld, wanted}
use Rattle.task.specs.declared.Hold.{Hold}
use Rattle.task.specs.declared.Task.{Task}
use Rattle.machine.specs.State.{task_at}
use Rattle.machine.specs.Granting.{could_be_granted}
use Rattle.machine.specs.NextEvent.{file_of}
use Rattle.machine.specs.Sums.{all_below}
use Rattle.machine.specs.Test.{counts_ok, hold_ok, wait_ok, valid, same_file}
use Rattle.machine.specs.declared.Counts.{Counts}
use Rattle.machine.specs.declared.State.{State}
use Rattle.machine.specs.declared.OnFile.{OnFile}
use Rattle.record.specs.Refusals.{unless}

-- The counts are in range, and each wait's list names one to four declared numbers, none twice.
unfoldable pub waits_ok : State → Bool
waits_ok k = counts_ok k.counts && all_below k.counts.tasks (λ i. wait_ok k.counts (task_at k.tasks i))

-- ---- one task

-- Waiting for nothing, unheld.
abbrev pub at_ease : Wait → Hold → Bool
at_ease w h = not (waiting w) && unheld h

-- It waits for nothing, or on a list in order that could not be granted.
unfoldable pub wait_settled : Counts → List Task → Locks → Task → Bool
wait_settled n ts r t =
    wait_ok n t && not (waiting t.wait && could_be_granted n.tasks ts r t.current t.wait (wanted t))

-- What the test asks of a task that isn't at ease, beside its priorities, its schedule and a start kept back.
unfoldable pub busy_ok : Counts → List Task → Locks → Task → Bool
busy_ok n ts r t = t.alive && hold_ok t.hold && wait_settled n ts r t

-- ---- all of it

-- What one look at a kernel tells: what it is to have on file, or nothing where it fails the test.
unfoldable pub surveyed : ℕ → State → Option OnFile
surveyed day k = cond (valid day k) (Some (file_of k)) None

-- 1 where nothing was found, 16 where another task or next event is on file.
abbrev pub file_refusal : Option OnFile → OnFile → ℕ
file_refusal None f = 1
file_refusal (Some g) f = unless (same_file f g) 16 0
