-- Names for contracts: who is runnable and who waits, as sets, and for whom that has changed.
use Rattle.std.specs.Prelude.{◌≡◌, Bool, not, cond, List, ℕ, ◌<◌}
use Rattle.lock.specs.Locks.{waiting}
use Rattle.task.specs.State.{runnable}
use Rattle.task.specs.declared.Task.{Task}
use Rattle.machine.specs.Sets.{holds}
use Rattle.machine.specs.State.{task_at}
use Rattle.kernel_sets.specs.Puts.{put_if}
use Rattle.kernel_sets.specs.declared.Standing.{Standing}

-- The sets have the runnable and the waiting ones of the first n tasks.
pub record Stands (n : ℕ) (ts : List Task) (s : Standing) : Type 0 where
  pub runnable : (i : ℕ) → i < n → holds i s.runnable ≡ runnable (task_at ts i)
  pub waiting : (i : ℕ) → i < n → holds i s.waiting ≡ waiting (task_at ts i).wait

-- b, or the opposite where it has turned.
abbrev pub turned_if : Bool → Bool → Bool
turned_if t b = cond t (not b) b

-- The sets have those of the first n tasks that were runnable and aren't, or the other way round, and so for waiting.
pub record Turned (n : ℕ) (before after : List Task) (s : Standing) : Type 0 where
  pub runnable : (i : ℕ) → i < n → runnable (task_at before i) ≡ turned_if (holds i s.runnable) (runnable (task_at after i))
  pub waiting : (i : ℕ) → i < n → waiting (task_at before i).wait ≡ turned_if (holds i s.waiting) (waiting (task_at after i).wait)

-- Task i is put into the sets if it has turned from t to u.
unfoldable pub with_turn : ℕ → Task → Task → Standing → Standing
with_turn i t u s =
    record {
      runnable = put_if i (turned_if (runnable t) (runnable u)) s.runnable;
      waiting = put_if i (turned_if (waiting t.wait) (waiting u.wait)) s.waiting;
    }
