-- For whom it has changed whether it is runnable or waits, as one task after the other changes.
use mathlib.Core.Path.{◌≡◌}
use mathlib.Core.Logic.{◌≢◌}
use mathlib.Core.Bool.{Bool, true, false}
use mathlib.Core.List.{List}
use Prim.Native.Nat.{ℕ, ◌<◌}
use lib.ListN.{length, set}
use lib.Seq.{get_or-set_same, get_or-set_other}
use Rattle.lock.specs.Locks.{waiting}
use Rattle.facts.proofs.Bools.{by_eq}
use Rattle.task.specs.State.{no_task, runnable}
use Rattle.task.specs.declared.Task.{Task}
use Rattle.machine.specs.Sets.{holds}
use Rattle.machine.specs.State.{task_at}
use Rattle.machine.proofs.SetLaws.{has_put}
use Rattle.kernel_sets.specs.Puts.{put_if}
use Rattle.kernel_sets.specs.Standing.{turned_if, Turned, with_turn}
use Rattle.kernel_sets.specs.declared.Standing.{Standing}
use Rattle.kernel_sets.proofs.SetTill.{put_other}

-- Task i turns from a to b, and had not turned before.
turn_here : (a b : Bool) (i s : ℕ) → a ≡ turned_if (holds i s) a → a ≡ turned_if (holds i (put_if i (turned_if a b) s)) b
turn_here true true i s e = e
turn_here true false i s e = rw (has_put i s)
turn_here false true i s e = rw (has_put i s)
turn_here false false i s e = e

-- So it is in a kernel, where task i is still as it was before.
pub turned_more : (n : ℕ) (ts us : List Task) (s : Standing) → Turned n ts us s → (i : ℕ) → i < length us → task_at us i ≡ task_at ts i → (u : Task)
    → Turned n ts (set us i u) (with_turn i (task_at us i) u s)
unfolding with_turn
turned_more n ts us s h i room same u =
    let at : task_at (set us i u) i ≡ u = get_or-set_same us i u no_task room in
    let other : (j : ℕ) → j ≢ i → task_at (set us i u) j ≡ task_at us j = λ j e. get_or-set_other us i j u no_task e in
    record {
      runnable = λ j l. by_eq j i
          (λ e. rw (e, at, same) (turn_here (runnable (task_at ts i)) (runnable u) i s.runnable (rw (e, same) at (h.runnable j l))))
          (λ e. rw (other j e, put_other i j (turned_if (runnable (task_at us i)) (runnable u)) s.runnable e) (h.runnable j l));
      waiting = λ j l. by_eq j i
          (λ e. rw (e, at, same) (turn_here (waiting (task_at ts i).wait) (waiting u.wait) i s.waiting (rw (e, same) at (h.waiting j l))))
          (λ e. rw (other j e, put_other i j (turned_if (waiting (task_at us i).wait) (waiting u.wait)) s.waiting e) (h.waiting j l));
    }
