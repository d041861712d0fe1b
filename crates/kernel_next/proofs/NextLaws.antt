-- The next event: its scan.
use Rattle.std.specs.Prelude.{None, Some}
use mathlib.Core.Path.{◌≡◌, refl, sym, ◌∙◌}
use mathlib.Core.List.{List, [], ◌++◌}
use Prim.Native.Nat.{ℕ, zero, suc, ◌+◌, ◌≤◌, ◌<◌}
use native.Mathlib.Numerals.{add-one}
use native.Mathlib.Omega.{arith}
use lib.ListN.{length, set}
use lib.Seq.{get_or-set_same, get_or-set_other}
use borrow.Author.Tests.{lt-ltb, le-ltb}
use Rattle.calendar.specs.Times.{instant}
use Rattle.calendar.specs.Moments.{sooner, first_after, Moment}
use Rattle.calendar.specs.declared.Instant.{Instant}
use Rattle.schedule.specs.Coming.{next_of}
use Rattle.task.specs.Coming.{delay_end, pendings}
use Rattle.facts.proofs.Bools.{by_eq}
use Rattle.task.specs.State.{no_task}
use Rattle.machine.specs.State.{task_at}
use Rattle.machine.proofs.NextEvent.{among_alike}
use Rattle.task.specs.declared.Task.{Task}
use Rattle.machine.specs.NextEvent.{all_pending, next_among}

-- The first that comes to one task more.
pub among_more : (x : Instant) (ts : List Task) (i : ℕ) (s m : Moment) → s ≡ next_among x i ts
    → m ≡ sooner x (delay_end (task_at ts i).hold) (sooner x (next_of (task_at ts i).schedule.alarm) (sooner x (next_of (task_at ts i).continuation) s))
    → m ≡ next_among x (i + 1) ts
unfolding first_after next_among all_pending
among_more x ts i s m e f = f ∙ rw (e, add-one)

-- A task that has the same to come first leaves the next event.
pub next_kept : (x : Instant) (n : ℕ) (ts : List Task) (i : ℕ) (u : Task) → i < length ts
    → first_after x (pendings (task_at ts i)) ≡ first_after x (pendings u) → next_among x n ts ≡ next_among x n (set ts i u)
next_kept x n ts i u l e =
    among_alike x ts (set ts i u) n
    (λ j b. by_eq j i (λ z. rw (z, get_or-set_same ts i u no_task l) e) (λ z. rw (get_or-set_other ts i j u no_task z)))
