-- The order of urgency, and the running task.
use Rattle.std.specs.Prelude.{Option, None, Some, Bool, true, false, cond, List, ℕ, zero, suc, ◌+◌, ◌*◌, ltb, eqb}
use Rattle.task.specs.State.{runnable}
use Rattle.task.specs.declared.Task.{Task}
use Rattle.machine.specs.declared.State.{State}
use Rattle.machine.specs.State.{task_at, place_at}

-- The running task, or none.
abbrev pub Running : Type 0
Running = Option ℕ

-- A place is a byte.
abbrev pub most_places : ℕ
most_places = 256

-- The order of urgency as one number, smaller first: current priority, then place in the order of events.
unfoldable pub urgency : List ℕ → List Task → ℕ → ℕ
urgency ps ts i = most_places * (task_at ts i).current + place_at ps i

abbrev pub better : (ℕ → ℕ) → Running → ℕ → Running
better u None n = Some n
better u (Some j) n = cond (ltb (u n) (u j)) (Some n) (Some j)

-- Of the numbers below n that pass a test, the most urgent.
unfoldable pub most_urgent : ℕ → (ℕ → Bool) → (ℕ → ℕ) → Running
most_urgent zero test u = None
most_urgent (suc n) test u = cond (test n) (better u (most_urgent n test u) n) (most_urgent n test u)

-- The running task among the first n: the most urgent runnable one, or none.
unfoldable pub running_of : ℕ → List ℕ → List Task → Running
running_of n ps ts = most_urgent n (λ i. runnable (task_at ts i)) (urgency ps ts)

abbrev pub runner : State → Running
runner k = running_of k.counts.tasks k.places k.tasks

abbrev pub same_running : Running → Running → Bool
same_running None None = true
same_running None (Some j) = false
same_running (Some i) None = false
same_running (Some i) (Some j) = eqb i j

abbrev pub someone : Running → Bool
someone None = false
someone (Some i) = true
