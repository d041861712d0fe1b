-- The priority that a start takes, in every accepted call (document 01, "Records" and "The step"). Proved in
-- proofs/Starting.antt.
use Rattle.std.specs.Prelude.{◌≡◌, ◌≢◌, true, false, ◌&&◌, List, ℕ, ◌<◌}
use Rattle.layout.specs.declared.Call.{Call}
use Rattle.record.specs.Refusals.{scheduled}
use Rattle.task.specs.Continuing.{SameHold}
use Rattle.task.specs.Starting.{Takes, Plans}
use Rattle.machine.specs.declared.State.{State}
use Rattle.machine.specs.Sets.{marks_of}
use Rattle.machine.specs.State.{task_at}
use Rattle.machine.specs.Step.{step}
use Rattle.machine.specs.Continuing.{Accepts, task_after}
use Rattle.machine.specs.Members.{activates}

-- Task i in a step in which a start that comes due for it has the priority p.
abbrev pub TakesAt : ℕ → State → List ℕ → ℕ → ℕ → Type 0
TakesAt day k s i p = Takes p (task_at k.tasks i) (marks_of i (step day k s).answer.sets) (task_after day k s i)

-- For every kernel that passes the test, any bytes that it accepts and each declared task.
pub record StartsTake : Type 0 where
  -- ACTIVATE with a priority: its start takes that
  pub given : (day : ℕ) (k : State) (s : List ℕ) (c : Call) (i : ℕ) → Accepts day k s c → i < k.counts.tasks
      → activates c i ≡ true → c.head.priority ≢ 0 → TakesAt day k s i c.head.priority
  -- with priority 0: the declared one
  pub declared : (day : ℕ) (k : State) (s : List ℕ) (c : Call) (i : ℕ) → Accepts day k s c → i < k.counts.tasks
      → activates c i ≡ true → c.head.priority ≡ 0 → TakesAt day k s i (task_at k.tasks i).declared
  -- in all other calls: the one given with the task's schedule
  pub scheduled : (day : ℕ) (k : State) (s : List ℕ) (c : Call) (i : ℕ) → Accepts day k s c → i < k.counts.tasks
      → activates c i ≡ false → TakesAt day k s i (task_at k.tasks i).schedule.priority
  -- a living task that ACTIVATE names goes on as it was, held or not, with its priority
  pub living : (day : ℕ) (k : State) (s : List ℕ) (c : Call) (i : ℕ) → Accepts day k s c → i < k.counts.tasks
      → activates c i ≡ true → (task_at k.tasks i).alive ≡ true → SameHold (task_at k.tasks i) (task_after day k s i)

-- The priority given with a schedule, as long as there is one.
pub record SchedulesTake : Type 0 where
  pub given : (day : ℕ) (k : State) (s : List ℕ) (c : Call) (i : ℕ) → Accepts day k s c → i < k.counts.tasks
      → activates c i ≡ true → scheduled c.head.kind ≡ true → c.head.priority ≢ 0
      → Plans c.head.priority (task_after day k s i)
  -- 0 is kept as the declared one
  pub declared : (day : ℕ) (k : State) (s : List ℕ) (c : Call) (i : ℕ) → Accepts day k s c → i < k.counts.tasks
      → activates c i ≡ true → scheduled c.head.kind ≡ true → c.head.priority ≡ 0
      → Plans (task_at k.tasks i).declared (task_after day k s i)
  -- no other call gives it another
  pub stays : (day : ℕ) (k : State) (s : List ℕ) (c : Call) (i : ℕ) → Accepts day k s c → i < k.counts.tasks
      → (activates c i && scheduled c.head.kind) ≡ false
      → Plans (task_at k.tasks i).schedule.priority (task_after day k s i)
