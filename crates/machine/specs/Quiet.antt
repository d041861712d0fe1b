-- Quiet ticks: while nothing comes, a tick only moves the instant. Proved in proofs/NextEvent.antt and proofs/Quiet.antt.
use Rattle.std.specs.Prelude.{Some, ◌≡◌, true, false, ℕ, zero, suc, ◌+◌, ◌<◌, ◌≤◌, length}
use Rattle.calendar.specs.Limits.{last_instant}
use Rattle.calendar.specs.Times.{instant, duration, plus}
use Rattle.calendar.specs.Moments.{earlier_than, Moment}
use Rattle.calendar.specs.declared.Instant.{Instant}
use Rattle.task.specs.Coming.{comes}
use Rattle.machine.specs.declared.State.{State}
use Rattle.machine.specs.State.{most_tasks, task_at, begun_at}
use Rattle.machine.specs.Running.{runner}
use Rattle.machine.specs.NextEvent.{next_event}
use Rattle.machine.specs.Test.{kernel_refusal}
use Rattle.machine.specs.Step.{plain_answer}
use Rattle.machine.specs.Log.{Entry, final, log}
use Rattle.machine.specs.Scripts.{row, one_tick}

-- Nothing comes within the next d ticks. What was to come at the present instant or before it is none of this.
abbrev pub Quiet : ℕ → State → Type 0
Quiet d k =
    (i : ℕ) → i < k.counts.tasks
    → (x : ℕ) → k.now.0 < x → x ≤ k.now.0 + d
    → comes (instant x) (task_at k.tasks i) ≡ false

-- Something comes to a declared task at n.
abbrev pub Comes : Instant → State → Type 0
Comes n k = (i : ℕ) × (i < k.counts.tasks) × (comes n (task_at k.tasks i) ≡ true)

-- m is the next event: nothing comes before it, ever if it is none, and something at it, which is later than now.
pub record IsNextEvent (k : State) (m : Moment) : Type 0 where
  pub quiet : (d : ℕ) → earlier_than (plus k.now (duration d)) m ≡ true → Quiet d k
  pub later : (n : Instant) → m ≡ Some n → k.now.0 < n.0
  pub comes : (n : Instant) → m ≡ Some n → Comes n k

abbrev pub NextIsNext : Type 0
NextIsNext = (k : State) → IsNextEvent k (next_event k)

-- No other moment is.
abbrev pub OneIsNext : Type 0
OneIsNext = (k : State) (m : Moment) → IsNextEvent k m → m ≡ next_event k

-- The same kernel d ticks later. One tick is an accepted call; none is not.
unfoldable pub later : ℕ → State → State
later zero k = k
later (suc d) k = begun_at (plus k.now (duration (suc d))) k

-- A tick that is accepted with empty sets, while k's task runs.
abbrev pub quiet_tick : State → Entry
quiet_tick k = record { bytes = one_tick; answer = plain_answer 0 (runner k) }

-- d ticks are quiet.
pub record QuietTicks (day d : ℕ) (k : State) : Type 0 where
  pub answers : log day k (row d one_tick) ≡ row d (quiet_tick k)
  pub state : final day k (row d one_tick) ≡ later d k

-- For every kernel that isn't turned away, with its table of tasks, and every number of ticks up to the last instant.
abbrev pub TicksAreQuiet : Type 0
TicksAreQuiet =
    (day d : ℕ) (k : State) → length k.tasks ≡ most_tasks → kernel_refusal day k ≡ 0
    → Quiet d k → k.now.0 + d ≤ last_instant → QuietTicks day d k

-- So it is up to just before the next event, which stays the next meanwhile.
abbrev pub QuietUpToNext : Type 0
QuietUpToNext =
    (day d : ℕ) (k : State) → length k.tasks ≡ most_tasks → kernel_refusal day k ≡ 0
    → earlier_than (plus k.now (duration d)) (next_event k) ≡ true → k.now.0 + d ≤ last_instant
    → QuietTicks day d k × (next_event (later d k) ≡ next_event k)
