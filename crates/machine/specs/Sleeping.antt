-- The next event on file, and sleep to it (request 7). Proved in proofs/Sleeping.antt.
use Rattle.std.specs.Prelude.{None, Some, ◌≡◌, false, ℕ, suc, ◌+◌, ◌≤◌, length}
use Rattle.calendar.specs.Limits.{last_instant}
use Rattle.calendar.specs.Moments.{comes_by}
use Rattle.calendar.specs.declared.Instant.{Instant}
use Rattle.machine.specs.declared.State.{State}
use Rattle.machine.specs.State.{most_tasks}
use Rattle.machine.specs.Running.{runner}
use Rattle.machine.specs.Test.{kernel_refusal}
use Rattle.machine.specs.Step.{answered, step}
use Rattle.machine.specs.Log.{final}
use Rattle.machine.specs.Scripts.{row, one_tick, sleep}
use Rattle.machine.specs.Quiet.{IsNextEvent, QuietTicks}

-- ---- the next event on file

-- It is real and earliest, in every kernel that isn't turned away.
abbrev pub FiledIsNext : Type 0
FiledIsNext = (day : ℕ) (k : State) → kernel_refusal day k ≡ 0 → IsNextEvent k k.file.next

-- With none on file nothing ever comes without another call: all ticks are quiet, up to the last instant.
abbrev pub NoneIsForGood : Type 0
NoneIsForGood =
    (day d : ℕ) (k : State) → length k.tasks ≡ most_tasks → kernel_refusal day k ≡ 0
    → k.file.next ≡ None → k.now.0 + d ≤ last_instant → QuietTicks day d k

-- ---- SL

-- A sleep from k to x is as many ticks as it is to x: all before the last are quiet, and the last has its answer and
-- leaves its kernel.
pub record Slept (day : ℕ) (k : State) (x : Instant) : Type 0 where
  pub ahead : ℕ
  pub reach : k.now.0 + suc ahead ≡ x.0
  pub quiet : QuietTicks day ahead k
  pub last : step day k sleep ≡ step day (final day k (row ahead one_tick)) one_tick
  pub number : (step day k sleep).answer.number ≡ 0
  pub now : (step day k sleep).state.now ≡ x

-- So is every SL of a kernel that isn't turned away, with its table of tasks, to the next event up to the last instant.
abbrev pub SleepIsTicks : Type 0
SleepIsTicks =
    (day : ℕ) (k : State) (x : Instant) → length k.tasks ≡ most_tasks → kernel_refusal day k ≡ 0
    → k.file.next ≡ Some x → x.0 ≤ last_instant → Slept day k x

-- Any other is refused with 17: nothing is to come, or only beyond the last instant.
abbrev pub SleepIsRefused : Type 0
SleepIsRefused =
    (day : ℕ) (k : State) → kernel_refusal day k ≡ 0 → comes_by last_instant k.file.next ≡ false
    → step day k sleep ≡ answered k 17 (runner k)
