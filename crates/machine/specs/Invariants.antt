-- What every step keeps, whatever the kernel and the bytes. Proved in proofs/Invariants.antt, serving in proofs/Serving.antt.
use Rattle.std.specs.Prelude.{◌≡◌, true, false, List, ℕ, ◌<◌, ◌≤◌, length}
use Rattle.calendar.specs.Limits.{longest_duration}
use Rattle.layout.specs.Fields.{Octets}
use Rattle.layout.specs.declared.Call.{Call}
use Rattle.machine.specs.declared.State.{State}
use Rattle.machine.specs.State.{most_tasks, most_semaphores, most_bolts, most_interrupts}
use Rattle.machine.specs.Granting.{servable}
use Rattle.machine.specs.Serving.{Served, serve}
use Rattle.machine.specs.Test.{valid, kernel_refusal}
use Rattle.machine.specs.Step.{carry, step}

-- A length of the day that the instants have room for.
pub record IsDay (day : ℕ) : Type 0 where
  pub some : 0 < day
  pub room : day ≤ longest_duration

-- The tables have as many places as document 01 says, as in every value of the code.
pub record Tables (k : State) : Type 0 where
  pub tasks : length k.tasks ≡ most_tasks
  pub places : length k.places ≡ most_tasks
  pub semaphores : length k.locks.semaphores ≡ most_semaphores
  pub bolts : length k.locks.bolts ≡ most_bolts
  pub enabled : length k.enabled ≡ most_interrupts

-- A kernel that is refused with neither 1 nor 16.
pub record Passes (day : ℕ) (k : State) : Type 0 where
  pub tables : Tables k
  pub tested : kernel_refusal day k ≡ 0

-- A kernel that passes the kernel test leaves, after any bytes, accepted or refused, one that passes it, whatever is on file.
abbrev pub StepTested : Type 0
StepTested =
    (day : ℕ) → IsDay day → (k : State) → Tables k → valid day k ≡ true → (s : List ℕ) → Octets s
    → Tables (step day k s).state × (valid day (step day k s).state ≡ true)

-- And one that isn't refused with 16 either leaves one that isn't.
abbrev pub StepPasses : Type 0
StepPasses =
    (day : ℕ) → IsDay day → (k : State) → Passes day k → (s : List ℕ) → Octets s → Passes day (step day k s).state

-- The same for a call or declaration that was read.
abbrev pub CarryPasses : Type 0
CarryPasses =
    (day : ℕ) → IsDay day → (k : State) → Passes day k → (c : Call) → c.head.priority < 256
    → Passes day (carry day k c).state

-- Serving ends with nobody waiting on a list that could be granted.
abbrev pub ServingEnds : Type 0
ServingEnds =
    (n : ℕ) (ps : List ℕ) (p : Served) (i : ℕ) → i < n
    → servable n (serve n ps n p).tasks (serve n ps n p).locks i ≡ false
