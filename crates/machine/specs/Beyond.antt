-- Places beyond the declared counts have no influence. Proved in proofs/Beyond.antt.
use Rattle.std.specs.Prelude.{◌≡◌, List, ℕ, ◌<◌}
use Rattle.lock.specs.Locks.{value_at, bolt_at}
use Rattle.machine.specs.declared.State.{State}
use Rattle.machine.specs.declared.Stepped.{Stepped}
use Rattle.machine.specs.State.{task_at, place_at, enabled_at}
use Rattle.machine.specs.Step.{step}
use Rattle.machine.specs.Log.{log}
use Rattle.machine.specs.Invariants.{Tables}

-- Two kernels differ at most in places beyond the counts.
pub record Agree (k k' : State) : Type 0 where
  pub counts : k.counts ≡ k'.counts
  pub clock : k.clock ≡ k'.clock
  pub now : k.now ≡ k'.now
  pub begun : k.begun ≡ k'.begun
  pub file : k.file ≡ k'.file
  pub tasks : (i : ℕ) → i < k.counts.tasks → task_at k.tasks i ≡ task_at k'.tasks i
  pub places : (i : ℕ) → i < k.counts.tasks → place_at k.places i ≡ place_at k'.places i
  pub semaphores : (x : ℕ) → x < k.counts.semaphores → value_at k.locks x ≡ value_at k'.locks x
  pub bolts : (x : ℕ) → x < k.counts.bolts → bolt_at k.locks x ≡ bolt_at k'.locks x
  pub enabled : (i : ℕ) → i < k.counts.interrupts → enabled_at k i ≡ enabled_at k' i
  pub tables : Tables k
  pub tables' : Tables k'

-- The same answer, and next kernels that agree.
pub record Match (s s' : Stepped) : Type 0 where
  pub answer : s.answer ≡ s'.answer
  pub state : Agree s.state s'.state

-- So it is for any bytes,
abbrev pub StepsAgree : Type 0
StepsAgree = (day : ℕ) (k k' : State) → Agree k k' → (s : List ℕ) → Match (step day k s) (step day k' s)

-- and for any list of them.
abbrev pub LogsAgree : Type 0
LogsAgree = (day : ℕ) (k k' : State) → Agree k k' → (rs : List (List ℕ)) → log day k rs ≡ log day k' rs
