-- What a kernel holds, and what refusal 1 asks of it: one claim for each sentence of document 01, with its figures. Places
-- beyond the counts aren't looked at. Proved in proofs/Limits.antt.
use Rattle.std.specs.Prelude.{None, Some, ◌≡◌, ◌≢◌, ◌⊎◌, true, false, List, ℕ, ◌≤◌, ◌<◌, ◌^◌, length, get_or}
use Rattle.calendar.specs.Limits.{day_length}
use Rattle.calendar.specs.declared.Instant.{Instant}
use Rattle.calendar.specs.declared.Duration.{Duration}
use Rattle.calendar.specs.declared.End.TheVariants.{Until, During}
use Rattle.lock.specs.Locks.{value_at, bolt_at}
use Rattle.lock.specs.declared.Wait.TheVariants.{Nothing, Request, Reserve, Enter}
use Rattle.schedule.specs.declared.Plan.{Plan}
use Rattle.schedule.specs.declared.Plan.TheVariants.{Clock, Armed, Triggered}
use Rattle.schedule.specs.declared.Alarm.{Alarm}
use Rattle.schedule.specs.declared.Schedule.{Schedule}
use Rattle.task.specs.State.{wanted}
use Rattle.task.specs.declared.Hold.TheVariants.{Unheld, Delayed}
use Rattle.task.specs.declared.Task.{Task}
use Rattle.machine.specs.declared.Counts.{Counts}
use Rattle.machine.specs.declared.State.{State}
use Rattle.machine.specs.Sets.{no_sets}
use Rattle.machine.specs.State.{task_at, place_at}
use Rattle.machine.specs.Granting.{could_be_granted}
use Rattle.machine.specs.Test.{valid}
use Rattle.machine.specs.Step.{step}

-- ---- one task

-- The list of a wait, of a kind of which m are declared.
pub record ListLimits (m len : ℕ) (l : List ℕ) : Type 0 where
  -- one to four numbers
  pub some : 1 ≤ len
  pub most : len ≤ 4
  -- none twice
  pub once : (a b : ℕ) → a < length l → b < length l → get_or l a 0 ≡ get_or l b 0 → a ≡ b
  -- each declared
  pub declared : (a : ℕ) → a < length l → get_or l a 0 < m

-- An alarm, with ni interrupts declared.
pub record AlarmLimits (ni : ℕ) (a : Alarm) : Type 0 where
  -- what is to come is at most at 2^42
  pub next : (a.plan ≡ Clock) ⊎ (a.plan ≡ Triggered) → a.next.0 ≤ 2 ^ 42
  -- a WHEN has a declared interrupt and a delay of at most 1,000,000,000
  pub interrupt : (a.plan ≡ Armed) ⊎ (a.plan ≡ Triggered) → a.interrupt < ni
  pub delay : (a.plan ≡ Armed) ⊎ (a.plan ≡ Triggered) → a.delay.0 ≤ 1000000000

-- A schedule that there is.
pub record ScheduleLimits (ni : ℕ) (s : Schedule) : Type 0 where
  pub alarm : AlarmLimits ni s.alarm
  pub priority : (1 ≤ s.priority) × (s.priority ≤ 255)
  pub period : s.period ≤ 1000000000
  pub until : (t : ℕ) → s.end ≡ Until t → t ≤ 86399999
  pub during : (d : Duration) → s.end ≡ During d → (1 ≤ d.0) × (d.0 ≤ 1000000000)
  -- while one is to come, the last allowed is at most at 2^42
  pub last : (n : Instant) → s.last ≡ Some n → (s.alarm.plan ≡ Clock) ⊎ (s.alarm.plan ≡ Triggered) → n.0 ≤ 2 ^ 42

-- A continuation that there is, and the priority that it gives, or 0.
pub record ContinuationLimits (ni : ℕ) (a : Alarm) (p : ℕ) : Type 0 where
  pub alarm : AlarmLimits ni a
  pub priority : p ≤ 255

-- A terminated task.
pub record AtRest (t : Task) : Type 0 where
  pub wait : t.wait ≡ Nothing
  pub hold : t.hold ≡ Unheld
  pub kept : t.kept ≡ None

pub record TaskLimits (n : Counts) (t : Task) : Type 0 where
  pub declared : (1 ≤ t.declared) × (t.declared ≤ 255)
  pub current : (1 ≤ t.current) × (t.current ≤ 255)
  pub terminated : t.alive ≡ false → AtRest t
  pub request : t.wait ≡ Request → ListLimits n.semaphores t.len (wanted t)
  pub reserve : t.wait ≡ Reserve → ListLimits n.bolts t.len (wanted t)
  pub enter : t.wait ≡ Enter → ListLimits n.bolts t.len (wanted t)
  pub delayed : (m : Instant) → t.hold ≡ Delayed m → m.0 ≤ 2 ^ 42
  pub kept : (p : ℕ) → t.kept ≡ Some p → (1 ≤ p) × (p ≤ 255)
  pub schedule : t.schedule.alarm.plan ≢ Plan.None → ScheduleLimits n.interrupts t.schedule
  pub continuation : t.continuation.plan ≢ Plan.None → ContinuationLimits n.interrupts t.continuation t.given

-- ---- the kernel

pub record Limits (k : State) : Type 0 where
  pub tasks : k.counts.tasks ≤ 32
  pub semaphores : k.counts.semaphores ≤ 16
  pub bolts : k.counts.bolts ≤ 16
  pub interrupts : k.counts.interrupts ≤ 8
  pub now : k.now.0 ≤ 2 ^ 40
  pub clock : k.clock ≤ 86399999
  pub each : (i : ℕ) → i < k.counts.tasks → TaskLimits k.counts (task_at k.tasks i)
  pub values : (s : ℕ) → s < k.counts.semaphores → value_at k.locks s ≤ 65535
  pub readers : (b : ℕ) → b < k.counts.bolts → (bolt_at k.locks b).readers ≤ 65535
  -- each task has a place of its own, below their count
  pub places : (i : ℕ) → i < k.counts.tasks → place_at k.places i < k.counts.tasks
  pub apart : (i j : ℕ) → i < k.counts.tasks → j < k.counts.tasks → place_at k.places i ≡ place_at k.places j → i ≡ j
  -- nobody waits on a list that could be granted
  pub stuck : (i : ℕ) → i < k.counts.tasks → (task_at k.tasks i).wait ≢ Nothing
      → could_be_granted k.counts.tasks k.tasks k.locks (task_at k.tasks i).current (task_at k.tasks i).wait (wanted (task_at k.tasks i))
      ≡ false

-- What passes the kernel test keeps the limits,
abbrev pub TestedIsWithin : Type 0
TestedIsWithin = (k : State) → valid day_length k ≡ true → Limits k

-- and whatever keeps them passes: refusal 1 has no other ground.
abbrev pub WithinPasses : Type 0
WithinPasses = (k : State) → Limits k → valid day_length k ≡ true

-- A kernel outside of one of them is refused with 1 whatever the bytes, and no task runs.
abbrev pub OutsideIsRefused : Type 0
OutsideIsRefused =
    (k : State) (s : List ℕ) → ¬ (Limits k)
    → step day_length k s
    ≡ record { state = k; answer = record { number = 1; running = None; sets = no_sets } }
