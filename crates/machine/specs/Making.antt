-- What single calls and declarations leave (document 01, "Records" and "The step"). Proved in proofs/Making.antt.
use Rattle.std.specs.Prelude.{None, Some, ◌≡◌, ◌≢◌, ◌⊎◌, Bool, true, false, List, ℕ, ◌+◌, ◌<◌}
use Rattle.calendar.specs.Times.{instant}
use Rattle.calendar.specs.declared.Instant.{Instant}
use Rattle.layout.specs.declared.Call.{Call}
use Rattle.layout.specs.declared.Head.{Head}
use Rattle.layout.specs.declared.Mark.TheVariants.{DT, DS, DB, IT, DC, AC, TE, SU, CO, EN, RE, TG, EI, XI}
use Rattle.lock.specs.Locks.{value_at, bolt_at}
use Rattle.lock.specs.declared.Wait.TheVariants.{Nothing}
use Rattle.schedule.specs.Schedules.{no_schedule}
use Rattle.task.specs.Turns.{delay_ends}
use Rattle.task.specs.Continuing.{HasNone, SameContinuation}
use Rattle.task.specs.declared.Hold.TheVariants.{Unheld, Suspended, Delayed}
use Rattle.task.specs.declared.Task.{Task}
use Rattle.machine.specs.declared.State.{State}
use Rattle.machine.specs.State.{task_at, place_at, enabled_at, begun_at}
use Rattle.machine.specs.Running.{runner}
use Rattle.machine.specs.Sorts.{declares}
use Rattle.machine.specs.Step.{plain_answer, step}
use Rattle.machine.specs.Invariants.{Tables}
use Rattle.machine.specs.Continuing.{Accepts, task_after}

-- ---- calls about one task t, which is u after them

-- Alive or not, unheld, waiting for nothing, with no start kept back.
pub record Clear (lives : Bool) (u : Task) : Type 0 where
  pub alive : u.alive ≡ lives
  pub hold : u.hold ≡ Unheld
  pub wait : u.wait ≡ Nothing
  pub kept : u.kept ≡ None

-- Schedule and continuation stay.
pub record SamePlans (t u : Task) : Type 0 where
  pub schedule : u.schedule ≡ t.schedule
  pub continuation : SameContinuation t u

-- A living task goes on with its plans and the start kept back.
pub record LivesOn (t u : Task) : Type 0 where
  pub alive : u.alive ≡ t.alive
  pub kept : u.kept ≡ t.kept
  pub plans : SamePlans t u

-- TERMINATE, and the end of the running task.
pub record TaskEnds (t u : Task) : Type 0 where
  pub plans : SamePlans t u
  pub ended : t.kept ≡ None → Clear false u × (u.current ≡ t.declared)
  -- a start kept back starts
  pub again : (p : ℕ) → t.kept ≡ Some p → Clear true u × (u.current ≡ p)

-- SUSPEND.
pub record Suspends (t u : Task) : Type 0 where
  pub hold : u.hold ≡ Suspended
  -- a delay is forgotten: no instant ends it
  pub undelayed : (n : Instant) → delay_ends n u.hold ≡ false
  pub current : u.current ≡ t.current
  -- its wait goes on, for the same list
  pub wait : (u.wait ≡ t.wait) × (u.len ≡ t.len) × (u.list ≡ t.list)
  pub rest : LivesOn t u

-- CONTINUE at once, with the priority p.
pub record Unholds (p : ℕ) (t u : Task) : Type 0 where
  pub hold : u.hold ≡ Unheld
  pub current : p ≡ 0 → u.current ≡ t.current
  pub given : p ≢ 0 → u.current ≡ p
  -- its wait goes on, unless the priority has it granted
  pub wait : (u.wait ≡ t.wait) ⊎ (u.wait ≡ Nothing)
  pub rest : LivesOn t u

-- RESUME at once: the running task is delayed until x.
pub record Delays (x : Instant) (t u : Task) : Type 0 where
  pub hold : u.hold ≡ Delayed x
  pub current : u.current ≡ t.current
  pub wait : u.wait ≡ Nothing
  pub rest : LivesOn t u

-- For every kernel that passes the test and any bytes that it accepts.
pub record CallsLeave : Type 0 where
  pub activate : (day : ℕ) (k : State) (s : List ℕ) (c : Call) → Accepts day k s c → c.head.mark ≡ AC → c.head.kind ≡ 0
      → let t = task_at k.tasks c.head.number in
      let u = task_after day k s c.head.number in
      (t.alive ≡ false) × Clear true u × SamePlans t u
  pub terminate : (day : ℕ) (k : State) (s : List ℕ) (c : Call) → Accepts day k s c → c.head.mark ≡ TE
      → TaskEnds (task_at k.tasks c.head.number) (task_after day k s c.head.number)
  pub end : (day : ℕ) (k : State) (s : List ℕ) (c : Call) (i : ℕ) → Accepts day k s c → c.head.mark ≡ EN → runner k ≡ Some i
      → TaskEnds (task_at k.tasks i) (task_after day k s i)
  pub suspend : (day : ℕ) (k : State) (s : List ℕ) (c : Call) → Accepts day k s c → c.head.mark ≡ SU
      → Suspends (task_at k.tasks c.head.number) (task_after day k s c.head.number)
  pub continue : (day : ℕ) (k : State) (s : List ℕ) (c : Call) → Accepts day k s c → c.head.mark ≡ CO → c.head.kind ≡ 0
      → Unholds c.head.priority (task_at k.tasks c.head.number) (task_after day k s c.head.number)
  pub resume : (day : ℕ) (k : State) (s : List ℕ) (c : Call) (i : ℕ) → Accepts day k s c → c.head.mark ≡ RE → c.head.kind ≡ 0
      → runner k ≡ Some i
      → Delays (instant (k.now.0 + c.head.first)) (task_at k.tasks i) (task_after day k s i)

-- ---- interrupts

-- What a call with the head h leaves of them: z is the kernel after it.
pub record Interrupts (k z : State) (h : Head) : Type 0 where
  pub enable : h.mark ≡ EI → enabled_at z h.number ≡ true
  pub disable : h.mark ≡ XI → enabled_at z h.number ≡ false
  pub others : (j : ℕ) → j ≢ h.number → enabled_at z j ≡ enabled_at k j
  -- no other call enables or disables one
  pub else : h.mark ≢ EI → h.mark ≢ XI → (j : ℕ) → enabled_at z j ≡ enabled_at k j

abbrev pub CallsEnable : Type 0
CallsEnable =
    (day : ℕ) (k : State) (s : List ℕ) (c : Call) → Tables k → Accepts day k s c → declares c.head.mark ≡ false
    → Interrupts k (step day k s).state c.head

-- TRIGGER of a disabled one changes nothing, but that a call was accepted.
abbrev pub DisabledIsIdle : Type 0
DisabledIsIdle =
    (day : ℕ) (k : State) (s : List ℕ) (c : Call) → Tables k → Accepts day k s c → c.head.mark ≡ TG
    → enabled_at k c.head.number ≡ false
    → step day k s ≡ record { state = begun_at k.now k; answer = plain_answer 0 (runner k) }

-- ---- declarations

-- A task that was just declared, with the priority p.
pub record IsFresh (p : ℕ) (t : Task) : Type 0 where
  pub clear : Clear false t
  pub declared : t.declared ≡ p
  pub current : t.current ≡ p
  pub schedule : t.schedule ≡ no_schedule
  pub continuation : HasNone t

-- All that k has declared is in z as it was.
pub record KeepsDeclared (k z : State) : Type 0 where
  pub tasks : (i : ℕ) → i < k.counts.tasks → task_at z.tasks i ≡ task_at k.tasks i
  pub places : (i : ℕ) → i < k.counts.tasks → place_at z.places i ≡ place_at k.places i
  pub semaphores : (x : ℕ) → x < k.counts.semaphores → value_at z.locks x ≡ value_at k.locks x
  pub bolts : (x : ℕ) → x < k.counts.bolts → bolt_at z.locks x ≡ bolt_at k.locks x
  pub interrupts : (i : ℕ) → i < k.counts.interrupts → enabled_at z i ≡ enabled_at k i
  pub now : z.now ≡ k.now
  pub begun : z.begun ≡ k.begun

-- What a declaration with the head h leaves: the next place of its kind is filled whole, whatever stood there.
pub record Declares (k z : State) (h : Head) : Type 0 where
  pub task : h.mark ≡ DT → (z.counts.tasks ≡ k.counts.tasks + 1) × IsFresh h.priority (task_at z.tasks k.counts.tasks)
  pub semaphore : h.mark ≡ DS → (z.counts.semaphores ≡ k.counts.semaphores + 1) × (value_at z.locks k.counts.semaphores ≡ h.first)
  pub bolt : h.mark ≡ DB → let b = bolt_at z.locks k.counts.bolts in
      (z.counts.bolts ≡ k.counts.bolts + 1) × (b.writer ≡ false) × (b.readers ≡ 0)
  pub interrupt : h.mark ≡ IT → (z.counts.interrupts ≡ k.counts.interrupts + 1) × (enabled_at z k.counts.interrupts ≡ false)
  pub clock : h.mark ≡ DC → z.clock ≡ h.first
  -- the other kinds have as many as before, and the clock is as it was
  pub tasks : h.mark ≢ DT → z.counts.tasks ≡ k.counts.tasks
  pub semaphores : h.mark ≢ DS → z.counts.semaphores ≡ k.counts.semaphores
  pub bolts : h.mark ≢ DB → z.counts.bolts ≡ k.counts.bolts
  pub interrupts : h.mark ≢ IT → z.counts.interrupts ≡ k.counts.interrupts
  pub unset : h.mark ≢ DC → z.clock ≡ k.clock
  pub keeps : KeepsDeclared k z

abbrev pub DeclarationsFill : Type 0
DeclarationsFill =
    (day : ℕ) (k : State) (s : List ℕ) (c : Call) → Tables k → Accepts day k s c → declares c.head.mark ≡ true
    → Declares k (step day k s).state c.head
