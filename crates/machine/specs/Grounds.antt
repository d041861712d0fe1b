-- When each of the numbers 5, 7 to 15 and 17 is given: the sentences of document 01, "Refusals, in checking order", mark by
-- mark and with its figures. Proved in proofs/Grounds.antt and proofs/Numbers.antt.
use Rattle.std.specs.Prelude.{None, Some, ◌≡◌, ◌≢◌, ◌⊎◌, ◌↔◌, true, false, ◌&&◌, List, ℕ, ◌≤◌, ◌<◌}
use Rattle.calendar.specs.declared.Instant.{Instant}
use Rattle.lists.specs.Lists.{names}
use Rattle.layout.specs.declared.Call.{Call}
use Rattle.layout.specs.declared.Mark.{Mark}
use Rattle.layout.specs.declared.Mark.TheVariants.{DT, DS, DB, IT, DC, AC, TE, SU, PR, CO, EN, RE, RQ, RL, TR, RS, FR, ET, LV, TG, EI, XI, TI, SL}
use Rattle.record.specs.Refusals.{named, shape, refusal}
use Rattle.record.specs.Reading.{accepted, opened}
use Rattle.lock.specs.Locks.{value_at, bolt_at}
use Rattle.task.specs.declared.Hold.TheVariants.{Unheld, Suspended, Delayed}
use Rattle.task.specs.declared.Task.{Task}
use Rattle.machine.specs.declared.Counts.{Counts}
use Rattle.machine.specs.declared.State.{State}
use Rattle.machine.specs.State.{task_at}
use Rattle.machine.specs.Running.{runner}
use Rattle.machine.specs.NextEvent.{next_event}
use Rattle.machine.specs.Test.{kernel_refusal}
use Rattle.machine.specs.Sorts.{declares}
use Rattle.machine.specs.Refusals.{formal_refusal, state_refusal}
use Rattle.machine.specs.Step.{step}

-- ---- 5: what a call names is not declared

-- Its task isn't.
abbrev pub NoTask : Counts → Call → Type 0
NoTask n c = n.tasks ≤ c.head.number

-- Its interrupt isn't.
abbrev pub NoInterrupt : Counts → Call → Type 0
NoInterrupt n c = n.interrupts ≤ c.head.number

-- It starts with an interrupt, in kind 3 or 4, and that one isn't.
abbrev pub NoStart : Counts → Call → Type 0
NoStart n c = ((c.head.kind ≡ 3) ⊎ (c.head.kind ≡ 4)) × (n.interrupts ≤ c.head.interrupt)

-- Its list names one that isn't, where so many are.
abbrev pub NotAll : ℕ → Call → Type 0
NotAll most c = (x : ℕ) × (names (named c) x ≡ true) × (most ≤ x)

-- By what each mark names. A declaration, EN, TI and SL name nothing.
abbrev pub Undeclared : Mark → Counts → Call → Type 0
Undeclared DT n c = ⊥
Undeclared DS n c = ⊥
Undeclared DB n c = ⊥
Undeclared IT n c = ⊥
Undeclared DC n c = ⊥
Undeclared AC n c = NoTask n c ⊎ NoStart n c
Undeclared TE n c = NoTask n c
Undeclared SU n c = NoTask n c
Undeclared PR n c = NoTask n c
Undeclared CO n c = NoTask n c ⊎ NoStart n c
Undeclared EN n c = ⊥
Undeclared RE n c = NoStart n c
Undeclared RQ n c = NotAll n.semaphores c
Undeclared RL n c = NotAll n.semaphores c
Undeclared TR n c = NotAll n.semaphores c
Undeclared RS n c = NotAll n.bolts c
Undeclared FR n c = NotAll n.bolts c
Undeclared ET n c = NotAll n.bolts c
Undeclared LV n c = NotAll n.bolts c
Undeclared TG n c = NoInterrupt n c
Undeclared EI n c = NoInterrupt n c
Undeclared XI n c = NoInterrupt n c
Undeclared TI n c = ⊥
Undeclared SL n c = ⊥

-- ---- 7: a declaration finds its kind full

-- A time of day has room always.
pub data Full (n : Counts) : Mark → Type 0 where
  tasks : n.tasks ≡ 32 → Full n DT
  semaphores : n.semaphores ≡ 16 → Full n DS
  bolts : n.bolts ≡ 16 → Full n DB
  interrupts : n.interrupts ≡ 8 → Full n IT

-- ---- 8 to 15 and 17: what the state has against a call

-- EN, RE and the calls with a list.
pub data OfRunner : Mark → Type 0 where
  end : OfRunner EN
  resume : OfRunner RE
  request : OfRunner RQ
  release : OfRunner RL
  try : OfRunner TR
  reserve : OfRunner RS
  free : OfRunner FR
  enter : OfRunner ET
  leave : OfRunner LV

-- The task that a call names.
abbrev pub its_task : State → Call → Task
its_task k c = task_at k.tasks c.head.number

-- The ground of a number for a call c with a mark, in kernel k. Each leaves out those of the numbers before it.
pub data Ground (k : State) (c : Call) : Mark → ℕ → Type 0 where
  nobody_runs : (m : Mark) → OfRunner m → runner k ≡ None → Ground k c m 8
  activate_alive : c.head.kind ≡ 0 → (its_task k c).alive ≡ true → Ground k c AC 9
  terminate_terminated : (its_task k c).alive ≡ false → Ground k c TE 10
  suspend_terminated : (its_task k c).alive ≡ false → Ground k c SU 10
  continue_terminated : c.head.kind ≡ 0 → (its_task k c).alive ≡ false → Ground k c CO 10
  suspend_suspended : (its_task k c).alive ≡ true → (its_task k c).hold ≡ Suspended → Ground k c SU 11
  continue_unheld : c.head.kind ≡ 0 → (its_task k c).alive ≡ true → (its_task k c).hold ≡ Unheld → Ground k c CO 12
  release_full : (i : ℕ) → runner k ≡ Some i → (x : ℕ) → names (named c) x ≡ true → value_at k.locks x ≡ 65535
      → Ground k c RL 13
  free_unwritten : (i : ℕ) → runner k ≡ Some i → (x : ℕ) → names (named c) x ≡ true → (bolt_at k.locks x).writer ≡ false
      → Ground k c FR 14
  leave_unread : (i : ℕ) → runner k ≡ Some i → (x : ℕ) → names (named c) x ≡ true → (bolt_at k.locks x).readers ≡ 0
      → Ground k c LV 14
  tick_at_last : k.now.0 ≡ 1099511627776 → Ground k c TI 15
  sleep_for_nothing : next_event k ≡ None → Ground k c SL 17
  sleep_too_far : (n : Instant) → next_event k ≡ Some n → 1099511627776 < n.0 → Ground k c SL 17

-- ---- the step

-- The machine's number for bytes that open to c, where the numbers before aren't given: no declaration after an accepted
-- call, then no 3 or 4, no 6, and no number up to 7.
pub record Grounds (day : ℕ) (k : State) (s : List ℕ) (c : Call) : Type 0 where
  pub five : (k.begun && declares c.head.mark) ≡ false → shape c ≡ 0
      → ((step day k s).answer.number ≡ 5) ↔ Undeclared c.head.mark k.counts c
  pub seven : (k.begun && declares c.head.mark) ≡ false → refusal day c ≡ 0
      → ((step day k s).answer.number ≡ 7) ↔ Full k.counts c.head.mark
  pub further : formal_refusal day k.counts k.begun c ≡ 0
      → (n : ℕ) → n ≢ 0 → ((step day k s).answer.number ≡ n) ↔ Ground k c c.head.mark n

abbrev pub RefusalsHaveGrounds : Type 0
RefusalsHaveGrounds =
    (day : ℕ) (k : State) (s : List ℕ) (c : Call) → kernel_refusal day k ≡ 0 → opened s ≡ accepted c → Grounds day k s c

-- A delayed task can be suspended.
abbrev pub DelayedIsSuspended : Type 0
DelayedIsSuspended =
    (k : State) (c : Call) (n : Instant) → (its_task k c).alive ≡ true → (its_task k c).hold ≡ Delayed n
    → state_refusal SU k c ≡ 0
