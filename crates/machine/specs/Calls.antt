-- What accepted declarations and calls do (document 01, "Records" and "The step").
use Rattle.std.specs.Prelude.{Bool, true, false, cond, List, ℕ, ◌+◌, set}
use Rattle.calendar.specs.Limits.{tick}
use Rattle.calendar.specs.Times.{duration, plus}
use Rattle.calendar.specs.Moments.{instant_or}
use Rattle.calendar.specs.declared.Instant.{Instant}
use Rattle.layout.specs.declared.Head.{Head}
use Rattle.layout.specs.Marks.{is}
use Rattle.layout.specs.declared.Call.{Call}
use Rattle.layout.specs.declared.Mark.{Mark}
use Rattle.layout.specs.declared.Mark.TheVariants.{DT, DS, DB, IT, DC, AC, TE, SU, PR, RE, TG, EI, SL}
use Rattle.record.specs.Refusals.{named}
use Rattle.lock.specs.Locks.{empty_bolt, with_value, with_bolt, take_all, give_all}
use Rattle.lock.specs.declared.Locks.{Locks}
use Rattle.lock.specs.declared.Wait.{Wait}
use Rattle.task.specs.State.{wait_for}
use Rattle.task.specs.Turns.{end_turn, prevent_turn, suspend_turn, tick_turn, trigger_turn}
use Rattle.task.specs.declared.Task.{Task}
use Rattle.task.specs.declared.Turn.{Turn}
use Rattle.machine.specs.declared.State.{State}
use Rattle.machine.specs.declared.Change.{Change}
use Rattle.machine.specs.declared.Sort.{Sort}
use Rattle.machine.specs.declared.Sort.TheVariants.{Declaration, OneTask, TheRunner, ListAsked, ListGiven, AnInterrupt, EveryTask}
use Rattle.machine.specs.State.{task_at, enabled_at, fresh_task, with_state, with_places, with_counts, with_clock}
use Rattle.machine.specs.Sorts.{sort_of, task_of}
use Rattle.machine.specs.Activation.{activate_by, continue_by, resume_by}
use Rattle.machine.specs.Running.{runner}
use Rattle.machine.specs.NextEvent.{next_event}
use Rattle.machine.specs.Granting.{could_be_granted}
use Rattle.machine.specs.Work.{Work, by_turn, by_locks, changed, only_enabled, every_turn}

-- ---- declarations: the next place of the kind is filled whole

-- A task's first place is its number.
unfoldable pub add_task : ℕ → State → State
add_task p k =
    let n = k.counts in
    with_counts
    (record { tasks = n.tasks + 1; semaphores = n.semaphores; bolts = n.bolts; interrupts = n.interrupts })
    (with_places (set k.places n.tasks n.tasks)
    (with_state (set k.tasks n.tasks (fresh_task p)) k.locks k.enabled k))

unfoldable pub add_semaphore : ℕ → State → State
add_semaphore v k =
    let n = k.counts in
    with_counts
    (record { tasks = n.tasks; semaphores = n.semaphores + 1; bolts = n.bolts; interrupts = n.interrupts })
    (with_state k.tasks (with_value k.locks n.semaphores v) k.enabled k)

unfoldable pub add_bolt : State → State
add_bolt k =
    let n = k.counts in
    with_counts
    (record { tasks = n.tasks; semaphores = n.semaphores; bolts = n.bolts + 1; interrupts = n.interrupts })
    (with_state k.tasks (with_bolt k.locks n.bolts empty_bolt) k.enabled k)

unfoldable pub add_interrupt : State → State
add_interrupt k =
    let n = k.counts in
    with_counts
    (record { tasks = n.tasks; semaphores = n.semaphores; bolts = n.bolts; interrupts = n.interrupts + 1 })
    (with_state k.tasks k.locks (set k.enabled n.interrupts false) k)

-- What a declaration leaves; of the times of day at instant 0 the last given holds.
unfoldable pub declaration : Mark → Call → State → State
declaration m c k =
    cond (is m DT) (add_task c.head.priority k)
    (cond (is m DS) (add_semaphore c.head.first k)
    (cond (is m DB) (add_bolt k)
    (cond (is m IT) (add_interrupt k)
    (cond (is m DC) (with_clock c.head.first k) k))))

-- ---- one task and the locks

module _ (day clock : ℕ) (n : Instant) where
  -- AC, TE, SU, PR and CO: the turn of the task that they name.
  unfoldable pub named_turn : Mark → Head → Task → Turn
  named_turn m h t =
      cond (is m AC) (activate_by day clock n h t)
      (cond (is m TE) (end_turn t)
      (cond (is m SU) (suspend_turn t) (cond (is m PR) (prevent_turn t) (continue_by day clock n h t))))

  -- EN and RE: the running task's turn.
  unfoldable pub runner_turn : Mark → Head → Task → Turn
  runner_turn m h t = cond (is m RE) (resume_by day clock n h t) (end_turn t)

module _ (count : ℕ) (ts : List Task) where
  -- The running task t asks for a list: it is granted whole, or the task waits; a TRY doesn't wait.
  unfoldable pub ask_for : Wait → Bool → Call → Task → Locks → Change
  ask_for w waits c t l =
      cond (could_be_granted count ts l t.current w (named c)) (by_locks t (take_all w l (named c)) true)
      (cond waits (by_locks (wait_for w c.head.len c.list t) l false) (by_locks t l false))

  -- What a call does to the task that it is about and to the locks. The other sorts aren't about one task.
  unfoldable pub change_of : ℕ → Sort → Call → ℕ → Instant → Task → Locks → Change
  change_of day Declaration c clock n t l = by_locks t l false
  change_of day OneTask c clock n t l = by_turn l (named_turn day clock n c.head.mark c.head t)
  change_of day TheRunner c clock n t l = by_turn l (runner_turn day clock n c.head.mark c.head t)
  change_of day (ListAsked w waits) c clock n t l = ask_for w waits c t l
  change_of day (ListGiven w) c clock n t l = by_locks t (give_all w l (named c)) false
  change_of day AnInterrupt c clock n t l = by_locks t l false
  change_of day EveryTask c clock n t l = by_locks t l false

abbrev pub change_in : ℕ → Sort → State → Call → Work
change_in day s k c =
    let i = task_of s c.head (runner k) in
    changed k i (change_of k.counts.tasks k.tasks day s c k.clock k.now (task_at k.tasks i) k.locks)

-- ---- interrupts

-- TRIGGER of interrupt i. A disabled one changes nothing.
unfoldable pub trigger_in : ℕ → State → ℕ → Work
trigger_in day k i =
    cond (enabled_at k i) (every_turn k k.now (trigger_turn day k.clock k.now i)) (only_enabled k k.enabled)

-- ENABLE and DISABLE.
abbrev pub enable_in : State → ℕ → Bool → Work
enable_in k i b = only_enabled k (set k.enabled i b)

-- TG, EI, XI.
unfoldable pub interrupt_by : ℕ → Mark → State → ℕ → Work
interrupt_by day m k i = cond (is m TG) (trigger_in day k i) (enable_in k i (is m EI))

-- ---- time

-- At n, which becomes the present instant, each declared task has its turn.
unfoldable pub arrive : State → Instant → Work
arrive k n = every_turn k n (tick_turn n)

-- Where TI and SL arrive: one tick later, or at the next event.
unfoldable pub arrival : Mark → State → Instant
arrival m k = cond (is m SL) (instant_or k.now (next_event k)) (plus k.now (duration tick))

-- ---- all sorts

-- What an accepted call does. A declaration is none.
unfoldable pub work_by : ℕ → Sort → State → Call → Work
work_by day Declaration k c = only_enabled k k.enabled
work_by day OneTask k c = change_in day OneTask k c
work_by day TheRunner k c = change_in day TheRunner k c
work_by day (ListAsked w b) k c = change_in day (ListAsked w b) k c
work_by day (ListGiven w) k c = change_in day (ListGiven w) k c
work_by day AnInterrupt k c = interrupt_by day c.head.mark k c.head.number
work_by day EveryTask k c = arrive k (arrival c.head.mark k)

abbrev pub work_of : ℕ → State → Call → Work
work_of day k c = work_by day (sort_of c.head.mark) k c
