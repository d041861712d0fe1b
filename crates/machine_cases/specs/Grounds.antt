-- Each ground of refusal 1 alone: a kernel at the limit takes a tick, its neighbour is refused with 1. The grounds about
-- places stand in TurnCases. Proved in proofs/Grounds.antt.
use Rattle.std.specs.Prelude.{None, Some, ◌≡◌, Bool, true, false, List, [], ◌∷◌, ◌++◌, ℕ, zero, suc, ◌+◌, ◌^◌, length, set}
use Rattle.calendar.specs.Limits.{day_length}
use Rattle.calendar.specs.Times.{instant, duration}
use Rattle.calendar.specs.declared.End.{End}
use Rattle.calendar.specs.declared.End.TheVariants.{Open, Until, During}
use Rattle.calendar.specs.Moments.{Moment}
use Rattle.lock.specs.Locks.{empty_bolt, with_value, with_bolt}
use Rattle.lock.specs.declared.Locks.{Locks}
use Rattle.lock.specs.declared.Wait.{Wait}
use Rattle.lock.specs.declared.Wait.TheVariants.{Request, Reserve, Enter}
use Rattle.schedule.specs.Alarms.{set_for, armed, set_off}
use Rattle.schedule.specs.declared.Alarm.{Alarm}
use Rattle.task.specs.State.{with_current, with_alive, with_kept, with_hold, with_schedule, with_continuation, wait_for}
use Rattle.task.specs.declared.Hold.TheVariants.{Suspended, Delayed}
use Rattle.task.specs.declared.Task.{Task}
use Rattle.machine.specs.declared.State.{State}
use Rattle.machine.specs.declared.Answer.{Answer}
use Rattle.machine.specs.State.{task_at, fresh_task, with_state, with_clock, with_file, begun_at}
use Rattle.machine.specs.NextEvent.{file_of}
use Rattle.machine.specs.Step.{plain_answer, step}
use Rattle.machine.specs.Scripts.{row, declare_task, declare_semaphore, declare_bolt, declare_interrupt, activate, request, reserve, one_tick}
use Rattle.machine_cases.specs.Marked.{after, quiet}

-- ---- a kernel and its neighbour

-- The answer to a tick, with what the rules give on file.
abbrev pub ticked : State → Answer
ticked k = (step day_length (with_file (file_of k) k) one_tick).answer

-- With a in its place a kernel takes a tick; with b it is refused with 1.
abbrev pub Limit : {A : Type 0} → (A → State) → A → A → Type 0
Limit f a b = ((ticked (f a)).number ≡ 0) × (ticked (f b) ≡ plain_answer 1 None)

-- ---- the kernels

-- Task 0 has reserved bolt 0 and waits for semaphore 0. Task 1 is terminated. There are 5 semaphores at 0, 2 bolts and an
-- interrupt.
abbrev pub waits : State
waits =
    after
    (declare_task 5 ∷ declare_task 5 ∷ row 5 (declare_semaphore 0) ++ declare_bolt ∷ declare_bolt ∷ declare_interrupt
    ∷ activate 0 ∷ reserve (0 ∷ []) ∷ request (0 ∷ []) ∷ [])

abbrev pub with_task : ℕ → (Task → Task) → State → State
with_task i f k = with_state (set k.tasks i (f (task_at k.tasks i))) k.locks k.enabled k

abbrev pub with_locks : (Locks → Locks) → State → State
with_locks f k = with_state k.tasks (f k.locks) k.enabled k

abbrev pub with_declared : ℕ → Task → Task
with_declared p t =
    record {
      declared = p;
      current = t.current;
      alive = t.alive;
      kept = t.kept;
      wait = t.wait;
      len = t.len;
      list = t.list;
      given = t.given;
      resumed = t.resumed;
      hold = t.hold;
      schedule = t.schedule;
      continuation = t.continuation;
    }

-- The numbers below n, in order.
unfoldable pub numbers_to : ℕ → List ℕ
numbers_to zero = []
numbers_to (suc n) = numbers_to n ++ n ∷ []

-- So many tasks, semaphores, bolts and interrupts are declared, in tables of these lengths.
abbrev pub declaring : ℕ → ℕ → ℕ → ℕ → State
declaring t s b i =
    record {
      tasks = row t (fresh_task 5);
      places = numbers_to t;
      locks = record { semaphores = row s 0; bolts = row b empty_bolt };
      enabled = row i false;
      counts = record { tasks = t; semaphores = s; bolts = b; interrupts = i };
      clock = 0;
      now = instant 0;
      begun = false;
      file = record { running = None; next = None };
    }

-- Task 0 waits for a list of a kind.
abbrev pub waiting_for : Wait → List ℕ → State
waiting_for w l = with_task 0 (wait_for w (length l) l) waits

-- Task 1, terminated or not, with a change.
abbrev pub second : (Task → Task) → Bool → State
second f alive = with_task 1 (λ t. with_alive alive (f t)) waits

-- It has a schedule: alarm, last allowed due, end, period and priority.
abbrev pub scheduled : Alarm → Moment → End → ℕ → ℕ → State
scheduled a m e p q =
    with_task 1 (with_schedule (record { alarm = a; last = m; end = e; period = p; priority = q })) waits

-- It has a continuation: alarm and priority.
abbrev pub continuation : Alarm → ℕ → State
continuation a p = with_task 1 (with_continuation a p false) waits

-- Due at instant 9.
abbrev pub soon : Alarm
soon = set_for (instant 9)

pub record GroundCases : Type 0 where
  -- ---- counts, instant and time of day
  pub most_tasks_law : Limit (λ n. declaring n 0 0 0) 32 33
  pub most_semaphores_law : Limit (λ n. declaring 0 n 0 0) 16 17
  pub most_bolts_law : Limit (λ n. declaring 0 0 n 0) 16 17
  pub most_interrupts_law : Limit (λ n. declaring 0 0 0 n) 8 9
  -- At 2^40 a tick is refused with 15.
  pub last_tick : ticked (begun_at (instant (2 ^ 40)) waits) ≡ plain_answer 15 None
  pub instant_beyond : ticked (begun_at (instant (2 ^ 40 + 1)) waits) ≡ plain_answer 1 None
  pub clock : Limit (λ t. with_clock t waits) 86399999 86400000
  -- ---- semaphores and bolts
  pub value : Limit (λ v. with_locks (λ r. with_value r 1 v) waits) 65535 65536
  pub readers : Limit (λ n. with_locks (λ r. with_bolt r 1 (record { writer = false; readers = n })) waits) 65535 65536
  -- ---- priorities
  pub least_declared : Limit (λ p. with_task 1 (with_declared p) waits) 1 0
  pub most_declared : Limit (λ p. with_task 1 (with_declared p) waits) 255 256
  pub least_current : Limit (λ p. with_task 1 (with_current p) waits) 1 0
  pub most_current : Limit (λ p. with_task 1 (with_current p) waits) 255 256
  pub least_kept : Limit (λ p. with_task 0 (with_kept (Some p)) waits) 1 0
  pub most_kept : Limit (λ p. with_task 0 (with_kept (Some p)) waits) 255 256
  -- ---- holds
  pub delayed : Limit (λ n. with_task 0 (with_hold (Delayed (instant n))) waits) (2 ^ 42) (2 ^ 42 + 1)
  -- ---- a terminated task
  pub dead_waits : Limit (second (wait_for Request 1 (0 ∷ []))) true false
  pub dead_suspended : Limit (second (with_hold Suspended)) true false
  pub dead_delayed : Limit (second (with_hold (Delayed (instant 9)))) true false
  pub dead_kept : Limit (second (with_kept (Some 5))) true false
  -- ---- lists
  pub empty_list : Limit (waiting_for Request) (0 ∷ []) []
  pub five_numbers : Limit (waiting_for Request) (0 ∷ 1 ∷ 2 ∷ 3 ∷ []) (0 ∷ 1 ∷ 2 ∷ 3 ∷ 4 ∷ [])
  pub repeated : Limit (waiting_for Request) (0 ∷ 1 ∷ []) (0 ∷ 0 ∷ [])
  pub no_semaphore : Limit (waiting_for Request) (0 ∷ 4 ∷ []) (0 ∷ 5 ∷ [])
  pub no_bolt : Limit (waiting_for Reserve) (0 ∷ 1 ∷ []) (0 ∷ 2 ∷ [])
  pub no_bolt_to_enter : Limit (waiting_for Enter) (0 ∷ 1 ∷ []) (0 ∷ 2 ∷ [])
  pub grantable_request : Limit (λ v. with_locks (λ r. with_value r 0 v) waits) 0 1
  pub grantable_reserve : Limit (waiting_for Reserve) (0 ∷ []) (1 ∷ [])
  pub grantable_enter : Limit (waiting_for Enter) (0 ∷ []) (1 ∷ [])
  -- ---- a schedule
  pub least_priority : Limit (scheduled soon None Open 0) 1 0
  pub most_priority_law : Limit (scheduled soon None Open 0) 255 256
  pub period : Limit (λ p. scheduled soon None Open p 5) 1000000000 1000000001
  pub until : Limit (λ t. scheduled soon None (Until t) 1 5) 86399999 86400000
  pub least_during : Limit (λ d. scheduled soon None (During (duration d)) 1 5) 1 0
  pub most_during : Limit (λ d. scheduled soon None (During (duration d)) 1 5) 1000000000 1000000001
  pub next : Limit (λ n. scheduled (set_for (instant n)) None Open 0 5) (2 ^ 42) (2 ^ 42 + 1)
  pub triggered_next : Limit (λ n. scheduled (set_off (instant n) (armed 0 (duration 0))) None Open 0 5) (2 ^ 42) (2 ^ 42 + 1)
  pub last : Limit (λ n. scheduled soon (Some (instant n)) Open 1 5) (2 ^ 42) (2 ^ 42 + 1)
  pub interrupt : Limit (λ i. scheduled (armed i (duration 0)) None Open 0 5) 0 1
  pub triggered_interrupt : Limit (λ i. scheduled (set_off (instant 9) (armed i (duration 0))) None Open 0 5) 0 1
  pub delay : Limit (λ d. scheduled (armed 0 (duration d)) None Open 0 5) 1000000000 1000000001
  -- ---- a continuation
  pub given : Limit (continuation soon) 255 256
  pub given_none : ticked (continuation soon 0) ≡ quiet None
  pub continued_next : Limit (λ n. continuation (set_for (instant n)) 5) (2 ^ 42) (2 ^ 42 + 1)
  pub continued_interrupt : Limit (λ i. continuation (armed i (duration 0)) 5) 0 1
  pub continued_delay : Limit (λ d. continuation (armed 0 (duration d)) 5) 1000000000 1000000001
  -- ---- beyond the counts nothing is looked at: a third task, a sixth semaphore, a third bolt
  pub undeclared_task : ticked (with_task 2 (with_declared 256) waits) ≡ quiet None
  pub undeclared_value : ticked (with_locks (λ r. with_value r 5 65536) waits) ≡ quiet None
  pub undeclared_readers : ticked (with_locks (λ r. with_bolt r 2 (record { writer = false; readers = 65536 })) waits) ≡ quiet None
