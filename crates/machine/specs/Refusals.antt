-- Refusals 2 to 15 and 17, first ground first (document 01, "Refusals, in checking order").
use Rattle.std.specs.Prelude.{Err, Ok, Bool, true, not, ◌&&◌, ◌||◌, List, ℕ, ltb, eqb}
use Rattle.calendar.specs.Limits.{last_instant}
use Rattle.calendar.specs.Moments.{comes_by, Moment}
use Rattle.calendar.specs.declared.Instant.{Instant}
use Rattle.layout.specs.Marks.{is}
use Rattle.record.specs.Refusals.{on_interrupt, named, unless, first_refusal, shape, times}
use Rattle.record.specs.Reading.{call_with, opened, or_refused, number_of, Read}
use Rattle.record.specs.declared.Reading.{Reading}
use Rattle.layout.specs.declared.Mark.{Mark}
use Rattle.layout.specs.declared.Mark.TheVariants.{DT, DS, DB, IT, AC, TE, SU, CO, TI, SL}
use Rattle.layout.specs.declared.Call.{Call}
use Rattle.layout.specs.declared.Head.{Head}
use Rattle.lock.specs.Locks.{waiting, returnable}
use Rattle.lock.specs.declared.Wait.{Wait}
use Rattle.lock.specs.declared.Wait.TheVariants.{Nothing, Request, Reserve, Enter}
use Rattle.lock.specs.declared.Locks.{Locks}
use Rattle.task.specs.State.{unheld, suspended}
use Rattle.task.specs.declared.Task.{Task}
use Rattle.machine.specs.declared.Counts.{Counts}
use Rattle.machine.specs.declared.State.{State}
use Rattle.machine.specs.Running.{Running, runner, someone}
use Rattle.machine.specs.declared.Sort.{Sort}
use Rattle.machine.specs.declared.Sort.TheVariants.{Declaration, OneTask, TheRunner, ListAsked, ListGiven, AnInterrupt, EveryTask}
use Rattle.machine.specs.State.{most_tasks, most_semaphores, most_bolts, most_interrupts, task_at, count_of}
use Rattle.machine.specs.NextEvent.{next_event}
use Rattle.machine.specs.Sorts.{sort_of, declares, needs_runner, given_kind, task_of}
use Rattle.lists.specs.Lists.{every}

-- ---- 2, 5 and 7: what the counts and the first accepted call decide

-- Each number of a call's list names a declared semaphore or bolt.
abbrev pub list_declared : Counts → Wait → Call → Bool
list_declared n w c = every (λ x. ltb x (count_of n w)) (named c)

-- The interrupt of a start is declared.
abbrev pub start_declared : Counts → Head → Bool
start_declared n h = not (on_interrupt h.kind) || ltb h.interrupt n.interrupts

-- What a call of a sort names is declared.
unfoldable pub declared_by : Sort → Counts → Call → Bool
declared_by Declaration n c = true
declared_by OneTask n c = ltb c.head.number n.tasks && start_declared n c.head
declared_by TheRunner n c = start_declared n c.head
declared_by (ListAsked w b) n c = list_declared n w c
declared_by (ListGiven w) n c = list_declared n w c
declared_by AnInterrupt n c = ltb c.head.number n.interrupts
declared_by EveryTask n c = true

abbrev pub declared_in : Mark → Counts → Call → Bool
declared_in m n c = declared_by (sort_of m) n c

-- There is room for a declaration.
unfoldable pub room_for : Mark → Counts → Bool
room_for m n =
    (not (is m DT) || ltb n.tasks most_tasks)
    && (not (is m DS) || ltb n.semaphores most_semaphores)
    && (not (is m DB) || ltb n.bolts most_bolts)
    && (not (is m IT) || ltb n.interrupts most_interrupts)

-- 2 to 7, or 0: what a call or declaration, the counts and the first accepted call decide.
unfoldable pub formal_refusal : ℕ → Counts → Bool → Call → ℕ
formal_refusal day n begun c =
    unless (not (begun && declares c.head.mark)) 2
    (first_refusal (shape c)
    (unless (declared_in c.head.mark n c) 5
    (first_refusal (times day c.head) (unless (room_for c.head.mark n) 7 0))))

-- A reading that none of them refuses stays as it is.
unfoldable pub admitted_if : ℕ → Counts → Bool → Read → Reading → Reading
admitted_if day n begun (Err m) r = r
admitted_if day n begun (Ok h) r = or_refused (formal_refusal day n begun (call_with h r.list)) r

-- What bytes, counts and the first accepted call decide: the call or declaration, or the first of 2 to 7.
abbrev pub admitted : ℕ → Counts → Bool → List ℕ → Reading
admitted day n begun s = admitted_if day n begun (opened s).answer (opened s)

-- 2 to 7, or 0, of bytes of any length.
abbrev pub byte_refusal : ℕ → Counts → Bool → List ℕ → ℕ
byte_refusal day n begun s = number_of (admitted day n begun s).answer

-- ---- 8 to 15 and 17: what the state decides

-- A list that can't be given back: RL, or FR and LV.
abbrev pub unreturnable : Wait → ℕ
unreturnable Nothing = 14
unreturnable Request = 13
unreturnable Reserve = 14
unreturnable Enter = 14

-- CONTINUE at once. One on a schedule finds its task in any state.
abbrev pub is_continue : Mark → Head → Bool
is_continue m h = is m CO && eqb h.kind 0

-- 8 to 15, 17, or 0, with the running task, the task that the call is about, the locks, the present instant and the
-- next event.
unfoldable pub refusal_by : Mark → Call → Running → Task → Locks → Instant → Moment → ℕ
refusal_by m c r t l n e =
    let w = given_kind (sort_of m) in
    unless (not (needs_runner (sort_of m)) || someone r) 8
    (unless (not (is m AC && eqb c.head.kind 0) || not t.alive) 9
    (unless (not (is m TE || is m SU || is_continue m c.head) || t.alive) 10
    (unless (not (is m SU) || not (suspended t.hold)) 11
    (unless (not (is_continue m c.head) || not (unheld t.hold)) 12
    (unless (not (waiting w) || every (returnable w l) (named c)) (unreturnable w)
    (unless (not (is m TI) || ltb n.0 last_instant) 15
    (unless (not (is m SL) || comes_by last_instant e) 17 0)))))))

abbrev pub state_refusal : Mark → State → Call → ℕ
state_refusal m k c =
    refusal_by m c (runner k) (task_at k.tasks (task_of (sort_of m) c.head (runner k))) k.locks k.now (next_event k)
