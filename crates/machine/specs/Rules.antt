-- Single rules, read off the machine. Proved in proofs/Rules.antt.
use Rattle.std.specs.Prelude.{Some, ◌≡◌, ◌≢◌, ◌↔◌, true, false, List, ℕ, ◌<◌, ◌≤◌, length}
use Rattle.calendar.specs.declared.Instant.{Instant}
use Rattle.layout.specs.declared.Call.{Call}
use Rattle.layout.specs.declared.Mark.TheVariants.{TR, CO}
use Rattle.lists.specs.Lists.{names}
use Rattle.lock.specs.Locks.{bit, value_at, bolt_at}
use Rattle.lock.specs.declared.Locks.{Locks}
use Rattle.lock.specs.declared.Wait.TheVariants.{Request, Reserve, Enter}
use Rattle.task.specs.State.{wanted}
use Rattle.task.specs.declared.Marks.{Marks}
use Rattle.task.specs.declared.Task.{Task}
use Rattle.task.specs.declared.Turn.{Turn}
use Rattle.machine.specs.declared.Change.{Change}
use Rattle.machine.specs.declared.Sets.{Sets}
use Rattle.machine.specs.declared.State.{State}
use Rattle.machine.specs.Sets.{Set, has, only, mark, members, each_set, only_in}
use Rattle.machine.specs.State.{task_at}
use Rattle.machine.specs.Running.{runner}
use Rattle.machine.specs.Granting.{goes_before, could_be_granted}
use Rattle.machine.specs.Refusals.{state_refusal}
use Rattle.machine.specs.Work.{changed, every_turn}
use Rattle.machine.specs.Calls.{work_of}

-- A task is in the sets that its turn marked, and in no other: a start kept back or lost is due and not started.
abbrev pub MarksNameSets : Type 0
MarksNameSets =
    (i : ℕ) (m : Marks)
    → only_in i m
    ≡ record {
      due = only i m.due;
      started = only i m.started;
      ended = only i m.ended;
      lost = only i m.lost;
      granted = only i m.granted;
    }

-- A TRY never waits: granted or not, the tasks stay as they are.
abbrev pub TryGoesOn : Type 0
TryGoesOn =
    (day : ℕ) (k : State) (i : ℕ) (c : Call) → runner k ≡ Some i → c.head.mark ≡ TR → (work_of day k c).tasks ≡ k.tasks

-- A waiting writer goes before a reader that is as urgent.
abbrev pub EqualWriterGoesBefore : Type 0
EqualWriterGoesBefore =
    (x : ℕ) (t : Task) → t.wait ≡ Reserve → names (wanted t) x ≡ true → goes_before t.current x t ≡ true

-- A CONTINUE on a schedule finds its task in any state.
abbrev pub LaterContinueIsTaken : Type 0
LaterContinueIsTaken = (k : State) (c : Call) → c.head.kind ≢ 0 → state_refusal CO k c ≡ 0

-- ---- who is in the sets

-- A task is in the sets that its own turn marked, and in no other.
pub record TurnsMarkSets : Type 0 where
  -- a call about one task: that one, and nobody else
  pub one : (k : State) (i : ℕ) (c : Change) (x : Set) → has i (members x (changed k i c).sets) ≡ bit (mark x c.marks)
  pub others : (k : State) (i : ℕ) (c : Change) (x : Set) (j : ℕ) → j ≢ i → has j (members x (changed k i c).sets) ≡ 0
  -- a tick, a sleep or a trigger: each declared task by its own turn, and nobody beyond
  pub each : (k : State) (n : Instant) (f : Task → Turn) (x : Set) (i : ℕ) → k.counts.tasks ≤ length k.tasks
      → i < k.counts.tasks → has i (members x (every_turn k n f).sets) ≡ bit (mark x (f (task_at k.tasks i)).marks)
  pub beyond : (k : State) (n : Instant) (f : Task → Turn) (x : Set) (i : ℕ) → k.counts.tasks ≤ length k.tasks
      → k.counts.tasks ≤ i → has i (members x (every_turn k n f).sets) ≡ 0
  -- each mark names the set of its name
  pub named : MarksNameSets
  -- and these are all
  pub five : (s : Sets) → each_set (λ x. members x s) ≡ s

-- ---- what could be granted

-- Bolt x lets a reader of priority q in: no writer, fewer than 65,535 readers, and of n tasks none that waits in a RESERVE
-- that names it is as urgent or more.
pub record LetsIn (n : ℕ) (ts : List Task) (r : Locks) (q x : ℕ) : Type 0 where
  pub writer : (bolt_at r x).writer ≡ false
  pub readers : (bolt_at r x).readers < 65535
  pub writers : (i : ℕ) → i < n → (task_at ts i).wait ≡ Reserve → names (wanted (task_at ts i)) x ≡ true → q < (task_at ts i).current

-- A list could be granted exactly when all that it names is free: REQUEST needs a value above 0, RESERVE no writer and no
-- reader, ENTER a bolt that lets it in.
pub record GrantedIf (n : ℕ) (ts : List Task) (r : Locks) (q : ℕ) (l : List ℕ) : Type 0 where
  pub request : (could_be_granted n ts r q Request l ≡ true) ↔ ((x : ℕ) → names l x ≡ true → 0 < value_at r x)
  pub reserve : (could_be_granted n ts r q Reserve l ≡ true)
      ↔ ((x : ℕ) → names l x ≡ true → ((bolt_at r x).writer ≡ false) × ((bolt_at r x).readers ≡ 0))
  pub enter : (could_be_granted n ts r q Enter l ≡ true) ↔ ((x : ℕ) → names l x ≡ true → LetsIn n ts r q x)

abbrev pub GrantedIffOpen : Type 0
GrantedIffOpen = (n : ℕ) (ts : List Task) (r : Locks) (q : ℕ) (l : List ℕ) → GrantedIf n ts r q l
