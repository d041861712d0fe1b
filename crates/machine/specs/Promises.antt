-- What the machine's definitions mean, for every kernel value and any bytes.
use Rattle.std.specs.Prelude.{Err, None, Ok, Some, ◌≡◌, ◌≢◌, Bool, true, false, not, ◌&&◌, List, map, ℕ, ◌≤◌, ◌<◌, length}
use Rattle.layout.specs.Fields.{bytes_of, most_numbers}
use Rattle.layout.specs.declared.Call.{Call}
use Rattle.record.specs.Refusals.{unless, first_refusal, shape}
use Rattle.record.specs.Reading.{accepted, call_with, opened, reading, Read}
use Rattle.record.specs.Writing.{written}
use Rattle.task.specs.State.{runnable}
use Rattle.task.specs.declared.Task.{Task}
use Rattle.machine.specs.declared.State.{State}
use Rattle.machine.specs.Running.{Running, most_places, urgency, most_urgent, runner}
use Rattle.machine.specs.declared.Stepped.{Stepped}
use Rattle.machine.specs.Sets.{Set, members, no_sets}
use Rattle.machine.specs.State.{task_at, place_at}
use Rattle.machine.specs.NextEvent.{file_of}
use Rattle.machine.specs.Granting.{servable}
use Rattle.machine.specs.Serving.{Served, next_served}
use Rattle.machine.specs.Test.{valid, kernel_refusal}
use Rattle.machine.specs.Sorts.{declares}
use Rattle.machine.specs.Refusals.{declared_in}
use Rattle.machine.specs.Step.{plain_answer, answered, carry, step}
use Rattle.machine.specs.Log.{final, log}

-- ---- the most urgent task. Proved in proofs/Urgency.antt.

-- Of the numbers below n that pass a test, i has the smallest current priority, and the first place of those that have it.
pub record First (n : ℕ) (test : ℕ → Bool) (ps : List ℕ) (ts : List Task) (i : ℕ) : Type 0 where
  pub below : i < n
  pub passes : test i ≡ true
  pub smallest : (j : ℕ) → j < n → test j ≡ true → (task_at ts i).current ≤ (task_at ts j).current
  pub ties : (j : ℕ) → j < n → test j ≡ true → (task_at ts j).current ≡ (task_at ts i).current
      → place_at ps i ≤ place_at ps j

-- The first of them; or none, where none passes.
abbrev pub Chosen : ℕ → (ℕ → Bool) → List ℕ → List Task → Running → Type 0
Chosen n test ps ts None = (j : ℕ) → j < n → test j ≡ false
Chosen n test ps ts (Some i) = First n test ps ts i

-- The places of n tasks are bytes, as in every value of the code.
abbrev pub AreBytes : ℕ → List ℕ → Type 0
AreBytes n ps = (i : ℕ) → i < n → place_at ps i < most_places

-- The scan finds the first, whatever the test.
abbrev pub ScanFindsFirst : Type 0
ScanFindsFirst =
    (n : ℕ) (test : ℕ → Bool) (ps : List ℕ) (ts : List Task) → AreBytes n ps
    → Chosen n test ps ts (most_urgent n test (urgency ps ts))

-- The running task is the first of the declared ones that are runnable.
abbrev pub RunnerIsFirst : Type 0
RunnerIsFirst =
    (k : State) → AreBytes k.counts.tasks k.places
    → Chosen k.counts.tasks (λ i. runnable (task_at k.tasks i)) k.places k.tasks (runner k)

-- The next to be served is the first of the n declared ones that wait on a list that could be granted.
abbrev pub NextServedIsFirst : Type 0
NextServedIsFirst =
    (n : ℕ) (ps : List ℕ) (p : Served) → AreBytes n ps
    → Chosen n (servable n p.tasks p.locks) ps p.tasks (next_served n ps p)

-- ---- answers and refusals. Proved in proofs/Answers.antt and proofs/Refused.antt.

-- The running task of an answer is that of the kernel handed back, refused or not.
abbrev pub AnswersRunner : Type 0
AnswersRunner =
    (day : ℕ) (k : State) (s : List ℕ) → kernel_refusal day k ≡ 0
    → (step day k s).answer.running ≡ runner (step day k s).state

-- And so it is the first of that kernel's declared tasks that are runnable.
abbrev pub AnswersFirst : Type 0
AnswersFirst =
    (day : ℕ) (k : State) (s : List ℕ) → kernel_refusal day k ≡ 0
    → let z = (step day k s).state in
    Chosen z.counts.tasks (λ i. runnable (task_at z.tasks i)) z.places z.tasks (step day k s).answer.running

-- The kernel is as it was, and all sets are empty.
pub record Untouched (k : State) (s : Stepped) : Type 0 where
  pub state : s.state ≡ k
  pub sets : (x : Set) → members x s.answer.sets ≡ 0

-- A refused step changes nothing.
abbrev pub RefusedIsUntouched : Type 0
RefusedIsUntouched =
    (day : ℕ) (k : State) (s : List ℕ) → (step day k s).answer.number ≢ 0 → Untouched k (step day k s)

-- A kernel that fails the test is refused with 1 whatever the bytes, and no task runs.
abbrev pub UntestedIsRefused : Type 0
UntestedIsRefused =
    (day : ℕ) (k : State) (s : List ℕ) → valid day k ≡ false
    → step day k s
    ≡ record { state = k; answer = record { number = 1; running = None; sets = no_sets } }

-- One that passes it with another task or next event on file than the rules give is refused with 16 whatever the bytes,
-- and no task runs.
abbrev pub MisfiledIsRefused : Type 0
MisfiledIsRefused =
    (day : ℕ) (k : State) (s : List ℕ) → valid day k ≡ true → k.file ≢ file_of k
    → step day k s
    ≡ record { state = k; answer = record { number = 16; running = None; sets = no_sets } }

-- A kernel turned away with 1 or 16 stays as it is over any list of records, and each of them has that answer.
pub record TurnedAway (day n : ℕ) (k : State) (rs : List (List ℕ)) : Type 0 where
  pub entries : log day k rs ≡ map (λ r. record { bytes = r; answer = plain_answer n None }) rs
  pub state : final day k rs ≡ k

abbrev pub TurnedAwayForGood : Type 0
TurnedAwayForGood =
    (day n : ℕ) (k : State) → kernel_refusal day k ≡ n → n ≢ 0 → (rs : List (List ℕ)) → TurnedAway day n k rs

-- Refusals are numbered 1 to 17, and 1 and 16 are for no other ground.
pub record Numbered (day : ℕ) (k : State) (n : ℕ) : Type 0 where
  pub most : n ≤ 17
  pub first : n ≡ 1 → valid day k ≡ false
  pub second : n ≡ 16 → (valid day k ≡ true) × (k.file ≢ file_of k)

abbrev pub RefusalsAreNumbered : Type 0
RefusalsAreNumbered = (day : ℕ) (k : State) (s : List ℕ) → Numbered day k (step day k s).answer.number

-- ---- what is on file. Proved in proofs/Filed.antt.

-- After every step that isn't refused with 1 or 16, the running task and the next event of the rules are on file, whatever
-- the kernel was and the bytes.
abbrev pub StepFiles : Type 0
StepFiles =
    (day : ℕ) (k : State) (s : List ℕ) → (step day k s).answer.number ≢ 1 → (step day k s).answer.number ≢ 16
    → (step day k s).state.file ≡ file_of (step day k s).state

-- The same for a call or declaration that was read.
abbrev pub CarryFiles : Type 0
CarryFiles =
    (day : ℕ) (k : State) (c : Call) → (carry day k c).answer.number ≢ 1 → (carry day k c).answer.number ≢ 16
    → (carry day k c).state.file ≡ file_of (carry day k c).state

-- The task on file of a kernel that is refused with neither is the first of its declared tasks that are runnable.
abbrev pub FiledIsFirst : Type 0
FiledIsFirst =
    (day : ℕ) (k : State) → kernel_refusal day k ≡ 0
    → Chosen k.counts.tasks (λ i. runnable (task_at k.tasks i)) k.places k.tasks k.file.running

-- And the answer to any bytes names the task on file in the kernel handed back.
abbrev pub AnswersFiled : Type 0
AnswersFiled =
    (day : ℕ) (k : State) (s : List ℕ) → kernel_refusal day k ≡ 0
    → (step day k s).answer.running ≡ (step day k s).state.file.running

-- ---- records and calls. Proved in proofs/Joined.antt and proofs/Order.antt.

-- The step on the bytes of c is the machine's on c. Its list has four places, as in every value of the code.
abbrev pub StepIsCarry : Type 0
StepIsCarry =
    (day : ℕ) (k : State) (c : Call) → length c.list ≡ most_numbers → step day k (bytes_of c) ≡ carry day k c

-- So it is on what the writer writes for c.
abbrev pub StepOfWritten : Type 0
StepOfWritten =
    (day : ℕ) (k : State) (c : Call) → length c.list ≡ most_numbers → (written day c).number ≡ 0
    → step day k (written day c).bytes ≡ carry day k c

-- The step's number for what the reader refuses. No record: 2. Else the first of 2 (a declaration after an accepted
-- call), 3 or 4, 5, and 6.
abbrev pub number_for : State → Read → List ℕ → ℕ
number_for k (Err n) l = 2
number_for k (Ok h) l =
    unless (not (k.begun && declares h.mark)) 2
    (first_refusal (shape (call_with h l)) (unless (declared_in h.mark k.counts (call_with h l)) 5 6))

-- What the reader refuses, the step refuses.
abbrev pub RefusedByReader : Type 0
RefusedByReader =
    (day : ℕ) (k : State) (s : List ℕ) (n : ℕ) → kernel_refusal day k ≡ 0 → (reading day s).answer ≡ Err n
    → step day k s ≡ answered k (number_for k (opened s).answer (opened s).list) (runner k)

-- Where the two numbers part, for bytes that open to c.
pub record Order (day : ℕ) (k : State) (s : List ℕ) (c : Call) : Type 0 where
  -- a declaration after an accepted call is 2, whatever the reader says
  pub late : k.begun ≡ true → declares c.head.mark ≡ true → step day k s ≡ answered k 2 (runner k)
  -- else the reader's 3 and 4 stay
  pub shaped : (n : ℕ) → (k.begun && declares c.head.mark) ≡ false → (reading day s).answer ≡ Err n → n ≢ 6
      → step day k s ≡ answered k n (runner k)
  -- its 6 is 5 where something named isn't declared
  pub unknown : (reading day s).answer ≡ Err 6 → declared_in c.head.mark k.counts c ≡ false
      → step day k s ≡ answered k 5 (runner k)
  -- and stays where all is declared
  pub timed : (k.begun && declares c.head.mark) ≡ false → (reading day s).answer ≡ Err 6
      → declared_in c.head.mark k.counts c ≡ true → step day k s ≡ answered k 6 (runner k)

abbrev pub RefusalsInOrder : Type 0
RefusalsInOrder =
    (day : ℕ) (k : State) (s : List ℕ) (c : Call) → kernel_refusal day k ≡ 0 → opened s ≡ accepted c → Order day k s c
