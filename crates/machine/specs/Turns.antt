-- Equal urgency takes turns: what the places mean, for every kernel that passes the test and any bytes (request 3).
-- Proved in proofs/Taking.antt.
use Rattle.std.specs.Prelude.{Some, ◌≡◌, ◌≢◌, Bool, true, false, cond, ◌&&◌, ◌||◌, List, [], ◌∷◌, ℕ, suc, ◌≤◌, ◌<◌, ltb, eqb, length}
use Rattle.layout.specs.Fields.{Octets}
use Rattle.layout.specs.declared.Call.{Call}
use Rattle.lock.specs.Locks.{waiting}
use Rattle.task.specs.State.{runnable}
use Rattle.machine.specs.declared.State.{State}
use Rattle.machine.specs.declared.Stepped.{Stepped}
use Rattle.machine.specs.Sets.{holds}
use Rattle.machine.specs.State.{task_at, place_at, nothing}
use Rattle.machine.specs.Sorts.{declares}
use Rattle.machine.specs.Running.{urgency, runner}
use Rattle.machine.specs.Places.{event, moved, stands_before}
use Rattle.machine.specs.Test.{places_ok, valid}
use Rattle.machine.specs.Step.{step}
use Rattle.machine.specs.Log.{AllOctets, final}
use Rattle.machine.specs.Invariants.{IsDay, Passes}
use Rattle.machine.specs.Continuing.{Accepts}

-- ---- n tasks have n places

-- Each task has a place below n, no two the same, and each place below n is a task's.
pub record Permutation (n : ℕ) (ps : List ℕ) : Type 0 where
  pub range : (i : ℕ) → i < n → place_at ps i < n
  pub apart : (i j : ℕ) → i < n → j < n → place_at ps i ≡ place_at ps j → i ≡ j
  pub onto : (p : ℕ) → p < n → (i : ℕ) × (i < n) × (place_at ps i ≡ p)

-- So it is in every kernel that passes the test,
abbrev pub TestedPlaces : Type 0
TestedPlaces = (day : ℕ) (k : State) → valid day k ≡ true → Permutation k.counts.tasks k.places

-- and after any step from one: the places never run out.
abbrev pub PlacesStay : Type 0
PlacesStay =
    (day : ℕ) → IsDay day → (k : State) → Passes day k → (s : List ℕ) → Octets s
    → let z = (step day k s).state in Permutation z.counts.tasks z.places

-- No two declared tasks are as urgent as each other.
abbrev pub UrgencyTellsApart : Type 0
UrgencyTellsApart =
    (day : ℕ) (k : State) → valid day k ≡ true → (i j : ℕ) → i < k.counts.tasks → j < k.counts.tasks
    → urgency k.places k.tasks i ≡ urgency k.places k.tasks j → i ≡ j

-- ---- one step

-- The move puts those with an event behind the others, and leaves the order of the others.
abbrev pub MovesToEnd : Type 0
MovesToEnd =
    (n : ℕ) (e : ℕ → Bool) (ps : List ℕ) → places_ok n ps ≡ true → n ≤ length ps → (i j : ℕ) → i < n → j < n
    → ltb (place_at (moved n e ps) i) (place_at (moved n e ps) j) ≡ stands_before e ps i j

-- Whether task i has an event in the step s from k, told by the two kernels and the answer.
abbrev pub event_in : State → Stepped → ℕ → Bool
event_in k s i = event k.tasks s.state.tasks s.answer.sets.started i

-- Task i is runnable in k.
abbrev pub runnable_in : State → ℕ → Bool
runnable_in k i = runnable (task_at k.tasks i)

-- Task i waits in k.
abbrev pub waits_in : State → ℕ → Bool
waits_in k i = waiting (task_at k.tasks i).wait

-- The step s starts task i.
abbrev pub started_in : Stepped → ℕ → Bool
started_in s i = holds i s.answer.sets.started

-- Every step moves them so: that of a call, of a declaration and of a refused record.
abbrev pub StepMoves : Type 0
StepMoves =
    (day : ℕ) (k : State) → Passes day k → (s : List ℕ) (i j : ℕ) → i < k.counts.tasks → j < k.counts.tasks
    → let z = step day k s in
    ltb (place_at z.state.places i) (place_at z.state.places j) ≡ stands_before (event_in k z) k.places i j

-- A refused record has no event,
abbrev pub RefusedHasNoEvent : Type 0
RefusedHasNoEvent =
    (day : ℕ) (k : State) (s : List ℕ) (i : ℕ) → (step day k s).answer.number ≢ 0 → event_in k (step day k s) i ≡ false

-- nor has a declaration,
abbrev pub DeclarationHasNoEvent : Type 0
DeclarationHasNoEvent =
    (day : ℕ) (k : State) (s : List ℕ) (c : Call) (i : ℕ) → Accepts day k s c → declares c.head.mark ≡ true
    → event_in k (step day k s) i ≡ false

-- nor has a task that is runnable before and after a step that doesn't start it: who runs on, is preempted, or stands by;
abbrev pub RunnableHasNoEvent : Type 0
RunnableHasNoEvent =
    (k : State) (s : Stepped) (i : ℕ) → runnable_in k i ≡ true → runnable_in s.state i ≡ true → started_in s i ≡ false
    → event_in k s i ≡ false

-- nor has one that waits before and after it.
abbrev pub WaiterHasNoEvent : Type 0
WaiterHasNoEvent =
    (k : State) (s : Stepped) (i : ℕ) → waits_in k i ≡ true → waits_in s.state i ≡ true → event_in k s i ≡ false

-- ---- any list of records, from a kernel in which nothing is declared

module _ (day : ℕ) where
  -- From k on, after n records of which the m-th was the last with an event of task i: the number of the last with one.
  unfoldable pub last_from : State → ℕ → ℕ → List (List ℕ) → ℕ → ℕ
  last_from k n m [] i = m
  last_from k n m (r ∷ rs) i =
      let s = step day k r in last_from s.state (suc n) (cond (event_in k s i) (suc n) m) rs i

  -- The number of the last record with an event of task i, counted from 1; 0 if there is none.
  abbrev pub last_event : List (List ℕ) → ℕ → ℕ
  last_event rs i = last_from nothing 0 0 rs i

-- The last event of task i came before that of j: by the numbers of their records, then by task number.
abbrev pub earlier : (ℕ → ℕ) → ℕ → ℕ → Bool
earlier last i j = ltb (last i) (last j) || (eqb (last i) (last j) && ltb i j)

-- The places are the order of the last events: i stands before j exactly where its event was earlier.
abbrev pub PlacesTellEvents : Type 0
PlacesTellEvents =
    (day : ℕ) → IsDay day → (rs : List (List ℕ)) → AllOctets rs
    → let k = final day nothing rs in (i j : ℕ) → i < k.counts.tasks → j < k.counts.tasks
    → ltb (place_at k.places i) (place_at k.places j) ≡ earlier (last_event day rs) i j

-- ---- turns are taken

-- Task j is runnable in k and after each record, and no record starts it anew.
unfoldable pub StaysRunnable : ℕ → State → List (List ℕ) → ℕ → Type 0
StaysRunnable day k [] j = runnable_in k j ≡ true
StaysRunnable day k (r ∷ rs) j =
    let s = step day k r in (runnable_in k j ≡ true) × (started_in s j ≡ false) × StaysRunnable day s.state rs j

-- Task i stands behind j. So at the same current priority it is less urgent, and doesn't run while j is runnable.
pub record Behind (k : State) (i j : ℕ) : Type 0 where
  pub place : place_at k.places j < place_at k.places i
  pub less_urgent : (task_at k.tasks i).current ≡ (task_at k.tasks j).current
      → urgency k.places k.tasks j < urgency k.places k.tasks i
  pub yields : (task_at k.tasks i).current ≡ (task_at k.tasks j).current → runnable_in k j ≡ true → runner k ≢ Some i

-- Who becomes runnable while j stays so stands behind j.
abbrev pub TurnsAreTaken : Type 0
TurnsAreTaken =
    (day : ℕ) → IsDay day → (k : State) → Passes day k → (rs : List (List ℕ)) → AllOctets rs
    → (i j : ℕ) → i < k.counts.tasks → j < k.counts.tasks
    → runnable_in k i ≡ false → StaysRunnable day k rs j
    → let z = final day k rs in runnable_in z i ≡ true → Behind z i j

-- So does who is started in a step, though it may have been runnable before: it ended and started in one call.
abbrev pub RestartedStandsBehind : Type 0
RestartedStandsBehind =
    (day : ℕ) → IsDay day → (k : State) → Passes day k → (s : List ℕ) → Octets s
    → (i j : ℕ) → i < k.counts.tasks → j < k.counts.tasks
    → let z = step day k s in started_in z i ≡ true → runnable_in z.state i ≡ true
    → runnable_in k j ≡ true → runnable_in z.state j ≡ true → started_in z j ≡ false
    → Behind z.state i j

-- Who stands behind j stays behind it while j stays runnable, whatever becomes of it.
abbrev pub StaysBehind : Type 0
StaysBehind =
    (day : ℕ) → IsDay day → (k : State) → Passes day k → (rs : List (List ℕ)) → AllOctets rs
    → (i j : ℕ) → i < k.counts.tasks → j < k.counts.tasks
    → place_at k.places j < place_at k.places i → StaysRunnable day k rs j
    → Behind (final day k rs) i j

-- ---- waiting

-- Task j waits in k and after each record.
unfoldable pub StaysWaiting : ℕ → State → List (List ℕ) → ℕ → Type 0
StaysWaiting day k [] j = waits_in k j ≡ true
StaysWaiting day k (r ∷ rs) j = (waits_in k j ≡ true) × StaysWaiting day (step day k r).state rs j

-- Who begins to wait while j waits stands behind j, so that of equal priorities j is the more urgent in serving.
abbrev pub WhoAskedFirst : Type 0
WhoAskedFirst =
    (day : ℕ) → IsDay day → (k : State) → Passes day k → (rs : List (List ℕ)) → AllOctets rs
    → (i j : ℕ) → i < k.counts.tasks → j < k.counts.tasks
    → waits_in k i ≡ false → StaysWaiting day k rs j
    → let z = final day k rs in waits_in z i ≡ true → Behind z i j
