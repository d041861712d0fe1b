-- How long a waiting task waits (request 4), for every kernel that passes the test and every list of records. Proved in
-- proofs/Bounded.antt and proofs/Meeting.antt.
use Rattle.std.specs.Prelude.{Err, None, Ok, Some, ◌≡◌, Bool, true, false, not, ◌&&◌, List, [], ◌∷◌, ℕ, suc, ◌+◌, ◌<◌, ◌≤◌, ltb, eqb}
use Rattle.layout.specs.Fields.{Octets}
use Rattle.layout.specs.Marks.{is}
use Rattle.layout.specs.declared.Mark.{Mark}
use Rattle.layout.specs.declared.Mark.TheVariants.{RQ, RL}
use Rattle.lists.specs.Lists.{names}
use Rattle.record.specs.Refusals.{named, most_value}
use Rattle.record.specs.Reading.{call_with, opened, Read}
use Rattle.lock.specs.Locks.{bit}
use Rattle.machine.specs.Sums.{all_below}
use Rattle.machine.specs.Sets.{holds}
use Rattle.machine.specs.State.{task_at}
use Rattle.machine.specs.Running.{runner, someone, Running}
use Rattle.machine.specs.Step.{step}
use Rattle.machine.specs.Log.{AllOctets}
use Rattle.machine.specs.Invariants.{IsDay, Passes}
use Rattle.machine.specs.Scripts.{row, release}
use Rattle.machine.specs.Turns.{waits_in}
use Rattle.machine.specs.declared.State.{State}
use Rattle.wait_bound.specs.Queue.{ahead, waits_for_one, waited_for, bound_of}
use Rattle.wait_bound.specs.declared.Releases.{Releases}
use Rattle.wait_bound.specs.Stages.{Stage, stages, how_many, up_to, while}

-- ---- one stage

-- What was opened has the mark m, and its list names s.
abbrev pub call_on : Mark → ℕ → Read → List ℕ → Bool
call_on m s (Err n) l = false
call_on m s (Ok h) l = is h.mark m && names (named (call_with h l)) s

-- An accepted call of the mark m whose list names s.
abbrev pub accepted_on : Mark → ℕ → Stage → Bool
accepted_on m s g = eqb g.after.answer.number 0 && call_on m s (opened g.bytes).answer (opened g.bytes).list

-- An accepted RELEASE that names semaphore s.
abbrev pub releases : ℕ → Stage → Bool
releases s g = accepted_on RL s g

-- Task j is granted.
abbrev pub grants : ℕ → Stage → Bool
grants j g = holds j g.after.answer.sets.granted

-- Task j waits in the kernel handed in.
abbrev pub waits : ℕ → Stage → Bool
waits j g = waits_in g.kernel j

-- ---- what must not happen while task j waits for semaphore s

-- Task j is ended.
abbrev pub ends : ℕ → Stage → Bool
ends j g = holds j g.after.answer.sets.ended

-- Task i goes on living, with another current priority.
abbrev pub changes_at : Stage → ℕ → Bool
changes_at g i =
    (task_at g.kernel.tasks i).alive
    && not (ends i g)
    && not (eqb (task_at g.after.state.tasks i).current (task_at g.kernel.tasks i).current)

-- Some task does.
abbrev pub changes_priority : Stage → Bool
changes_priority g = not (all_below g.kernel.counts.tasks (λ i. not (changes_at g i)))

-- A running task whose priority number is smaller than that of j.
abbrev pub outranks : State → Running → ℕ → Bool
outranks k None j = false
outranks k (Some i) j = ltb (task_at k.tasks i).current (task_at k.tasks j).current

-- An accepted REQUEST that names s is issued by such a task.
abbrev pub overtakes : ℕ → ℕ → Stage → Bool
overtakes s j g = accepted_on RQ s g && outranks g.kernel g.before j

-- None of the three happens.
pub record Undisturbed (s j : ℕ) (gs : List Stage) : Type 0 where
  pub lives : how_many (ends j) gs ≡ 0
  pub priorities : how_many changes_priority gs ≡ 0
  pub newcomers : how_many (overtakes s j) gs ≡ 0

-- ---- one record

-- Task j waits in a REQUEST of the one semaphore s.
abbrev pub WaitsFor : State → ℕ → ℕ → Type 0
WaitsFor k j s = (waits_for_one k j ≡ true) × (waited_for k j ≡ s)

-- The stage of one record from kernel k.
abbrev pub stage_of : ℕ → State → List ℕ → Stage
stage_of day k b = record { before = runner k; kernel = k; bytes = b; after = step day k b }

-- Who isn't granted in an undisturbed stage waits on; nobody new is ahead, and each RELEASE takes one away at least.
abbrev pub NobodyGetsAhead : Type 0
NobodyGetsAhead =
    (day : ℕ) → IsDay day → (k : State) → Passes day k → (b : List ℕ) → Octets b → (j s : ℕ) → WaitsFor k j s
    → let g = stage_of day k b in Undisturbed s j (g ∷ []) → grants j g ≡ false
    → (waits_in g.after.state j ≡ true) × (ahead g.after.state s j + bit (releases s g) ≤ ahead k s j)

-- ---- the bound

-- Task j is granted in the answer of the m-th accepted RELEASE that names s, or before.
abbrev pub GrantedBy : ℕ → ℕ → ℕ → List Stage → Type 0
GrantedBy m s j gs = 0 < how_many (grants j) (up_to (releases s) m gs)

-- With a others ahead of it, it is granted by the (a + 1)th. The hypotheses are asked of the stages in which it waits.
abbrev pub WaitIsBounded : Type 0
WaitIsBounded =
    (day : ℕ) → IsDay day → (k : State) → Passes day k → (bs : List (List ℕ)) → AllOctets bs
    → (j s : ℕ) → WaitsFor k j s
    → let gs = stages day k bs in Undisturbed s j (while (waits j) gs)
    → ahead k s j < how_many (releases s) gs → GrantedBy (suc (ahead k s j)) s j gs

-- ---- the bound that is read off a kernel

-- For each task that waits so there is one,
abbrev pub BoundIsRead : Type 0
BoundIsRead =
    (k : State) (j s : ℕ) → WaitsFor k j s → bound_of k j ≡ Some (record { semaphore = s; number = suc (ahead k s j) })

-- for no other,
abbrev pub NoOtherBound : Type 0
NoOtherBound = (k : State) (j : ℕ) → waits_for_one k j ≡ false → bound_of k j ≡ None

-- and it holds.
abbrev pub BoundHolds : Type 0
BoundHolds =
    (day : ℕ) → IsDay day → (k : State) → Passes day k → (bs : List (List ℕ)) → AllOctets bs
    → (j : ℕ) (b : Releases) → bound_of k j ≡ Some b
    → let gs = stages day k bs in Undisturbed b.semaphore j (while (waits j) gs)
    → b.number ≤ how_many (releases b.semaphore) gs → GrantedBy b.number b.semaphore j gs

-- ---- the hypotheses can be met

-- m times RELEASE of s.
abbrev pub release_row : ℕ → ℕ → List (List ℕ)
release_row s m = row m (release (s ∷ []))

-- All of them are accepted, and nothing disturbs.
pub record Met (s j m : ℕ) (gs : List Stage) : Type 0 where
  pub undisturbed : Undisturbed s j (while (waits j) gs)
  pub accepted : how_many (releases s) gs ≡ m

-- So it is where some task runs,
abbrev pub HypothesesAreMet : Type 0
HypothesesAreMet =
    (day : ℕ) → IsDay day → (k : State) → Passes day k → (j s : ℕ) → WaitsFor k j s → someone (runner k) ≡ true
    → (m : ℕ) → m ≤ most_value → AllOctets (release_row s m) × Met s j m (stages day k (release_row s m))

-- and then as many RELEASEs as the bound says do grant the task.
abbrev pub ReleasesGrant : Type 0
ReleasesGrant =
    (day : ℕ) → IsDay day → (k : State) → Passes day k → (j s : ℕ) → WaitsFor k j s → someone (runner k) ≡ true
    → let m = suc (ahead k s j) in GrantedBy m s j (stages day k (release_row s m))
