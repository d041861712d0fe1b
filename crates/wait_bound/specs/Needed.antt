-- Each hypothesis is needed, and lists of several count too: scripts that are worked out by hand, from byte records on a
-- kernel in which nothing is declared, and what follows from them (request 4). Proved in proofs/Needing.antt.
use Rattle.std.specs.Prelude.{Some, ◌≡◌, ◌&&◌, List, [], ◌∷◌, ◌++◌, ℕ, suc, ◌<◌, eqb}
use Rattle.calendar.specs.Limits.{day_length}
use Rattle.lock.specs.Locks.{bit}
use Rattle.machine.specs.Sums.{sum_below}
use Rattle.machine.specs.State.{task_at, nothing}
use Rattle.machine.specs.Log.{AllOctets, final}
use Rattle.machine.specs.Invariants.{IsDay, Passes}
use Rattle.machine.specs.Scripts.{declare_task, declare_semaphore, activate, terminate, suspend, request, release, try, one_tick, CONTINUE◌PRIO◌, AFTER◌CONTINUE◌PRIO◌}
use Rattle.machine.specs.declared.State.{State}
use Rattle.wait_bound.specs.Queue.{is_ahead, ahead, bound_of, Bound}
use Rattle.wait_bound.specs.Stages.{Stage, stages, how_many, up_to, while}
use Rattle.wait_bound.specs.Waiting.{releases, grants, waits, ends, changes_priority, overtakes, Undisturbed, WaitsFor, GrantedBy}

-- ---- the scripts

-- Three tasks of these priorities and two semaphores with these presets. Task 2 runs, then 0 asks for the list l.
abbrev pub asked : ℕ → ℕ → ℕ → ℕ → ℕ → List ℕ → List (List ℕ)
asked p q r u v l =
    declare_task p ∷ declare_task q ∷ declare_task r ∷ declare_semaphore u ∷ declare_semaphore v
    ∷ activate 2 ∷ activate 0 ∷ request l ∷ []

-- Then 1 asks for semaphore 0.
abbrev pub both_asked : ℕ → ℕ → ℕ → ℕ → List ℕ → List (List ℕ)
both_asked p q r v l = asked p q r 0 v l ++ activate 1 ∷ request (0 ∷ []) ∷ []

-- Task 0 waits for semaphore 0, and 2 runs.
abbrev pub one : List (List ℕ)
one = asked 5 3 9 0 0 (0 ∷ [])

-- Task 1 waits for it as well, behind 0, and is suspended.
abbrev pub two : List (List ℕ)
two = both_asked 5 7 9 0 (0 ∷ []) ++ suspend 1 ∷ []

-- As urgent as 0, task 1 waits behind it.
abbrev pub equals : List (List ℕ)
equals = both_asked 5 5 9 0 (0 ∷ [])

-- Task 0 waits for both semaphores, of which 1 is free, and the less urgent task 1 for semaphore 0.
abbrev pub pair : List (List ℕ)
pair = both_asked 3 5 9 1 (0 ∷ 1 ∷ [])

-- ---- what they show

-- The bound of task j; over the next records, the accepted RELEASEs of s, the stages against each hypothesis while j
-- waits, and the grants of j by the m-th of those RELEASEs.
pub record Shown : Type 0 where
  pub bound : Bound
  pub released : ℕ
  pub ended : ℕ
  pub changed : ℕ
  pub overtaken : ℕ
  pub granted : ℕ

abbrev pub shown : ℕ → ℕ → ℕ → List (List ℕ) → List (List ℕ) → Shown
shown j s m past next =
    let k = final day_length nothing past in
    let gs = stages day_length k next in
    let w = while (waits j) gs in
    record {
      bound = bound_of k j;
      released = how_many (releases s) gs;
      ended = how_many (ends j) w;
      changed = how_many changes_priority w;
      overtaken = how_many (overtakes s j) w;
      granted = how_many (grants j) (up_to (releases s) m gs);
    }

-- Semaphore 0 and m RELEASEs.
abbrev pub within : ℕ → Bound
within m = Some (record { semaphore = 0; number = m })

-- One RELEASE is made, and these stages are against the hypotheses; the task isn't granted.
abbrev pub left : ℕ → ℕ → ℕ → Shown
left e c o = record { bound = within 1; released = 1; ended = e; changed = c; overtaken = o; granted = 0 }

-- m RELEASEs, nothing disturbs, and the task is granted g times.
abbrev pub calm : ℕ → ℕ → ℕ → Shown
calm b m g = record { bound = within b; released = m; ended = 0; changed = 0; overtaken = 0; granted = g }

pub record WorkedOut : Type 0 where
  -- with nothing between
  pub plain : shown 0 0 1 one (release (0 ∷ []) ∷ []) ≡ calm 1 1 1
  -- 1: the task is terminated
  pub ended : shown 0 0 1 one (terminate 0 ∷ release (0 ∷ []) ∷ []) ≡ left 1 0 0
  -- 2: a CONTINUE, called or coming due, puts task 1 ahead
  pub continued : shown 0 0 1 two ((CONTINUE 1 PRIO 3) ∷ release (0 ∷ []) ∷ []) ≡ left 0 1 0
  pub continued_later : shown 0 0 1 two ((AFTER 1 CONTINUE 1 PRIO 3) ∷ one_tick ∷ release (0 ∷ []) ∷ []) ≡ left 0 1 0
  -- 3: the more urgent task 1 asks
  pub overtaken : shown 0 0 1 one (activate 1 ∷ request (0 ∷ []) ∷ release (0 ∷ []) ∷ []) ≡ left 0 0 1
  -- it may try
  pub tried : shown 0 0 1 one (activate 1 ∷ try 0 ∷ release (0 ∷ []) ∷ []) ≡ calm 1 1 1
  -- who is as urgent and asks later stands behind, and comes one later
  pub first : shown 0 0 1 equals (release (0 ∷ []) ∷ release (0 ∷ []) ∷ []) ≡ calm 1 2 1
  pub second : shown 1 0 2 equals (release (0 ∷ []) ∷ release (0 ∷ []) ∷ []) ≡ calm 2 2 1
  pub not_sooner : shown 1 0 1 equals (release (0 ∷ []) ∷ release (0 ∷ []) ∷ []) ≡ calm 2 2 0
  -- the list of two takes the first RELEASE
  pub pair_first : shown 1 0 1 pair (release (0 ∷ []) ∷ []) ≡ calm 2 1 0
  pub pair_second : shown 1 0 2 pair (release (0 ∷ []) ∷ release (0 ∷ []) ∷ []) ≡ calm 2 2 1

-- ---- what follows

-- The sentence, with any count of those ahead and any hypotheses.
abbrev pub Sentence : (State → ℕ → ℕ → ℕ) → (ℕ → ℕ → List Stage → Type 0) → Type 0
Sentence count hypotheses =
    (day : ℕ) → IsDay day → (k : State) → Passes day k → (bs : List (List ℕ)) → AllOctets bs
    → (j s : ℕ) → WaitsFor k j s
    → let gs = stages day k bs in hypotheses s j (while (waits j) gs)
    → count k s j < how_many (releases s) gs → GrantedBy (suc (count k s j)) s j gs

-- Those ahead whose list has one number only.
unfoldable pub ahead_alone : State → ℕ → ℕ → ℕ
ahead_alone k s j = sum_below k.counts.tasks (λ i. bit (is_ahead k s j i && eqb (task_at k.tasks i).len 1))

-- It stands as it is, and falls without any of the three and with the other count.
pub record AllIsNeeded : Type 0 where
  pub stands : Sentence ahead Undisturbed
  pub lives : Sentence ahead (λ s j gs. (how_many changes_priority gs ≡ 0) × (how_many (overtakes s j) gs ≡ 0)) → ⊥
  pub priorities : Sentence ahead (λ s j gs. (how_many (ends j) gs ≡ 0) × (how_many (overtakes s j) gs ≡ 0)) → ⊥
  pub newcomers : Sentence ahead (λ s j gs. (how_many (ends j) gs ≡ 0) × (how_many changes_priority gs ≡ 0)) → ⊥
  pub lists : Sentence ahead_alone Undisturbed → ⊥
