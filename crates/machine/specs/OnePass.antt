-- A grant makes no other list grantable, so serving is one pass over the tasks by urgency. Proved in proofs/Helping.antt,
-- proofs/Sorted.antt and proofs/OnePass.antt.
use Rattle.std.specs.Prelude.{◌≡◌, Bool, true, false, ◌&&◌, cond, List, [], ◌∷◌, ℕ, ◌≤◌, ◌<◌, length, ltb}
use Rattle.layout.specs.Fields.{Octets}
use Rattle.layout.specs.declared.Call.{Call}
use Rattle.lists.specs.Lists.{names, every}
use Rattle.lock.specs.declared.Wait.TheVariants.{Reserve}
use Rattle.task.specs.State.{wanted}
use Rattle.task.specs.declared.Task.{Task}
use Rattle.machine.specs.declared.State.{State}
use Rattle.machine.specs.declared.Stepped.{Stepped}
use Rattle.machine.specs.State.{most_tasks, task_at}
use Rattle.machine.specs.Sorts.{declares}
use Rattle.machine.specs.Running.{urgency}
use Rattle.machine.specs.Granting.{servable}
use Rattle.machine.specs.Work.{Work}
use Rattle.machine.specs.Serving.{Served, grant_to, serve}
use Rattle.machine.specs.Test.{places_ok}
use Rattle.machine.specs.Calls.{work_of}
use Rattle.machine.specs.Step.{step}
use Rattle.machine.specs.Invariants.{IsDay, Passes}
use Rattle.machine.specs.Continuing.{Accepts}

-- ---- one grant

-- Of n tasks, i waits on a list that could be granted.
abbrev pub can_be_served : ℕ → Served → ℕ → Bool
can_be_served n p i = servable n p.tasks p.locks i

-- If task i waits in a RESERVE, the bolts that it names have places in the table.
abbrev pub Placed : Served → ℕ → Type 0
Placed p i =
    (task_at p.tasks i).wait ≡ Reserve
    → every (λ x. ltb x (length p.locks.bolts)) (wanted (task_at p.tasks i)) ≡ true

-- Whoever can be served after a grant could be served before it.
abbrev pub GrantsHelpNobody : Type 0
GrantsHelpNobody =
    (n : ℕ) (p : Served) (j i : ℕ) → Placed p j → can_be_served n p j ≡ true
    → can_be_served n (grant_to j p) i ≡ true → can_be_served n p i ≡ true

-- ---- one pass

-- Each task of a list, in its turn, is granted if it can be served then, and else passed over.
unfoldable pub in_turn : ℕ → List ℕ → Served → Served
in_turn n [] p = p
in_turn n (i ∷ l) p = in_turn n l (cond (can_be_served n p i) (grant_to i p) p)

-- By u, smaller first and no two equal, so that no number stands twice.
unfoldable pub ascending : (ℕ → ℕ) → List ℕ → Bool
ascending u [] = true
ascending u (x ∷ l) = every (λ y. ltb (u x) (u y)) l && ascending u l

-- The list of the numbers below n, the most urgent first.
pub record ByUrgency (n : ℕ) (ps : List ℕ) (ts : List Task) (l : List ℕ) : Type 0 where
  pub all : (i : ℕ) → i < n → names l i ≡ true
  pub only : (i : ℕ) → names l i ≡ true → i < n
  pub order : ascending (urgency ps ts) l ≡ true

-- There is one.
abbrev pub OrderExists : Type 0
OrderExists =
    (n : ℕ) (ps : List ℕ) (ts : List Task) → n ≤ most_tasks → places_ok n ps ≡ true → (l : List ℕ) × ByUrgency n ps ts l

-- Serving, which looks for the next at each turn, goes once through that list.
abbrev pub ServesInOnePass : Type 0
ServesInOnePass =
    (n : ℕ) (ps : List ℕ) (p : Served) (l : List ℕ) → ((i : ℕ) → i < n → Placed p i) → ByUrgency n ps p.tasks l
    → serve n ps n p ≡ in_turn n l p

-- ---- every call

-- What serving starts from after a call's own work, and what a step leaves of it.
abbrev pub unserved : Work → Served
unserved w = record { tasks = w.tasks; locks = w.locks; granted = w.sets.granted }

abbrev pub served : Stepped → Served
served s = record { tasks = s.state.tasks; locks = s.state.locks; granted = s.answer.sets.granted }

-- So it is in every accepted call, for each kernel that passes the test.
abbrev pub CallsServeInOnePass : Type 0
CallsServeInOnePass =
    (day : ℕ) → IsDay day → (k : State) → Passes day k → (s : List ℕ) → Octets s → (c : Call) → Accepts day k s c
    → declares c.head.mark ≡ false → (l : List ℕ) → ByUrgency k.counts.tasks k.places (work_of day k c).tasks l
    → served (step day k s) ≡ in_turn k.counts.tasks l (unserved (work_of day k c))
