-- Names for contracts: the table of the writers who wait, bolt by bolt.
use Rattle.std.specs.Prelude.{◌≡◌, Bool, true, false, not, ◌&&◌, List, ℕ, ◌≤◌, ◌<◌, leb, ltb, get_or, replicate}
use Rattle.lists.specs.Lists.{names}
use Rattle.lock.specs.Locks.{most_locks, same_kind, value_at, bolt_at}
use Rattle.lock.specs.declared.Bolt.{Bolt}
use Rattle.lock.specs.declared.Locks.{Locks}
use Rattle.lock.specs.declared.Wait.{Wait}
use Rattle.lock.specs.declared.Wait.TheVariants.{Enter}
use Rattle.task.specs.declared.Task.{Task}
use Rattle.machine.specs.Granting.{unopposed}
use Rattle.machine.specs.Test.{most_priority}
use Rattle.kernel_granting.specs.declared.Writers.{Writers}

-- More than any priority.
abbrev pub no_writer : ℕ
no_writer = 256

abbrev pub no_writers : Writers
no_writers = record { known = false; first = replicate most_locks no_writer }

-- By the table a reader of bolt x at priority q goes before every writer who waits for it.
abbrev pub passes : Writers → ℕ → ℕ → Bool
passes w q x = ltb q (get_or w.first x 0)

-- The table w, with a writer of priority p for each bolt of a list, is r.
abbrev pub Lowered : Writers → ℕ → List ℕ → Writers → Type 0
Lowered w p l r =
    (q x : ℕ) → q ≤ most_priority → x < most_locks → passes r q x ≡ (passes w q x && not (leb p q && names l x))

-- It says of n tasks whether one who waits in a RESERVE goes before such a reader.
abbrev pub Tells : ℕ → List Task → Writers → Type 0
Tells n ts w = (q x : ℕ) → q ≤ most_priority → x < most_locks → passes w q x ≡ unopposed n ts q x

-- It says so, and is marked as known.
pub record Told (n : ℕ) (ts : List Task) (w : Writers) : Type 0 where
  pub known : w.known ≡ true
  pub tells : Tells n ts w

-- Where it is marked as known, it says so.
abbrev pub Known : ℕ → List Task → Writers → Type 0
Known n ts w = w.known ≡ true → Tells n ts w

-- Where lists of the kind v depend on it, it says so.
abbrev pub TellsFor : Wait → ℕ → List Task → Writers → Type 0
TellsFor v n ts w = same_kind v Enter ≡ true → Tells n ts w

-- So it is for some tasks.
abbrev pub ForSome : Wait → Writers → Type 0
ForSome v w = (n : ℕ) × (ts : List Task) × TellsFor v n ts w

-- Number x: its value, its bolt, and the first writer who waits for it.
pub record Shows (l : Locks) (t : Writers) (x v : ℕ) (b : Bolt) (first : ℕ) : Type 0 where
  pub place : x < most_locks
  pub value : v ≡ value_at l x
  pub bolt : b ≡ bolt_at l x
  pub writer : first ≡ get_or t.first x 0
