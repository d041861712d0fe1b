-- What happens over a list of records, one stage for each.
use Rattle.std.specs.Prelude.{Bool, cond, List, [], ◌∷◌, ℕ, ◌+◌, ◌-◌, eqb}
use Rattle.lock.specs.Locks.{bit}
use Rattle.machine.specs.Running.{runner, Running}
use Rattle.machine.specs.Step.{step}
use Rattle.machine.specs.declared.State.{State}
use Rattle.machine.specs.declared.Stepped.{Stepped}

-- The running task of the answer before, the kernel handed in, the record, and what the step hands back.
pub record Stage : Type 0 where
  pub before : Running
  pub kernel : State
  pub bytes : List ℕ
  pub after : Stepped

module _ (day : ℕ) where
  -- From kernel k on, where the answer before named r.
  unfoldable pub stages_from : Running → State → List (List ℕ) → List Stage
  stages_from r k [] = []
  stages_from r k (b ∷ bs) =
      let s = step day k b in
      record { before = r; kernel = k; bytes = b; after = s } ∷ stages_from s.answer.running s.state bs

  -- From kernel k on. Whatever answer handed k back, its running task was that of k.
  abbrev pub stages : State → List (List ℕ) → List Stage
  stages k bs = stages_from (runner k) k bs

-- How many stages pass a test.
unfoldable pub how_many : (Stage → Bool) → List Stage → ℕ
how_many f [] = 0
how_many f (g ∷ gs) = bit (f g) + how_many f gs

-- The stages up to the m-th that passes a test, with it.
unfoldable pub up_to : (Stage → Bool) → ℕ → List Stage → List Stage
up_to f m [] = []
up_to f m (g ∷ gs) = cond (eqb m 0) [] (g ∷ up_to f (m - bit (f g)) gs)

-- The stages before the first that fails a test.
unfoldable pub while : (Stage → Bool) → List Stage → List Stage
while f [] = []
while f (g ∷ gs) = cond (f g) (g ∷ while f gs) []
