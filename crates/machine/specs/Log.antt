-- What a list of records leaves: the last kernel, and the log of records and answers.
use Rattle.std.specs.Prelude.{Err, Ok, List, [], ◌∷◌, Bool, false, ℕ}
use Rattle.layout.specs.Fields.{Octets}
use Rattle.record.specs.Reading.{Read}
use Rattle.machine.specs.declared.State.{State}
use Rattle.machine.specs.declared.Answer.{Answer}
use Rattle.machine.specs.Sorts.{declares}
use Rattle.machine.specs.Step.{step}

-- What was opened is a declaration.
abbrev pub is_declaration : Read → Bool
is_declaration (Err n) = false
is_declaration (Ok h) = declares h.mark

-- Records are lists of bytes, of any length.
unfoldable pub AllOctets : List (List ℕ) → Type 0
AllOctets [] = Unit {0}
AllOctets (r ∷ rs) = Octets r × AllOctets rs

pub record Entry : Type 0 where
  pub bytes : List ℕ
  pub answer : Answer

module _ (day : ℕ) where
  unfoldable pub final : State → List (List ℕ) → State
  final k [] = k
  final k (r ∷ rs) = final (step day k r).state rs

  unfoldable pub log : State → List (List ℕ) → List Entry
  log k [] = []
  log k (r ∷ rs) = record { bytes = r; answer = (step day k r).answer } ∷ log (step day k r).state rs
