-- A name for a contract: what a record is admitted as.
use Rattle.std.specs.Prelude.{Ok, ◌≡◌, Bool, List, ℕ}
use Rattle.layout.specs.declared.Head.{Head}
use Rattle.machine.specs.Refusals.{admitted}
use Rattle.machine.specs.Sorts.{sort_of}
use Rattle.machine.specs.declared.Counts.{Counts}
use Rattle.kernel_admitting.specs.declared.Admitted.{Admitted}

-- A record is admitted as the machine has it, with the sort of its mark.
pub record Admits (day : ℕ) (n : Counts) (begun : Bool) (s : List ℕ) (a : Admitted) : Type 0 where
  pub reading : record { answer = a.answer; list = a.list } ≡ admitted day n begun s
  pub sort : (h : Head) → a.answer ≡ Ok h → a.sort ≡ sort_of h.mark
