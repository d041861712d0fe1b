-- Names for contracts: what the sort of a mark tells the step.
use Rattle.std.specs.Prelude.{Bool, true, false}
use Rattle.machine.specs.declared.Sort.{Sort}
use Rattle.machine.specs.declared.Sort.TheVariants.{Declaration, OneTask, TheRunner, ListAsked, ListGiven, AnInterrupt, EveryTask}

-- A call of the sort is about one task and the locks.
abbrev pub about_one : Sort → Bool
about_one Declaration = false
about_one OneTask = true
about_one TheRunner = true
about_one (ListAsked w b) = true
about_one (ListGiven w) = true
about_one AnInterrupt = false
about_one EveryTask = false
