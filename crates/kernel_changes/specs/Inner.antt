-- Names for the contracts of inner functions. The machine doesn't use them.
use Rattle.std.specs.Prelude.{◌≡◌, true, not, ◌||◌}
use Rattle.layout.specs.declared.Call.{Call}
use Rattle.record.specs.Refusals.{named}
use Rattle.lock.specs.Locks.{waiting, returnable}
use Rattle.lock.specs.declared.Locks.{Locks}
use Rattle.machine.specs.declared.Sort.{Sort}
use Rattle.machine.specs.Sorts.{given_kind}
use Rattle.lists.specs.Lists.{every}

-- What a call of a sort gives back can be given back.
abbrev pub Returnable : Sort → Locks → Call → Type 0
Returnable s l c = (not (waiting (given_kind s)) || every (returnable (given_kind s) l) (named c)) ≡ true
