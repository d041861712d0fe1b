-- The refusals' numbers (document 01, "Refusals, in checking order").
use Rattle.std.specs.Prelude.{Result, Err, Ok, ℕ}
use Rattle.record.specs.declared.refusals.Refusal.{Refusal}
use Rattle.record.specs.declared.refusals.Refusal.TheVariants.{UnfitKernel, NoRecord, Malformed, BadList, Undeclared, BadTime, NoRoom, NobodyRuns, AlreadyAlive, NotAlive, AlreadySuspended, NotHeld, SemaphoreFull, BoltNotHeld, LastInstant, WrongFile, NothingToCome}

abbrev pub number : Refusal → ℕ
number UnfitKernel = 1
number NoRecord = 2
number Malformed = 3
number BadList = 4
number Undeclared = 5
number BadTime = 6
number NoRoom = 7
number NobodyRuns = 8
number AlreadyAlive = 9
number NotAlive = 10
number AlreadySuspended = 11
number NotHeld = 12
number SemaphoreFull = 13
number BoltNotHeld = 14
number LastInstant = 15
number WrongFile = 16
number NothingToCome = 17

-- The number of what a test gives: 0, or the refusal's.
abbrev pub refused_with : Result Unit Refusal → ℕ
refused_with (Ok u) = 0
refused_with (Err r) = number r
