-- No refusal has number 0.
use mathlib.Core.Path.{◌≡◌}
use Prim.Native.Nat.{ℕ, zero, suc}
use native.Mathlib.Omega.{arith}
use Rattle.record.specs.declared.refusals.Refusal.{Refusal}
use Rattle.record.specs.declared.refusals.Refusal.TheVariants.{UnfitKernel, NoRecord, Malformed, BadList, Undeclared, BadTime, NoRoom, NobodyRuns, AlreadyAlive, NotAlive, AlreadySuspended, NotHeld, SemaphoreFull, BoltNotHeld, LastInstant, WrongFile, NothingToCome}
use Rattle.record.specs.Numbers.{number}

some : {n : ℕ} → suc n ≡ 0 → ⊥
some e = omega (arith, e)

pub number_some : (x : Refusal) → number x ≡ 0 → ⊥
number_some UnfitKernel = some
number_some NoRecord = some
number_some Malformed = some
number_some BadList = some
number_some Undeclared = some
number_some BadTime = some
number_some NoRoom = some
number_some NobodyRuns = some
number_some AlreadyAlive = some
number_some NotAlive = some
number_some AlreadySuspended = some
number_some NotHeld = some
number_some SemaphoreFull = some
number_some BoltNotHeld = some
number_some LastInstant = some
number_some WrongFile = some
number_some NothingToCome = some
