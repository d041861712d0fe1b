-- The machine over bytes is the machine over calls, where the bytes are those of a call.
use mathlib.Core.Path.{◌≡◌, refl}
use mathlib.Core.List.{List}
use Prim.Native.Nat.{ℕ, zero, suc}
use native.Mathlib.Omega.{arith}
use Rattle.layout.specs.Fields.{bytes_of}
use Rattle.record.specs.Refusals.{refusal}
use Rattle.record.specs.Reading.{accepted, opened}
use Rattle.record.specs.Writing.{or_zeros}
use Rattle.layout.specs.declared.Call.{Call}
use Rattle.machine.specs.declared.State.{State}
use Rattle.machine.specs.Step.{carry, step}
use Rattle.machine.specs.Promises.{StepIsCarry, StepOfWritten}
use Rattle.machine.proofs.Cases.{read_opened}
use Rattle.record.proofs.OpenedLaws.{bytes_opened}

pub joined_from : (day : ℕ) (k : State) (s : List ℕ) (c : Call) → opened s ≡ accepted c → step day k s ≡ carry day k c
unfolding step carry
joined_from day k s c e = rw (read_opened day k s, e)

pub step_is_carry : StepIsCarry
step_is_carry day k c e = joined_from day k (bytes_of c) c (bytes_opened c e)

bytes_written : (n : ℕ) (c : Call) → (or_zeros n c).number ≡ 0 → (or_zeros n c).bytes ≡ bytes_of c
bytes_written zero c e = refl
bytes_written (suc n) c e = absurd (omega arith)

pub step_of_written : StepOfWritten
step_of_written day k c e w = rw (bytes_written (refusal day c) c w) (step_is_carry day k c e)
