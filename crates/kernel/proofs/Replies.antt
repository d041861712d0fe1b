-- A call is replied to as its record is.
use mathlib.Core.Path.{◌≡◌, ap, ◌∙◌}
use mathlib.Core.List.{List}
use Prim.Native.Nat.{ℕ}
use Rattle.calendar.specs.Limits.{day_length}
use Rattle.layout.specs.Fields.{FourPlaces, bytes_of}
use Rattle.layout.specs.declared.Call.{Call}
use Rattle.machine.specs.Step.{step, carry}
use Rattle.machine.specs.declared.State.{State}
use Rattle.machine.proofs.Joined.{step_is_carry}
use Rattle.kernel.specs.Reply.{reply}
use Rattle.kernel.specs.declared.Reply.{Reply}

-- A call, by its record.
pub record_replies :
    (k : State) (c : Call) (s : List ℕ) (r : Reply) → FourPlaces c → s ≡ bytes_of c → r ≡ reply (step day_length k s) → r ≡ reply (carry day_length k c)
record_replies k c s r four e f = f ∙ ap (λ b. reply (step day_length k b)) e ∙ ap reply (step_is_carry day_length k c four)
