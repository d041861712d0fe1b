-- The scripts of continuations are computed.
use mathlib.Core.Path.{refl}
use Rattle.machine.specs.Scripts.{row}
use Rattle.machine_cases.specs.Continued.{ContinuationCases}
use Rattle.machine.proofs.Computing.{computed}

pub continuation_cases : ContinuationCases
unfolding computed row
continuation_cases =
    record {
      bytes = refl;
      present = refl;
      present_gone = refl;
      future = refl;
      each_time = refl;
      one_time = refl;
      anew = refl;
      taken = refl;
      delayed = refl;
      current = refl;
      ended = refl;
      prevented = refl;
      left = refl;
      replaced = refl;
      replaced_too = refl;
      any_task = refl;
      nobody = refl;
      no_period = refl;
      undeclared = refl;
      no_time = refl;
    }
