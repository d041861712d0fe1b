-- The slips are shut out: each script is computed.
use mathlib.Core.Path.{refl}
use Rattle.machine.specs.Scripts.{row}
use Rattle.machine_cases.specs.Slips.{SlipsShutOut}
use Rattle.machine.proofs.Computing.{computed}

pub slips_shut_out : SlipsShutOut
unfolding computed row
slips_shut_out = record { not_freed = refl; not_added = refl; all_served = refl; no_wait = refl }
