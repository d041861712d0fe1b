-- A byte has three digits at most.
use native.Mathlib.Omega.{arith}
use Rattle.lines.proofs.DecimalLaws.{byte_long}
use Rattle.lines.proofs.byte_at.Goals as goal

pub returns : goal.returns
returns c =
    let d = c.decimal_at in
    record { wrote = d.ensures.wrote; upper_bound = omega (arith, d.ensures.wrote.place, byte_long c.args.n c.ranges.n.fits) }
