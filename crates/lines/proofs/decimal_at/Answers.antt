-- One digit is one store; more are left to the digits.
use native.Mathlib.Omega.{arith}
use Rattle.lines.specs.Decimals.{digit}
use Rattle.lines.proofs.DecimalLaws.{decimal_one, word_long}
use Rattle.lines.proofs.PlacedLaws.{byte_wrote}
use Rattle.lines.proofs.decimal_at.Goals as goal

pub returns-then-n-lt10 : goal.returns-then-n-lt10
returns-then-n-lt10 c =
    let a = c.args in
    let n = a.n in record {
      wrote = rw (decimal_one n c.if-n-lt10.true) (byte_wrote a.out.now a.at (digit n) (omega arith));
      upper_bound = omega arith;
    }

pub returns : goal.returns
returns c =
    let d = c.digits_at in
    record { wrote = d.ensures; upper_bound = omega (arith, d.ensures.place, word_long c.args.n c.ranges.n.fits) }
