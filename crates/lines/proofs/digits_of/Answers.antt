-- Each turn splits one digit off.
use native.Mathlib.Omega.{arith}
use Rattle.lines.proofs.DecimalLaws.{word_long, one_long, more_long}
use Rattle.lines.proofs.digits_of.Goals as goal

pub loop-rest-init : goal.loop-rest-init
loop-rest-init c = omega arith

pub overflow_add-count : goal.overflow_add-count
overflow_add-count c =
    omega (arith, word_long c.args.n c.ranges.n.fits)

pub loop-rest-smaller : goal.loop-rest-smaller
loop-rest-smaller c = omega arith

pub loop-rest-preserved : goal.loop-rest-preserved
loop-rest-preserved c = omega (arith, more_long c.loop-rest.rest c.loop-rest-test.true)

pub returns : goal.returns
returns c = omega (arith, one_long c.loop-rest.rest c.loop-rest-test.false)
