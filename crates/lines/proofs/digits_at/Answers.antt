-- What is left to store is the text of the rest.
use mathlib.Core.Path.{◌≡◌, refl, ◌∙◌}
use Prim.Native.Nat.{◌+◌, ◌-◌, ◌/◌, ◌%◌}
use native.Mathlib.Omega.{arith}
use lib.ListN.{length, length-set}
use Rattle.lines.specs.Decimals.{digit, decimal}
use Rattle.lines.proofs.DecimalLaws.{decimal_one, decimal_more, word_long, one_long, more_long}
use Rattle.lines.proofs.PlacedLaws.{stored, last_first}
use Rattle.lines.proofs.digits_at.Goals as goal

pub overflow_add-end : goal.overflow_add-end
overflow_add-end c =
    omega (arith, word_long c.args.n c.ranges.n.fits)

pub loop-rest-init : goal.loop-rest-init
loop-rest-init c =
    (omega arith, omega (arith, word_long c.args.n c.ranges.n.fits), refl, refl)

pub overflow_sub-i : goal.overflow_sub-i
overflow_sub-i c = omega (arith, more_long c.loop-rest.rest c.loop-rest-test.true)

pub overflow_cast-out : goal.overflow_cast-out
overflow_cast-out c = omega arith

pub overflow_add-out : goal.overflow_add-out
overflow_add-out c = omega arith

pub bounds-out-i : goal.bounds-out-i
bounds-out-i c = omega (arith, more_long c.loop-rest.rest c.loop-rest-test.true)

pub loop-rest-smaller : goal.loop-rest-smaller
loop-rest-smaller c = omega arith

pub loop-rest-preserved : goal.loop-rest-preserved
loop-rest-preserved c =
    let at = c.args.at in
    let out = c.loop-rest.out in
    let rest = c.loop-rest.rest in
    let more = more_long rest c.loop-rest-test.true in
    let e : c.loop-rest.i - 1 ≡ at + length (decimal (rest / 10)) = omega arith in (
      e,
      omega arith,
      simp length-set c.loop-rest.invariant.2,
      rw (e, last_first out at (decimal (rest / 10)) (digit (rest % 10)) (omega arith), ← decimal_more rest c.loop-rest-test.true) c.loop-rest.invariant.3,
    )

pub overflow_cast-out-2 : goal.overflow_cast-out-2
overflow_cast-out-2 c = omega arith

pub overflow_add-out-2 : goal.overflow_add-out-2
overflow_add-out-2 c = omega arith

pub bounds-out-at : goal.bounds-out-at
bounds-out-at c = omega (arith, one_long c.loop-rest.rest c.loop-rest-test.false)

pub shape_of-out : goal.shape_of-out
shape_of-out c = simp length-set c.loop-rest.invariant.2

pub returns : goal.returns
returns c =
    let at = c.args.at in
    let rest = c.loop-rest.rest in
    record {
      place = omega arith;
      buffer =
          stored c.loop-rest.out at (digit rest) (omega (arith, one_long rest c.loop-rest-test.false))
          ∙ rw (← decimal_one rest c.loop-rest-test.false) c.loop-rest.invariant.3;
    }
