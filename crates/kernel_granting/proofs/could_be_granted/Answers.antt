-- Each number is tried, in the list's order.
use Rattle.std.proofs.Common.{rules, not}
use mathlib.Core.Path.{ap, refl}
use Rattle.lists.proofs.SeenLaws.{seen_all}
use Rattle.lock.proofs.Rests.{number_below, fails_here, passes_here}
use Rattle.machine.specs.Granting.{could_be_granted}
use Rattle.kernel_granting.proofs.WriterLaws.{shows_here}
use Rattle.kernel_granting.proofs.could_be_granted.Goals as goal

pub loop-number-init : goal.loop-number-init
loop-number-init c n ts h = record { rest = refl }

pub bounds-locks-x : goal.bounds-locks-x
bounds-locks-x c = number_below _ _ c.requires c.loop-number-test.true

pub bounds-locks-x-in-loop-number : goal.bounds-locks-x-in-loop-number
bounds-locks-x-in-loop-number c = number_below _ _ c.requires c.loop-number-test.true

pub bounds-writers-x : goal.bounds-writers-x
bounds-writers-x c = number_below _ _ c.requires c.loop-number-test.true

pub returns-then-not-is_available : goal.returns-then-not-is_available
unfolding could_be_granted
returns-then-not-is_available c n ts h =
    let less = c.loop-number-test.true in
    let shows = shows_here _ c.args.writers.now _ (number_below _ _ c.requires less) in
    fails_here (c.loop-number.invariant n ts h) less (c.is_available.ensures _ _ _ n ts shows h) (ap not c.if-not-is_available.true)

pub loop-number-preserved : goal.loop-number-preserved
loop-number-preserved c n ts h =
    let less = c.loop-number-test.true in
    let shows = shows_here _ c.args.writers.now _ (number_below _ _ c.requires less) in
    passes_here (c.loop-number.invariant n ts h) less (c.is_available.ensures _ _ _ n ts shows h) (ap not c.if-not-is_available.false)

pub returns : goal.returns
unfolding could_be_granted
returns c n ts h = seen_all (c.loop-number.invariant n ts h) c.loop-number-test.false
