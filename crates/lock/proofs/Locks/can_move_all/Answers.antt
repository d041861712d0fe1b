-- Each number is tested, in the list's order.
use borrow.Author.Rules.{rules}
use mathlib.Core.Bool.{not}
use mathlib.Core.Path.{ap, refl}
use Rattle.lists.proofs.SeenLaws.{seen_all}
use Rattle.lock.proofs.Rests.{number_below, fails_here, passes_here}
use Rattle.lock.proofs.Locks.can_move_all.Goals as goal

pub bounds-self-x : goal.bounds-self-x
bounds-self-x c = number_below _ _ c.requires c.loop-number-test.true

pub bounds-self-x-in-loop-number : goal.bounds-self-x-in-loop-number
bounds-self-x-in-loop-number c = number_below _ _ c.requires c.loop-number-test.true

pub returns-then-not-can_move : goal.returns-then-not-can_move
returns-then-not-can_move c =
    fails_here c.loop-number.invariant c.loop-number-test.true (c.can_move.ensures _ _ refl refl) (ap not c.if-not-can_move.true)

pub loop-number-preserved : goal.loop-number-preserved
loop-number-preserved c =
    passes_here c.loop-number.invariant c.loop-number-test.true (c.can_move.ensures _ _ refl refl) (ap not c.if-not-can_move.false)

pub returns : goal.returns
returns c = seen_all c.loop-number.invariant c.loop-number-test.false
