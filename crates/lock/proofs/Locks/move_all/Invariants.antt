-- Each number is moved, in the list's order: the others can still be.
use Rattle.lock.specs.Locks.{can_move, move_one}
use Rattle.lock.proofs.Rests.{Changed}
use Rattle.lock.proofs.Locks.move_all.Given as goal

abbrev pub invariant-loop-x : goal.invariant-loop-x
invariant-loop-x l = Changed (move_one l.way l.w) (can_move l.way l.w) l.list l.initial.self l.self l.x-index
