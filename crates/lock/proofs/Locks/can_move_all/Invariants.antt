-- Each number is tested, in the list's order.
use Rattle.lists.proofs.SeenLaws.{Seen}
use Rattle.lock.specs.Locks.{can_move}
use Rattle.lock.proofs.Locks.can_move_all.Given as goal

abbrev pub invariant-loop-number : goal.invariant-loop-number
invariant-loop-number l = Seen (can_move l.way l.w l.self) l.list l.number-index
