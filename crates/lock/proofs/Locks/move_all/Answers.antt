-- Each number is moved, in the list's order: the others can still be.
use borrow.Author.Rules.{rules}
use Rattle.lock.proofs.Levels.{can_stays}
use Rattle.lock.proofs.Rests.{number_below, ready_here, changed_here, all_changed}
use Rattle.lock.proofs.Locks.move_all.Goals as goal

pub move_one-self-requires : goal.move_one-self-requires
move_one-self-requires c =
    record {
      x_lt_most_locks = number_below _ _ c.requires.list_value c.loop-x-test.true;
      x_value = ready_here c.loop-x.invariant c.loop-x-test.true;
    }

pub loop-x-preserved : goal.loop-x-preserved
loop-x-preserved c =
    rw c.move_one-self.ensures (changed_here c.loop-x.invariant c.loop-x-test.true (can_stays _ _))

pub returns : goal.returns
returns c = all_changed c.loop-x.invariant c.loop-x-test.false
