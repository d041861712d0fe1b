-- The list is taken and the wait is over; the counts are as they were.
use borrow.Author.Rules.{rules}
use native.Mathlib.Omega.{arith}
use Rattle.machine.specs.State.{task_at}
use Rattle.machine.specs.Serving.{grant_to}
use Rattle.machine.proofs.Serving.{served_waits, served_free}
use Rattle.kernel_serving.specs.Served.{served}
use Rattle.kernel_serving.proofs.WaitLaws.{Listed, listed}
use Rattle.kernel_test.proofs.SoundLaws.{places_fit}
use Rattle.kernel_serving.proofs.grant_to.Goals as goal
use Rattle.kernel_serving.proofs.grant_to.Goals.{Start}

pub bounds-k-i : goal.bounds-k-i
bounds-k-i c = omega (arith, places_fit c.args.k c.requires.k_value, c.requires.i_lt_tasks)

-- It waits on a list in order.
waiter : (c : Start) → Listed (task_at c.args.k.tasks c.args.i)
waiter c =
    let k = c.args.k in
    listed k c.requires.k_value c.args.i c.requires.i_lt_tasks (served_waits k.counts.tasks (served k 0) c.args.i c.requires.i_value)

pub move_all-k-requires : goal.move_all-k-requires
move_all-k-requires c =
    let k = c.args.k in
    let l = waiter (goal.at.move_all-k-requires c).Start in
    record {
      list_value = l.below;
      list_value_2 = l.once;
      list_value_3 = served_free k.counts.tasks (served k 0) c.args.i c.requires.i_value;
    }

pub overflow_cast-list : goal.overflow_cast-list
overflow_cast-list c = omega (arith, (waiter (goal.at.overflow_cast-list c).Start).short)

pub shared_ref_as_front-list : goal.shared_ref_as_front-list
shared_ref_as_front-list c = (waiter (goal.at.shared_ref_as_front-list c).Start).short

pub returns : goal.returns
unfolding grant_to
returns c = rw (c.wait_over.ensures, c.move_all-k.ensures)
