-- What the numbers that a call names are good for on a kernel that passes the test.
use mathlib.Core.Path.{◌≡◌}
use mathlib.Core.Bool.{true, not}
use Prim.Native.Nat.{ℕ, ◌≤◌, ◌<◌}
use native.Mathlib.Omega.{arith}
use lib.Dec.{ltb}
use borrow.Author.Tests.{le-leb}
use Rattle.lists.specs.Lists.{distinct, every}
use Rattle.record.specs.Refusals.{named}
use Rattle.layout.specs.declared.Call.{Call}
use Rattle.lock.specs.Locks.{most_locks, waiting}
use Rattle.lock.specs.declared.Wait.{Wait}
use Rattle.facts.proofs.Bools.{both, and_both, or_right}
use Rattle.lists.proofs.EveryLaws.{every_more}
use Rattle.task.specs.State.{wait_for}
use Rattle.task.specs.declared.Task.{Task}
use Rattle.machine.specs.State.{most_interrupts, count_of}
use Rattle.machine.specs.Test.{wait_ok, counts_ok, valid}
use Rattle.machine.specs.Refusals.{list_declared}
use Rattle.machine.specs.declared.Counts.{Counts}
use Rattle.machine.specs.declared.State.{State}
use Rattle.machine.proofs.Passed.{counts_fit, count_fits, tested}
use Rattle.kernel_test.specs.Looks.{waits_ok}
use Rattle.layout.specs.Fields.{most_numbers}

pub interrupt_fits : (k : State) → waits_ok k ≡ true → (i : ℕ) → i < k.counts.interrupts → i < most_interrupts
unfolding waits_ok
interrupt_fits k e i less =
    omega (arith, (counts_fit k.counts (both (counts_ok k.counts) _ e).0).interrupts, less)

pub list_below :
    (day : ℕ) (k : State) → valid day k ≡ true → (w : Wait) (c : Call) → list_declared k.counts w c ≡ true
    → every (λ x. ltb x most_locks) (named c) ≡ true
list_below day k e w c d = every_more (count_of k.counts w) most_locks (named c) (count_fits k.counts (tested day k e).fits w) d

-- A wait that the task o begins passes the test.
pub wait_begins :
    (n : Counts) (w : Wait) (c : Call) (o : Task) → 1 ≤ c.head.len → c.head.len ≤ most_numbers → distinct (named c) ≡ true
    → list_declared n w c ≡ true → wait_ok n (wait_for w c.head.len c.list o) ≡ true
wait_begins n w c o a b d e = or_right (not (waiting w)) _ (and_both (and_both (and_both (le-leb _ _ a) (le-leb _ _ b)) d) e)
