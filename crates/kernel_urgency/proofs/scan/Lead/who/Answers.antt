-- Nobody where the place is none of the table.
use borrow.Author.Tests.{le-leb, lt-leb}
use native.Mathlib.Omega.{arith}
use Rattle.kernel_urgency.specs.Leads.{whose}
use Rattle.kernel_urgency.proofs.scan.Lead.who.Goals as goal

pub returns-then-self-ge-MOST_TASKS : goal.returns-then-self-ge-MOST_TASKS
unfolding whose
returns-then-self-ge-MOST_TASKS c = rw (le-leb _ _ c.if-self-ge-MOST_TASKS.true)

pub overflow_cast-result : goal.overflow_cast-result
overflow_cast-result c = omega (arith, c.if-self-ge-MOST_TASKS.false)

pub returns : goal.returns
unfolding whose
returns c = rw (lt-leb _ _ c.if-self-ge-MOST_TASKS.false)
