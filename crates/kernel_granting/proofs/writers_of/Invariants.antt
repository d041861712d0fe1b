-- Task by task.
use Rattle.kernel_granting.specs.Writers.{Tells}
use Rattle.kernel_granting.proofs.writers_of.Given as goal

abbrev pub invariant-loop-t : goal.invariant-loop-t
invariant-loop-t l = Tells l.t-index l.fn.k.tasks l.w
