-- Nobody is in an empty set.
use Rattle.machine.proofs.SetLaws.{has_empty}
use Rattle.kernel_sets.proofs.nobody_turned.Goals as goal

pub returns : goal.returns
returns c = λ n ts. record { runnable = λ i l. rw (has_empty i); waiting = λ i l. rw (has_empty i) }
