-- Number by number.
use Rattle.kernel_granting.proofs.WriterLaws.{Lowering}
use Rattle.kernel_granting.proofs.with_list.Given as goal

abbrev pub invariant-loop-x : goal.invariant-loop-x
invariant-loop-x l = Lowering l.initial.now l.priority l.list l.x-index l.now
