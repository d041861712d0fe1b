-- Number by number.
use Rattle.std.proofs.Common.{rules}
use Rattle.kernel_granting.proofs.WriterLaws.{lowering_more, lowering_all}
use Rattle.kernel_granting.proofs.with_list.Goals as goal

pub loop-x-preserved : goal.loop-x-preserved
loop-x-preserved c = lowering_more c.loop-x.invariant _ c.loop-x-test.true c.with_number-now.ensures

pub returns : goal.returns
returns c = lowering_all c.loop-x.invariant c.loop-x-test.false
