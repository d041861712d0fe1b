-- Each count by its own limit.
use borrow.Author.Rules.{rules}
use Rattle.machine.specs.Test.{counts_ok}
use Rattle.kernel_test.proofs.check.are_counts_ok.Goals as goal

pub returns : goal.returns
unfolding counts_ok
returns c = search rules
