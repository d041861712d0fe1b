-- What is enabled doesn't matter to the waits, nor to what ends a call but as its work.
use borrow.Author.Rules.{rules}
use Rattle.machine.specs.Work.{only_enabled}
use Rattle.machine.specs.Step.{finish}
use Rattle.kernel_test.specs.Looks.{waits_ok}
use Rattle.kernel_test.proofs.AskLaws.{interrupt_fits}
use Rattle.kernel_interrupts.proofs.enable_in.Goals as goal

pub bounds-k-i : goal.bounds-k-i
bounds-k-i c = interrupt_fits c.args.k c.requires.k_value c.args.i c.requires.i_lt_interrupts

pub done-requires : goal.done-requires
unfolding waits_ok
done-requires c = search rules

pub returns : goal.returns
unfolding finish only_enabled
returns c = c.done.ensures
