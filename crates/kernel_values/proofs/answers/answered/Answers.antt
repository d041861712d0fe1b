-- The answer with empty sets.
use borrow.Author.Rules.{rules}
use Rattle.machine.specs.Step.{answered}
use Rattle.kernel_values.proofs.answers.answered.Goals as goal

pub returns : goal.returns
unfolding answered
returns c = rw c.plain_answer.ensures
