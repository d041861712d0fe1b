-- Nothing was done, nobody is marked, and nobody has turned.
use borrow.Author.Rules.{rules}
use mathlib.Core.Path.{ap, ◌∙◌}
use Rattle.machine.specs.Work.{only_enabled}
use Rattle.machine.specs.Step.{finish}
use Rattle.kernel_finish.specs.Ends.{work_here}
use Rattle.kernel_finish.proofs.EndLaws.{next_of_work}
use Rattle.kernel_finish.proofs.done.Goals as goal

pub returns : goal.returns
unfolding only_enabled
returns c =
    let k = c.args.k in
    c.finished.ensures k.tasks (c.nobody_turned.ensures k.counts.tasks k.tasks)
    ∙ next_of_work k _ c.requires.next_value
    ∙ ap (λ m. finish k (work_here k m)) c.no_sets.ensures
