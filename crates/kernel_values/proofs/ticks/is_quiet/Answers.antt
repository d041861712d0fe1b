-- By the law of the capped moment.
use borrow.Author.Rules.{rules}
use mathlib.Core.Path.{◌∙◌}
use Rattle.kernel_values.proofs.TickLaws.{quiet_is}
use Rattle.kernel_values.proofs.ticks.is_quiet.Goals as goal

pub returns : goal.returns
returns c = rw c.capped_at.ensures (quiet_is c.args.now c.args.next)
