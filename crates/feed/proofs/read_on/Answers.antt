-- A read that failed brought nothing.
use mathlib.Core.Path.{sym, ◌∙◌}
use Rattle.feed.proofs.WholeLaws.{failed_read}
use Rattle.feed.proofs.read_on.Goals as goal

pub returns-clause-failed : goal.returns-clause-failed
returns-clause-failed g c =
    let e = c.fed_by.ensures in
    λ f. failed_read c.args.held c.read.result c.fed_by.result e.total e.more e.whole (sym e.error ∙ f)
