-- By the one test.
use borrow.Author.Tests.{lt-ltb}
use mathlib.Core.Path.{sym}
use mathlib.Core.Bool.{true}
use Rattle.kernel_urgency.specs.Leads.{against}
use Rattle.kernel_urgency.proofs.LeadLaws.{against_later}
use Rattle.kernel_urgency.proofs.scan.Lead.against.Goals as goal

pub returns-then-self-urgency : goal.returns-then-self-urgency
returns-then-self-urgency c = let a = c.args in sym (against_later a.self true a.urgency a.i c.if-self-urgency.true)

pub returns : goal.returns
unfolding against
returns c = let a = c.args in rw (lt-ltb a.urgency a.self.urgency c.if-self-urgency.false)
