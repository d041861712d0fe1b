-- The test of the alarm.
use borrow.Author.Rules.{rules}
use mathlib.Core.Path.{◌∙◌}
use Rattle.kernel_test.proofs.TaskFit.{continuation_some}
use Rattle.kernel_test.proofs.check.is_continuation_ok.Goals as goal

pub returns : goal.returns
returns c p l = c.is_alarm_ok.ensures ∙ continuation_some _ _ p c.requires l
