-- Task by task.
use borrow.Author.Rules.{rules}
use Prim.Native.Nat.{◌-◌}
use Rattle.kernel_sets.proofs.SetOps.{holds_or, holds_not}
use Rattle.kernel_places.proofs.late_of.Goals as goal

pub returns : goal.returns
returns c = let a = c.args in λ i l. rw (holds_or i (4294967295 - a.before.runnable) a.started, holds_not i a.before.runnable l (search rules))
