-- The count so far is that of the tasks so far.
use borrow.Author.Rules.{rules}
use mathlib.Core.Path.{◌≡◌, ◌∙◌}
use mathlib.Core.Logic.{⊎_elim}
use Prim.Native.Nat.{◌+◌, ◌-◌, ◌≤◌}
use native.Mathlib.Nat.{min-le_right}
use native.Mathlib.Omega.{arith}
use Rattle.machine.specs.State.{most_tasks}
use Rattle.kernel_values.proofs.Owned.{Owned, tasks_long}
use Rattle.kernel_bound.proofs.QueueLaws.{ahead_below, ahead_none, ahead_more, ahead_passed, ahead_all}
use Rattle.kernel_bound.proofs.ahead.Given as goal

abbrev pub invariant-loop-i : goal.invariant-loop-i
invariant-loop-i l = (l.i ≤ l.n) × (l.n ≤ most_tasks) × (l.count ≤ l.i) × (l.count ≡ ahead_below l.k l.s l.j l.i)

abbrev pub decreases-loop-i : goal.decreases-loop-i
decreases-loop-i l = l.n - l.i
