-- The scan's sets and lead are those of all tasks; the second scan is of the kernel that serving leaves.
use borrow.Author.Rules.{rules}
use borrow.Author.Tests.{not-true}
use mathlib.Core.Path.{◌≡◌, refl, sym, ◌∙◌}
use mathlib.Core.Logic.{⊎_elim}
use mathlib.Core.Bool.{true, false, cond}
use mathlib.Core.List.{List}
use Prim.Native.Nat.{◌≤◌, ◌-◌}
use native.Mathlib.Nat.{min-eq_left, le_antisymm}
use Rattle.facts.proofs.Bools.{contra}
use Rattle.task.specs.declared.Task.{Task}
use Rattle.machine.specs.State.{most_tasks}
use Rattle.kernel_values.proofs.Owned.{Owned, tables_long}
use Rattle.kernel_sets.specs.Standing.{Turned}
use Rattle.kernel_test.proofs.SoundLaws.{places_fit}
use Rattle.kernel_finish.proofs.Scanning.{Scanned, Scanning, scanning_none, scanning_more, scanning_all}
use Rattle.kernel_finish.proofs.EndLaws.{First, Second, Settled, nobody_waits, settled_idle, then_second, settled_served, settled_ends}
use Rattle.kernel_finish.proofs.finished.Given as goal

abbrev pub invariant-loop-i-2 : goal.invariant-loop-i-2
invariant-loop-i-2 l =
    (l.i ≤ l.n) × Scanning l.k l.late l.i l.lead l.runnable l.waiting

abbrev pub decreases-loop-i-2 : goal.decreases-loop-i-2
decreases-loop-i-2 l = l.n - l.i

abbrev pub invariant-loop-i : goal.invariant-loop-i
invariant-loop-i l =
    (l.served ≡ false → First l.initial.k l.m l.turned l.k l.granted l.late) × (l.served ≡ true → Second l.initial.k l.m l.turned l.k l.granted l.late l.before)

abbrev pub decreases-loop-i : goal.decreases-loop-i
decreases-loop-i l = cond l.served 0 1
