-- The tasks below i with an event have gone to the end.
use borrow.Author.Rules.{rules}
use mathlib.Core.Path.{◌≡◌, refl, sym, ◌∙◌}
use mathlib.Core.Logic.{⊎_elim}
use Prim.Native.Nat.{◌≤◌, ◌-◌}
use native.Mathlib.Nat.{le_antisymm}
use native.Mathlib.Numerals.{add-one}
use Rattle.machine.specs.Places.{moved_below}
use Rattle.machine.specs.Sets.{holds}
use Rattle.machine.specs.State.{most_tasks}
use Rattle.machine.proofs.Places.{moved_nobody}
use Rattle.machine.proofs.SetLaws.{has_empty}
use Rattle.kernel_places.proofs.moved.Given as goal

abbrev pub invariant-loop-i : goal.invariant-loop-i
invariant-loop-i l = (l.i ≤ l.n) × (l.n ≤ most_tasks) × (l.places ≡ moved_below l.n (λ j. holds j l.events) l.i l.initial.places)

abbrev pub decreases-loop-i : goal.decreases-loop-i
decreases-loop-i l = l.n - l.i
