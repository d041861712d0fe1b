-- The tasks below i with an event have gone to the end.
use borrow.Author.Rules.{rules}
use mathlib.Core.Path.{◌≡◌, refl, sym, ◌∙◌}
use Prim.Native.Nat.{◌≤◌, ◌-◌}
use native.Mathlib.Nat.{le_antisymm}
use native.Mathlib.Numerals.{add-one}
use Rattle.machine.specs.Places.{moved_below}
use Rattle.machine.specs.Sets.{holds}
use Rattle.machine.specs.State.{most_tasks}
use Rattle.machine.proofs.Places.{moved_nobody}
use Rattle.machine.proofs.SetLaws.{has_empty}
use Rattle.kernel_places.proofs.moved.Goals as goal
use Rattle.kernel_places.proofs.moved.Goals.{then-is_in, else-is_in}

pub returns-then-events-eq0 : goal.returns-then-events-eq0
returns-then-events-eq0 c =
    let a = c.args in
    sym (moved_nobody a.n (λ j. holds j a.events) a.n a.places (λ j l. rw (c.if-events-eq0.true, has_empty j)))

pub loop-i-init : goal.loop-i-init
loop-i-init c = unfold moved_below in (search rules, search rules, refl)

pub loop-i-preserved : goal.loop-i-preserved
loop-i-preserved c =
    let a = c.args in
    let said = c.is_in.ensures in
    let h = c.loop-i.invariant in (
      search rules,
      h.1,
      unfold moved_below in
          elim c.if-is_in.branch [
            | then-is_in w ↦ rw (w.places-is, w.to_end-next.ensures, add-one, ← said, w.if-is_in.true, h.2)
            | else-is_in w ↦ rw (w.places-is, add-one, ← said, w.if-is_in.false) h.2
          ],
    )

pub returns : goal.returns
returns c =
    let a = c.args in
    c.loop-i.invariant.2 ∙ rw (le_antisymm c.loop-i.invariant.0 c.loop-i-test.false)
