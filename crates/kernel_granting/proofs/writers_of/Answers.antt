-- Task by task.
use Rattle.std.proofs.Common.{rules, ◌≡◌, true, ◌<◌, length}
use mathlib.Core.Path.{refl, sym, ap, ◌∙◌}
use native.Mathlib.Omega.{arith}
use native.Mathlib.Nat.{le_antisymm}
use lib.ListN.{take}
use lib.Seq.{length-take-le, get_or-take}
use Rattle.lock.specs.Locks.{waiting}
use Rattle.lock.specs.declared.Wait.TheVariants.{Reserve}
use Rattle.lock.proofs.Levels.{same_kind_law}
use Rattle.machine.specs.State.{task_at}
use Rattle.kernel_values.proofs.Owned.{list_long}
use Rattle.kernel_granting.proofs.WriterLaws.{tells_none, tells_passed, tells_more}
use Rattle.kernel_granting.proofs.writers_of.Goals as goal
use Rattle.kernel_granting.proofs.writers_of.Goals.{Start, Joined-is_reserve, then-is_reserve, else-is_reserve}

-- The tasks that are looked at.
looked_at : (c : Start) → length (take c.args.k.counts.tasks c.args.k.tasks) ≡ c.args.k.counts.tasks
looked_at c = let own : length c.args.k.tasks ≡ 32 = search rules in length-take-le _ _ (omega (arith, own, c.requires))

pub loop-t-init : goal.loop-t-init
loop-t-init c = rw c.no_writers-w.ensures (tells_none _)

pub loop-t-preserved : goal.loop-t-preserved
loop-t-preserved c =
    let l = c.loop-t in
    let k = c.args.k in
    let less : l.t-index < k.counts.tasks = omega (arith, c.loop-t-test.true, looked_at (goal.at.loop-t-preserved c).Start) in
    let here = get_or-take k.counts.tasks k.tasks l.t-index _ less in
    let r = sym c.is_reserve.ensures in
    elim c.if-is_reserve.branch [
      | then-is_reserve w ↦
          let e = r ∙ w.if-is_reserve.true in
          let waits : waiting (task_at k.tasks l.t-index).wait ≡ true = rw (← here) (ap waiting (same_kind_law _ Reserve e)) in
          let long = list_long k (c.well_formed.0.0, c.well_formed.0.1.1) l.t-index waits in
          tells_more k.tasks l.t-index _ here l.w c.if-is_reserve.w l.invariant w.with_list-w.result e (rw here long) w.in_list.ensures w.with_list-w.ensures w.w-is
      | else-is_reserve w ↦ tells_passed k.tasks l.t-index _ here l.w c.if-is_reserve.w l.invariant (r ∙ w.if-is_reserve.false) w.w-is
    ]

pub returns : goal.returns
returns c =
    let l = c.loop-t in
    let n = looked_at (goal.at.returns c).Start in
    record { known = refl; tells = rw (le_antisymm l.auto.t-index-end c.loop-t-test.false, n) at l.invariant }
