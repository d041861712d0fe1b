-- What serving makes of the kernel so far, in the turns that are left, stays the same.
use borrow.Author.Rules.{rules}
use mathlib.Core.Path.{◌≡◌, sym, ◌∙◌}
use mathlib.Core.Bool.{true}
use Prim.Native.Nat.{ℕ, ◌<◌}
use native.Mathlib.Omega.{arith}
use Rattle.machine.specs.Granting.{servable}
use Rattle.machine.specs.declared.State.{State}
use Rattle.kernel_serving.specs.Served.{served}
use Rattle.kernel_test.proofs.SoundLaws.{places_fit}
use Rattle.kernel_serving.proofs.ServeLaws.{serves_start, serves_idle, serves_end, serves_turn, next_right}
use Rattle.kernel_serving.proofs.serve.Goals as goal

pub loop-turn-init : goal.loop-turn-init
loop-turn-init c = serves_start _ _ c.requires (omega arith)

pub returns-in_default : goal.returns-in_default
returns-in_default c = serves_idle c.loop-turn.invariant (sym c.next_served.ensures ∙ c.in_default.is)

pub grant_to-s-requires : goal.grant_to-s-requires
grant_to-s-requires c =
    let k = c.loop-turn.s.state in
    let r = next_right k.counts.tasks k.places (served k 0) c.in-Some.i (sym c.next_served.ensures ∙ c.in-Some.is) in
    record { k_value = c.loop-turn.invariant.waits; i_lt_tasks = r.0; i_value = r.1 }

pub put_task-requires : goal.put_task-requires
put_task-requires c =
    let k = c.loop-turn.s.state in
    let r = next_right k.counts.tasks k.places (served k 0) c.in-Some.i (sym c.next_served.ensures ∙ c.in-Some.is) in
    omega (arith, r.0, places_fit k c.loop-turn.invariant.waits)

pub loop-turn-preserved : goal.loop-turn-preserved
loop-turn-preserved c =
    rw (c.grant_to-s.ensures, c.put_task.ensures)
    (serves_turn c.loop-turn.invariant c.in-Some.i _ (omega (arith, c.loop-turn-test.true)) (sym c.next_served.ensures ∙ c.in-Some.is))

pub returns : goal.returns
returns c = serves_end c.loop-turn.invariant (omega (arith, c.loop-turn-test.false))
