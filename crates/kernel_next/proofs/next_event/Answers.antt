-- The next event among the tasks looked at.
use Rattle.std.proofs.Common.{rules, refl, arith}
use Rattle.std.proofs.lemmas.List.{get_or-take}
use Rattle.machine.specs.NextEvent.{next_among, all_pending}
use Rattle.task.specs.State.{no_task}
use Rattle.calendar.specs.Moments.{first_after}
use Rattle.kernel_next.proofs.NextLaws.{among_more}
use Rattle.kernel_next.proofs.next_event.Goals as goal

pub loop-t-init : goal.loop-t-init
unfolding first_after next_among all_pending
loop-t-init c = (omega arith, refl)

pub loop-t-preserved : goal.loop-t-preserved
loop-t-preserved c =
    let l = c.loop-t in
    let a = c.args in
    let t = get_or-take a.k.counts.tasks a.k.tasks l.t-index no_task (omega (arith, l.auto)) in
    let e = rw (c.sooner_due.ensures, c.sooner_due-soonest.ensures, t) at c.sooner_end-soonest.ensures in
    (omega arith, among_more a.now a.k.tasks l.t-index l.soonest c.sooner_end-soonest.result l.invariant.1 e)
