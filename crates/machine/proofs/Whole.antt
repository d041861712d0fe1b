-- The work of a call that asks for a list.
use mathlib.Core.Path.{refl}
use mathlib.Core.Bool.{true, false}
use Rattle.record.specs.Refusals.{named}
use Rattle.lock.specs.Locks.{take_all}
use Rattle.facts.proofs.Bools.{by_bool, contra}
use Rattle.machine.specs.State.{task_at}
use Rattle.machine.specs.Granting.{could_be_granted}
use Rattle.machine.specs.Work.{changed}
use Rattle.machine.specs.Calls.{ask_for, change_of, work_by}
use Rattle.machine.specs.Whole.{AsksWhole}
use Rattle.machine.proofs.Granting.{could_free}
use Rattle.machine.proofs.Works.{only_locks, locks_alone}

pub asks_whole : AsksWhole
unfolding work_by change_of ask_for
asks_whole day k i w waits c r s =
    let t = task_at k.tasks i in
    let b = could_be_granted k.counts.tasks k.tasks k.locks t.current w (named c) in
    rw (s, r)
    (by_bool b
    (λ e. rw (e, locks_alone k i (take_all w k.locks (named c)) true)
    (unfold only_locks in record { free = could_free _ _ _ _ w (named c) e; locks = refl; granted = refl; tasks = refl }))
    (λ e. rw e
    (by_bool waits
    (λ v. rw v (unfold changed in record { locks = refl; granted = refl; waiting = λ z. refl; tried = λ z. contra refl z }))
    (λ v. rw (v, locks_alone k i k.locks false)
    (unfold only_locks in record { locks = refl; granted = refl; waiting = λ z. contra z refl; tried = λ z. refl })))))
