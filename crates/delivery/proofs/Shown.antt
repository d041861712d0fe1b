-- What is on file is handed out, and it is the rule's.
use mathlib.Core.Path.{◌≡◌}
use mathlib.Core.List.{List}
use Rattle.calendar.specs.Limits.{day_length}
use Rattle.machine.specs.State.{nothing}
use Rattle.machine.specs.Log.{AllOctets}
use Rattle.machine.specs.Test.{kernel_refusal}
use Rattle.kernel.specs.declared.Kernel.{Kernel}
use Rattle.machine.proofs.Filed.{filed_first}
use Rattle.machine.proofs.Sleeping.{filed_is_next}
use Rattle.machine.proofs.Invariants.{is_day_law}
use Rattle.machine.proofs.Taking.{nothing_passes}
use Rattle.machine.proofs.Unholding.{final_passes}
use Rattle.delivery.specs.Delivered.{HandedFresh, Use, Handed, last, records}
use Rattle.delivery.specs.Shown.{ShowsRunner, FreshShowsRunner, ShowsNext, FreshShowsNext}
use Rattle.delivery.proofs.Delivered.{code_is_machine}

-- A kernel that uses leave from a fresh one is refused with neither 1 nor 16.
never_away : (a : Kernel) → HandedFresh a → (us : List Use) → Handed a us → AllOctets (records us) → kernel_refusal day_length (last a us).state ≡ 0
never_away a m us h o =
    let passes = final_passes day_length is_day_law nothing (nothing_passes day_length is_day_law) (records us) o in
    rw ((code_is_machine a us h).state, m) passes.tested

pub shows_runner : ShowsRunner
shows_runner a r t e = rw e (filed_first day_length a.state t)

pub fresh_shows_runner : FreshShowsRunner
fresh_shows_runner a m us h o r e = shows_runner (last a us) r (never_away a m us h o) e

pub shows_next : ShowsNext
shows_next a m t e = rw e (filed_is_next day_length a.state t)

pub fresh_shows_next : FreshShowsNext
fresh_shows_next a m us h o n e = shows_next (last a us) n (never_away a m us h o) e
