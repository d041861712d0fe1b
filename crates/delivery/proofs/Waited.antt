-- The stages of what the code hands back are the machine's, so the machine's bound is the code's.
use mathlib.Core.Path.{◌≡◌, refl, sym}
use mathlib.Core.List.{List, [], ◌∷◌}
use Rattle.calendar.specs.Limits.{day_length}
use Rattle.machine.specs.Running.{Running, runner}
use Rattle.machine.proofs.Invariants.{is_day_law}
use Rattle.wait_bound.specs.Stages.{stages_from}
use Rattle.wait_bound.proofs.Bounded.{wait_is_bounded, bound_holds}
use Rattle.kernel.specs.declared.Kernel.{Kernel}
use Rattle.delivery.specs.Delivered.{Use, Handed, records}
use Rattle.delivery.specs.Waited.{uses_from, CodeStages, CodeWaits, CodeBoundHolds}
use Rattle.delivery.proofs.Delivered.{next_state, answered}

as_stages : (us : List Use) (r : Running) (a : Kernel) → Handed a us → uses_from r a us ≡ stages_from day_length r a.state (records us)
unfolding Handed uses_from records stages_from
as_stages [] r a h = refl
as_stages (u ∷ us) r a h =
    rw (as_stages us u.reply.answer.running u.reply.kernel h.1, next_state a u h.0, answered a u h.0)

pub code_stages : CodeStages
code_stages a us h = as_stages us (runner a.state) a h

pub code_waits : CodeWaits
code_waits a p us h o j s w = rw (code_stages a us h) (wait_is_bounded day_length is_day_law a.state p (records us) o j s w)

pub code_bound_holds : CodeBoundHolds
code_bound_holds a p us h o j b e = rw (code_stages a us h) (bound_holds day_length is_day_law a.state p (records us) o j b (sym e))
