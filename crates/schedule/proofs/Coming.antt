-- An alarm falls due at its next instant.
use Rattle.std.specs.Prelude.{None, Some}
use mathlib.Core.Path.{◌≡◌, refl}
use mathlib.Core.Bool.{Bool, true, false, cond, ◌&&◌}
use lib.Dec.{eqb}
use Rattle.calendar.specs.Moments.{is_at}
use Rattle.schedule.specs.Alarms.{pending}
use Rattle.schedule.specs.Promises.{FallsAtNext}

pub falls_at_next : FallsAtNext
falls_at_next n a = go (pending a.plan)
  where
    go : (b : Bool) → is_at n (cond b (Some a.next) None) ≡ (b && eqb a.next.0 n.0)
    go true = refl
    go false = refl
