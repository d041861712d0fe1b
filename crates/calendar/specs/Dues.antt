-- When a start comes due: first, last and next (document 01, "Start kinds").
use Rattle.std.specs.Prelude.{None, Some, Bool, true, ◌&&◌, cond, ℕ, leb, ltb}
use Rattle.calendar.specs.declared.Instant.{Instant}
use Rattle.calendar.specs.declared.Start.{Start}
use Rattle.calendar.specs.declared.Start.TheVariants.{Now, AtTime, After}
use Rattle.calendar.specs.declared.End.{End}
use Rattle.calendar.specs.declared.End.TheVariants.{Open, Until, During}
use Rattle.calendar.specs.Moments.{Moment}
use Rattle.calendar.specs.Times.{duration, plus, until}

module _ (day : ℕ) where
  -- First due of a start that takes effect at n: AT, AFTER and ALL in the call, WHEN at its trigger.
  unfoldable pub first_due : Start → ℕ → Instant → Instant
  first_due Now clock n = n
  first_due (AtTime t) clock n = plus n (until day clock n t)
  first_due (After d) clock n = plus n d

  -- Last allowed due of a start whose first is f.
  unfoldable pub last_allowed : End → ℕ → Instant → Moment
  last_allowed Open clock f = None
  last_allowed (Until u) clock f = Some (plus f (until day clock f u))
  last_allowed (During d) clock f = Some (plus f d)

-- Both ends belong: the last allowed instant itself is allowed.
unfoldable pub allowed : Moment → Instant → Bool
allowed None n = true
allowed (Some last) n = leb n.0 last.0

-- Next due after one at n, or none.
unfoldable pub next_due : ℕ → Moment → Instant → Moment
next_due period last n =
    cond (ltb 0 period && allowed last (plus n (duration period))) (Some (plus n (duration period))) None
