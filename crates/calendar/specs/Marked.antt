-- The marked cases of document 01 that speak of times. Each is proved in proofs/Marked.antt.
use Rattle.std.specs.Prelude.{None, Some, ◌≡◌, List, [], ◌∷◌, ℕ, zero, suc, ◌*◌}
use Rattle.calendar.specs.declared.Instant.{Instant}
use Rattle.calendar.specs.declared.Start.{Start}
use Rattle.calendar.specs.declared.Start.TheVariants.{AtTime}
use Rattle.calendar.specs.declared.End.{End}
use Rattle.calendar.specs.declared.End.TheVariants.{Open, Until}
use Rattle.calendar.specs.Moments.{Moment}
use Rattle.calendar.specs.Limits.{day_length, hour}
use Rattle.calendar.specs.Times.{instant}
use Rattle.calendar.specs.Dues.{first_due, last_allowed, next_due}

-- A due and those that follow it, at most so many.
unfoldable pub following : ℕ → ℕ → Moment → Moment → List ℕ
following zero period last due = []
following (suc most) period last None = []
following (suc most) period last (Some n) = n.0 ∷ following most period last (next_due period last n)

-- The instants at which a start that takes effect at n comes due, at most 1,000 of them.
unfoldable pub dues : ℕ → Instant → Start → ℕ → End → List ℕ
dues clock n start period end =
    let first = first_due day_length start clock n in
    following 1000 period (last_allowed day_length end clock first) (Some first)

pub record MarkedTable : Type 0 where
  -- M2: 12:00, AT 22:00 ALL 2 h UNTIL 2:00
  pub m2 : dues (12 * hour) (instant 0) (AtTime (22 * hour)) (2 * hour) (Until (2 * hour)) ≡ 10 * hour ∷ 12 * hour ∷ 14 * hour ∷ []
  -- M3: the same at 23:00
  pub m3 : dues (23 * hour) (instant 0) (AtTime (22 * hour)) (2 * hour) (Until (2 * hour)) ≡ 23 * hour ∷ 25 * hour ∷ 27 * hour ∷ []
  -- M4: AT the present time, an hour after 12:00, is due at once
  pub m4 : dues (12 * hour) (instant hour) (AtTime (13 * hour)) 0 Open ≡ hour ∷ []
  -- M4: UNTIL the time of the first gives one due
  pub m4_end : dues (12 * hour) (instant 0) (AtTime (22 * hour)) (2 * hour) (Until (22 * hour)) ≡ 10 * hour ∷ []
  -- M4: AT the present time, UNTIL two hours later
  pub m4_later : dues (12 * hour) (instant hour) (AtTime (13 * hour)) hour (Until (15 * hour)) ≡ hour ∷ 2 * hour ∷ 3 * hour ∷ []
