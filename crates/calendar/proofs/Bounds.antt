-- No due and no end lies further ahead than the longest duration.
use Rattle.std.specs.Prelude.{None, Some}
use mathlib.Core.Bool.{Bool, true, false, cond, ◌&&◌}
use Prim.Native.Nat.{ℕ, ◌+◌, ◌-◌, ◌≤◌, ◌<◌}
use native.Mathlib.Nat.{mod-lt}
use native.Mathlib.Omega.{arith}
use lib.Dec.{ltb}
use Rattle.calendar.specs.declared.Instant.{Instant}
use Rattle.calendar.specs.declared.Start.{Start}
use Rattle.calendar.specs.declared.Start.TheVariants.{Now, AtTime, After}
use Rattle.calendar.specs.declared.End.{End}
use Rattle.calendar.specs.declared.End.TheVariants.{Open, Until, During}
use Rattle.calendar.specs.Moments.{Moment}
use Rattle.calendar.specs.Limits.{longest_duration}
use Rattle.calendar.specs.Times.{duration, plus, time_of_day, until}
use Rattle.calendar.specs.Dues.{first_due, last_allowed, allowed, next_due}

-- The duration of a start and of an end is no longer than the longest.
abbrev pub ShortStart : Start → Type 0
ShortStart Now = Unit {0}
ShortStart (AtTime t) = Unit {0}
ShortStart (After d) = d.0 ≤ longest_duration

abbrev pub ShortEnd : End → Type 0
ShortEnd Open = Unit {0}
ShortEnd (Until t) = Unit {0}
ShortEnd (During d) = d.0 ≤ longest_duration

abbrev pub Within : ℕ → Moment → Type 0
Within m None = Unit {0}
Within m (Some n) = n.0 ≤ m

module _ (day : ℕ) (some : 0 < day) (room : day ≤ longest_duration) (clock : ℕ) where
  until_lt : (n : Instant) (t : ℕ) → (until day clock n t).0 < day
  unfolding until
  until_lt n t = mod-lt (t + (day - time_of_day day clock n)) some

  pub first_within : (s : Start) (n : Instant) → ShortStart s → (first_due day s clock n).0 ≤ n.0 + longest_duration
  unfolding first_due
  first_within Now n h = omega arith
  first_within (AtTime t) n h = omega (arith, until_lt n t)
  first_within (After d) n h = omega arith

  pub last_within : (e : End) (f : Instant) → ShortEnd e → Within (f.0 + longest_duration) (last_allowed day e clock f)
  unfolding last_allowed
  last_within Open f h = tt
  last_within (Until t) f h = omega (arith, until_lt f t)
  last_within (During d) f h = omega arith

pub next_within : (period : ℕ) (last : Moment) (n : Instant) → period ≤ longest_duration → Within (n.0 + longest_duration) (next_due period last n)
unfolding next_due
next_within period last n h = pick (ltb 0 period && allowed last (plus n (duration period)))
  where
    pick : (b : Bool) → Within (n.0 + longest_duration) (cond b (Some (plus n (duration period))) None)
    pick true = omega arith
    pick false = tt

pub within_more : (m n : ℕ) (t : Moment) → m ≤ n → Within m t → Within n t
within_more m n None h w = tt
within_more m n (Some x) h w = omega arith
