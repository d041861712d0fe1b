-- What every start keeps, whatever the numbers. Each of these is proved in proofs/Theorems.antt.
use Rattle.std.specs.Prelude.{None, Some, ◌≡◌, Bool, true, false, ℕ, ◌+◌, ◌≤◌, ◌<◌, leb}
use Rattle.calendar.specs.declared.Instant.{Instant}
use Rattle.calendar.specs.declared.Duration.{Duration}
use Rattle.calendar.specs.declared.Start.{Start}
use Rattle.calendar.specs.declared.Start.TheVariants.{Now, AtTime, After}
use Rattle.calendar.specs.declared.End.{End}
use Rattle.calendar.specs.declared.End.TheVariants.{Open, Until, During}
use Rattle.calendar.specs.Moments.{Moment}
use Rattle.calendar.specs.Limits.{day_length, last_instant, most_instant, is_duration, is_period}
use Rattle.calendar.specs.Times.{duration, plus, time_of_day, until}
use Rattle.calendar.specs.Dues.{first_due, last_allowed, allowed, next_due}

-- m is the next instant from n on whose time of day is t.
pub record IsNext (day clock t : ℕ) (n m : Instant) : Type 0 where
  pub not_before : n.0 ≤ m.0
  pub within_a_day : m.0 < n.0 + day
  pub time_is : time_of_day day clock m ≡ t
  pub none_between : (k : Instant) → n.0 ≤ k.0 → time_of_day day clock k ≡ t → m.0 ≤ k.0

-- The duration until t leads to the next t.
abbrev pub UntilIsNext : Type 0
UntilIsNext =
    (day clock t : ℕ) (n : Instant) → t < day → IsNext day clock t n (plus n (until day clock n t))

-- AT comes due at the next t.
abbrev pub AtIsNext : Type 0
AtIsNext =
    (day clock t : ℕ) (n : Instant) → t < day → IsNext day clock t n (first_due day (AtTime t) clock n)

-- UNTIL ends at the next t, seen from the first due.
abbrev pub EndIsNext : Type 0
EndIsNext =
    (day clock t : ℕ) (f : Instant) → t < day →
    (l : Instant) × (last_allowed day (Until t) clock f ≡ Some l) × IsNext day clock t f l

-- From now to the present time of day it is no time at all.
abbrev pub PresentIsNow : Type 0
PresentIsNow =
    (day clock : ℕ) (n : Instant) →
    0 < day → until day clock n (time_of_day day clock n) ≡ duration 0

-- No start comes due before it takes effect.
abbrev pub FirstNotBefore : Type 0
FirstNotBefore = (day clock : ℕ) (s : Start) (n : Instant) → n.0 ≤ (first_due day s clock n).0

-- ALL alone is due at once, AFTER a duration in range is not.
abbrev pub NowIsNow : Type 0
NowIsNow = (day clock : ℕ) (n : Instant) → first_due day Now clock n ≡ n

abbrev pub AfterIsLater : Type 0
AfterIsLater =
    (day clock : ℕ) (d : Duration) (n : Instant) →
    is_duration d.0 ≡ true → n.0 < (first_due day (After d) clock n).0

-- Every end allows the first due.
abbrev pub FirstIsAllowed : Type 0
FirstIsAllowed =
    (day clock : ℕ) (e : End) (f : Instant) → allowed (last_allowed day e clock f) f ≡ true

-- A next due is later than the one before it, by the period, and allowed.
abbrev pub NextIsLater : Type 0
NextIsLater =
    (period : ℕ) (last : Moment) (n m : Instant) →
    next_due period last n ≡ Some m →
    (n.0 < m.0) × (m.0 ≡ n.0 + period) × (allowed last m ≡ true)

-- Both ends belong: what is allowed goes up to the last instant, itself included, and no further.
abbrev pub LastBelongs : Type 0
LastBelongs =
    (l n : Instant) →
    (n.0 ≤ l.0 → allowed (Some l) n ≡ true) × (l.0 < n.0 → allowed (Some l) n ≡ false)

-- The durations of a start and of an end are in range.
unfoldable pub start_fits : Start → Bool
start_fits Now = true
start_fits (AtTime t) = true
start_fits (After d) = is_duration d.0

unfoldable pub end_fits : End → Bool
end_fits Open = true
end_fits (Until t) = true
end_fits (During d) = is_duration d.0

-- The moment is at most the largest stored instant.
unfoldable pub is_stored : Moment → Bool
is_stored None = true
is_stored (Some n) = leb n.0 most_instant

-- First, last and next, counted from a present instant, can be stored.
abbrev pub FirstIsStored : Type 0
FirstIsStored =
    (clock : ℕ) (s : Start) (n : Instant) →
    n.0 ≤ last_instant → start_fits s ≡ true → is_stored (Some (first_due day_length s clock n)) ≡ true

abbrev pub LastIsStored : Type 0
LastIsStored =
    (clock : ℕ) (s : Start) (e : End) (n : Instant) →
    n.0 ≤ last_instant → start_fits s ≡ true → end_fits e ≡ true →
    is_stored (last_allowed day_length e clock (first_due day_length s clock n)) ≡ true

abbrev pub NextIsStored : Type 0
NextIsStored =
    (period : ℕ) (last : Moment) (n : Instant) →
    n.0 ≤ last_instant → is_period period ≡ true → is_stored (next_due period last n) ≡ true
