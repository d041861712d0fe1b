-- Instants, durations and times of day.
use Rattle.std.specs.Prelude.{ℕ, ◌+◌, ◌-◌, ◌%◌}
use Rattle.calendar.specs.declared.Instant.{Instant}
use Rattle.calendar.specs.declared.Duration.{Duration}

abbrev pub instant : ℕ → Instant
instant n = record { 0 = n }

abbrev pub duration : ℕ → Duration
duration d = record { 0 = d }

-- The only sum of an instant: a duration later.
abbrev pub plus : Instant → Duration → Instant
plus n d = instant (n.0 + d.0)

module _ (day : ℕ) where
  -- Which time of day n is, where the clock says what it was at instant 0.
  unfoldable pub time_of_day : ℕ → Instant → ℕ
  time_of_day clock n = (clock + n.0) % day

  -- How long it is from n to the next t: the difference of the two times, modulo a day.
  unfoldable pub until : ℕ → Instant → ℕ → Duration
  until clock n t = duration ((t + (day - time_of_day clock n)) % day)
