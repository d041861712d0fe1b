-- The figures of document 01, "What a kernel holds", as numbers. Proved in proofs/Figures.antt.
use Rattle.std.specs.Prelude.{◌≡◌, ◌↔◌, true, ℕ, ◌≤◌}
use Rattle.calendar.specs.Limits.{tick, day_length, hour, last_instant, most_instant, is_time_of_day, is_duration, is_period}

pub record Figures : Type 0 where
  -- A tick is 1 ms, a day has 86,400,000 ms and an hour 3,600,000.
  pub one_tick : tick ≡ 1
  pub day : day_length ≡ 86400000
  pub an_hour : hour ≡ 3600000
  -- The present instant is at most 2^40, another stored one at most 2^42.
  pub present : last_instant ≡ 1099511627776
  pub stored : most_instant ≡ 4398046511104
  -- A time of day is 0 to 86,399,999 ms.
  pub time_of_day : (t : ℕ) → (is_time_of_day day_length t ≡ true) ↔ (t ≤ 86399999)
  -- A duration is 1 to 1,000,000,000 ms, a period at most as much.
  pub duration : (d : ℕ) → (is_duration d ≡ true) ↔ ((1 ≤ d) × (d ≤ 1000000000))
  pub period : (p : ℕ) → (is_period p ≡ true) ↔ (p ≤ 1000000000)
