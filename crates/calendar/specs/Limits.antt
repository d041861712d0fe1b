-- The limits of document 01, "What a kernel holds", each named once. All times are counted in ticks of 1 ms.
use Rattle.std.specs.Prelude.{Bool, ◌&&◌, ℕ, ◌/◌, ◌^◌, leb, ltb}

-- one tick, by which the present instant grows
abbrev pub tick : ℕ
tick = 1

-- the ticks of a day
abbrev pub day_length : ℕ
day_length = 86400000

-- the ticks of an hour
abbrev pub hour : ℕ
hour = day_length / 24

-- the longest duration and the longest period
abbrev pub longest_duration : ℕ
longest_duration = 1000000000

-- the last present instant
abbrev pub last_instant : ℕ
last_instant = 2 ^ 40

-- the largest stored instant
abbrev pub most_instant : ℕ
most_instant = 2 ^ 42

-- A rule that needs the length of a day is given it, as its first argument.
abbrev pub is_time_of_day : ℕ → ℕ → Bool
is_time_of_day day t = ltb t day

abbrev pub is_duration : ℕ → Bool
is_duration d = leb 1 d && leb d longest_duration

-- 0: no repetition
abbrev pub is_period : ℕ → Bool
is_period p = leb p longest_duration
