-- The first due of a start: the first time is a u32, so from a present instant it stays within the largest one.
use Prim.Native.Nat.{ℕ, ◌≤◌, ◌<◌, ◌^◌}
use native.Mathlib.Omega.{arith}
use Rattle.calendar.specs.Limits.{day_length, last_instant, most_instant}
use Rattle.calendar.specs.Times.{until}
use Rattle.calendar.specs.Dues.{first_due}
use Rattle.calendar.specs.declared.Instant.{Instant}
use Rattle.record.specs.Refusals.{at_time, after_duration}
use Rattle.facts.proofs.Bools.{by_bool}
use Rattle.schedule.specs.Alarms.{start_of}

pub first_fits :
    (clock kind first : ℕ) (n : Instant) →
    first < 2 ^ 32 → n.0 ≤ last_instant → (first_due day_length (start_of kind first) clock n).0 ≤ most_instant
unfolding first_due until
first_fits clock kind first n f l =
    by_bool (at_time kind) (λ a. rw a (omega arith))
    (λ a. rw a (by_bool (after_duration kind) (λ b. rw b (omega arith)) (λ b. rw b (omega arith))))
