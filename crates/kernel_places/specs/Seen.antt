-- The places that a scan has seen, together.
use Rattle.std.specs.Prelude.{List, ℕ, zero, suc, ◌%◌}
use Rattle.std.specs.Int.Bits.{bit_or}
use Rattle.machine.specs.Sets.{put}
use Rattle.machine.specs.State.{most_tasks, place_at}
use Rattle.kernel_places.specs.declared.seen.Seen.{Seen}

-- None yet.
abbrev pub none_seen : Seen
none_seen = record { places = 0; bits = 0 }

-- And the place p.
abbrev pub with_place : ℕ → Seen → Seen
with_place p s = record { places = put (p % most_tasks) s.places; bits = bit_or s.bits p }

-- Those of the first n tasks.
unfoldable pub seen_by : ℕ → List ℕ → Seen
seen_by zero ps = none_seen
seen_by (suc n) ps = with_place (place_at ps n) (seen_by n ps)
