-- Names for contracts: the bytes of a tick, and ticks to which nothing comes.
use Rattle.std.specs.Prelude.{Bool, ◌&&◌, List, ℕ, ◌/◌, ◌%◌, eqb, ltb, length, drop}
use Rattle.calendar.specs.Limits.{tick, last_instant}
use Rattle.calendar.specs.Times.{duration, plus}
use Rattle.calendar.specs.Moments.{earlier_than, Moment}
use Rattle.calendar.specs.declared.Instant.{Instant}
use Rattle.layout.specs.Fields.{record_length, byte}
use Rattle.layout.specs.Marks.{code}
use Rattle.layout.specs.declared.Mark.TheVariants.{TI}
use Rattle.lists.specs.Lists.{all_zero}

-- The bytes of one tick: the letters of TI, and zeros.
abbrev pub is_tick : List ℕ → Bool
is_tick s =
    eqb (length s) record_length
    && eqb (byte s 0) (code TI / 256)
    && eqb (byte s 1) (code TI % 256)
    && all_zero (drop 2 s)

-- A tick at n is accepted, and arrives before the next event.
unfoldable pub is_quiet : Instant → Moment → Bool
is_quiet n next = ltb n.0 last_instant && earlier_than (plus n (duration tick)) next
