-- The table of specs/Marked.antt, by computation.
use mathlib.Core.Path.{refl}
use Rattle.calendar.specs.Times.{time_of_day, until}
use Rattle.calendar.specs.Dues.{first_due, last_allowed, allowed, next_due}
use Rattle.calendar.specs.Marked.{following, dues, MarkedTable}

pub marked_table : MarkedTable
unfolding time_of_day until first_due last_allowed allowed next_due following dues
marked_table = record { m2 = refl; m3 = refl; m4 = refl; m4_end = refl; m4_later = refl }
