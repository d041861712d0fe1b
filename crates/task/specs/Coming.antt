-- What comes to a task without another call, and when.
use Rattle.std.specs.Prelude.{None, Some, Bool, List, [], ◌∷◌}
use Rattle.calendar.specs.Moments.{has_at, Moment}
use Rattle.calendar.specs.declared.Instant.{Instant}
use Rattle.schedule.specs.Coming.{next_of}
use Rattle.task.specs.declared.Hold.{Hold}
use Rattle.task.specs.declared.Hold.TheVariants.{Unheld, Suspended, Delayed}
use Rattle.task.specs.declared.Task.{Task}

abbrev pub delay_end : Hold → Moment
delay_end Unheld = None
delay_end Suspended = None
delay_end (Delayed n) = Some n

-- All that pends for a task.
abbrev pub pendings : Task → List Moment
pendings t = delay_end t.hold ∷ next_of t.schedule.alarm ∷ next_of t.continuation ∷ []

-- Something comes to the task at n.
abbrev pub comes : Instant → Task → Bool
comes n t = has_at n (pendings t)
