-- To whom something may come: a name for a contract.
use Rattle.std.specs.Prelude.{Bool, true, ◌||◌, eqb}
use Rattle.calendar.specs.declared.Instant.{Instant}
use Rattle.task.specs.declared.Hold.{Hold}
use Rattle.task.specs.declared.Hold.TheVariants.{Unheld, Suspended, Delayed}

-- Something may come at n to a task that is held so, with these next dues of its schedule and its continuation.
abbrev pub may_come : Hold → Instant → Instant → Instant → Bool
may_come Unheld m c n = eqb m.0 n.0 || eqb c.0 n.0
may_come Suspended m c n = eqb m.0 n.0 || eqb c.0 n.0
may_come (Delayed d) m c n = true
