-- The places looked at have moved up.
use Rattle.std.proofs.Common.{◌≡◌, length}
use Rattle.machine.specs.State.{place_at}
use Rattle.kernel_places.proofs.Closing.{Closing}
use Rattle.kernel_places.proofs.to_end.Given as goal

abbrev pub invariant-loop-q : goal.invariant-loop-q
invariant-loop-q l = (l.p ≡ place_at l.fn.places l.i) × Closing (place_at l.fn.places l.i) l.fn.places l.q-index l.q-items
