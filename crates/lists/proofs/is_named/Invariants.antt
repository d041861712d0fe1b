-- The invariant: what is left decides.
use mathlib.Core.Path.{◌≡◌}
use lib.ListN.{drop}
use Rattle.lists.specs.Lists.{names}
use Rattle.lists.proofs.is_named.Given as goal

abbrev pub invariant-loop-y : goal.invariant-loop-y
invariant-loop-y l = names l.s l.x ≡ names (drop l.y-index l.s) l.x
