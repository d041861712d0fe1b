-- The invariant: all were 0 so far, and what is left decides.
use mathlib.Core.Path.{◌≡◌}
use mathlib.Core.Bool.{◌&&◌}
use lib.ListN.{drop}
use Rattle.lists.specs.Lists.{all_zero}
use Rattle.lists.proofs.zero_bytes.Given as goal

abbrev pub invariant-loop-x : goal.invariant-loop-x
invariant-loop-x l = all_zero l.s ≡ (l.ok && all_zero (drop l.x-index l.s))
