-- The invariant: all were 0 so far, and what is left decides.
use mathlib.Core.Path.{◌≡◌}
use mathlib.Core.Bool.{◌&&◌}
use Prim.Native.Nat.{◌*◌}
use lib.ListN.{drop}
use Rattle.lists.specs.Lists.{all_zero}
use Rattle.lists.proofs.zeros.Given as goal

abbrev pub invariant-loop-eight : goal.invariant-loop-eight
invariant-loop-eight l = all_zero l.s ≡ (l.ok && all_zero (drop (l.eight-index * 8) l.s))
