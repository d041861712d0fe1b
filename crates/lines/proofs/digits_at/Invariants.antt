-- What is left to store is the text of the rest.
use mathlib.Core.Path.{◌≡◌}
use Prim.Native.Nat.{◌+◌, ◌≤◌}
use lib.ListN.{length}
use Rattle.lines.specs.Buffers.{placed}
use Rattle.lines.specs.Decimals.{decimal}
use Rattle.lines.proofs.digits_at.Given as goal

abbrev pub invariant-loop-rest : goal.invariant-loop-rest
invariant-loop-rest l =
    (l.i ≡ l.at + length (decimal l.rest))
    × (l.i ≤ l.at + 10)
    × (length l.out ≡ length l.initial.out)
    × (placed l.out l.at (decimal l.rest) ≡ placed l.initial.out l.at (decimal l.n))

abbrev pub decreases-loop-rest : goal.decreases-loop-rest
decreases-loop-rest l = l.rest
