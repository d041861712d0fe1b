-- Task by task.
use Prim.Native.Nat.{◌-◌}
use native.Mathlib.Omega.{arith}
use lib.Bits.{bit_and}
use borrow.Author.Rules.{rules}
use Rattle.machine.specs.Places.{event}
use Rattle.kernel_sets.proofs.SetOps.{holds_and, holds_or, holds_not}
use Rattle.kernel_places.proofs.events_of.Goals as goal

pub returns : goal.returns
returns c =
    let a = c.args in
    λ n ts us h s t i b.
    unfold event in
    rw (
      holds_or i (bit_and a.after.runnable c.late_of.result) (bit_and a.after.waiting (4294967295 - a.before.waiting)),
      holds_and i a.after.runnable c.late_of.result,
      holds_and i a.after.waiting (4294967295 - a.before.waiting),
      c.late_of.ensures i (omega arith),
      holds_not i a.before.waiting (omega arith) (search rules),
      s.runnable i b,
      s.waiting i b,
      t.runnable i b,
      t.waiting i b,
    )
