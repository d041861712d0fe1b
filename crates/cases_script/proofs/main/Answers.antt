-- What is filled lies in the buffer, after a script that has ended too.
use native.Mathlib.Omega.{arith}
use Rattle.cases_script.proofs.main.Goals as goal
use Rattle.cases_script.proofs.main.Goals.{then-got-len, else-got-len}

pub overflow_sub-fill : goal.overflow_sub-fill
overflow_sub-fill c =
    elim c.if-got-len.branch [ then-got-len w ↦ omega arith | else-got-len w ↦ omega (arith, c.loop.invariant) ]
