-- A number of a bolt, and one beyond the bolts.
use Rattle.std.proofs.Common.{rules, ◌<◌, length}
use native.Mathlib.Omega.{arith}
use Rattle.kernel_granting.proofs.WriterLaws.{number_beyond, number_lowered}
use Rattle.kernel_granting.proofs.with_number.Goals as goal

pub returns-then-x : goal.returns-then-x
returns-then-x c =
    let a = c.args in
    let room : a.x < length a.w.first = search (rules, arith) in
    rw c.min.ensures (number_lowered a.w a.priority a.x room)

pub returns-else-x : goal.returns-else-x
returns-else-x c = let a = c.args in number_beyond a.w a.priority a.x c.if-x.false
