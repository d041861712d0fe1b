-- What stands in the buffer are the lines of the tasks so far.
use Rattle.std.proofs.Common.{◌≡◌, ◌+◌, ◌*◌, ◌≤◌, length}
use Rattle.lines.specs.Buffers.{Wrote}
use Rattle.wait_lines.specs.Text.{text_below, line_room}
use Rattle.wait_lines.proofs.text_at.Given as goal

abbrev pub invariant-loop-task : goal.invariant-loop-task
invariant-loop-task l =
    (length l.out ≡ length l.initial.out)
    × (l.end ≤ l.at + l.task * line_room)
    × Wrote l.initial.out l.at (text_below l.task l.k) l.out l.end
