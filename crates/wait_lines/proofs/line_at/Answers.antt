-- Three numbers and a line feed, one after the other.
use native.Mathlib.Omega.{arith}
use Rattle.lines.specs.Lines.{line_feed}
use Rattle.lines.proofs.PlacedLaws.{byte_wrote, then}
use Rattle.wait_lines.specs.Text.{wait_line}
use Rattle.wait_lines.proofs.line_at.Goals as goal

pub returns-clause-wrote : goal.returns-clause-wrote
unfolding wait_line
returns-clause-wrote c =
    let two = then c.byte_at-semaphore.ensures.wrote c.spaced_at-number.ensures.wrote (omega arith) in
    let three = then two c.spaced_at-feed.ensures.wrote (omega arith) in
    let feed = byte_wrote c.spaced_at-feed.new.out c.spaced_at-feed.result line_feed (omega arith) in
    then three feed (omega arith)
