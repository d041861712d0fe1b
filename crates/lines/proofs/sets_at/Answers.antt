-- Five texts and a line feed, one after the other.
use mathlib.Core.Path.{◌∙◌}
use native.Mathlib.Omega.{arith}
use lib.ListN.{length-set}
use Rattle.lines.specs.Lines.{line_feed, sets_text}
use Rattle.lines.proofs.PlacedLaws.{byte_wrote, then}
use Rattle.lines.proofs.sets_at.Goals as goal

pub shape_of-out : goal.shape_of-out
shape_of-out c =
    simp length-set
    (c.spaced_at-feed.auto.out ∙ c.spaced_at-granted.auto.out ∙ c.spaced_at-lost.auto.out ∙ c.spaced_at-ended.auto.out ∙ c.spaced_at-started.auto.out)

pub returns : goal.returns
unfolding sets_text
returns c =
    let due = c.spaced_at-started.ensures.wrote in
    let started = then due c.spaced_at-ended.ensures.wrote (omega arith) in
    let ended = then started c.spaced_at-lost.ensures.wrote (omega arith) in
    let lost = then ended c.spaced_at-granted.ensures.wrote (omega arith) in
    let granted = then lost c.spaced_at-feed.ensures.wrote (omega arith) in
    let feed = byte_wrote c.spaced_at-feed.new.out c.spaced_at-feed.result line_feed (omega arith) in
    record { wrote = then granted feed (omega arith); upper_bound = omega arith }
