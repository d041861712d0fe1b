-- By the law of the places seen.
use borrow.Author.Rules.{rules}
use Rattle.kernel_places.proofs.SeenLaws.{wrong_is}
use Rattle.kernel_places.proofs.seen.Seen.are_wrong.Goals as goal

pub returns : goal.returns
returns c = let a = c.args in λ ps e. rw (c.first_places.ensures, e) (wrong_is ps a.n (search rules))
