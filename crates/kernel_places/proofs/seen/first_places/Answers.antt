-- 32 ones moved down.
use borrow.Author.Rules.{rules}
use Rattle.kernel_places.proofs.SeenLaws.{first_found}
use Rattle.kernel_places.proofs.seen.first_places.Goals as goal

pub returns-then-n-eq0 : goal.returns-then-n-eq0
returns-then-n-eq0 c = rw c.if-n-eq0.true

pub returns : goal.returns
returns c = first_found c.args.n (search rules)
