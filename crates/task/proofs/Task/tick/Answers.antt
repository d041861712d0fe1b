-- What the calls ensure.
use borrow.Author.Rules.{rules}
use Rattle.task.proofs.Task.tick.Goals as goal

pub returns : goal.returns
returns c = rw (c.fall.ensures, c.continue_at.ensures, c.wake.ensures)
