-- Each set by whether the two differ.
use borrow.Author.Rules.{rules}
use Rattle.kernel_sets.proofs.SetTill.{unlike}
use Rattle.kernel_sets.specs.Standing.{with_turn}
use Rattle.kernel_sets.proofs.Standing.with_turn.Goals as goal

pub returns : goal.returns
returns c =
    unfold with_turn in
    rw (
      c.put_if-waiting.ensures,
      c.put_if-runnable.ensures,
      unlike c.is_runnable.result c.is_runnable-2.result,
      unlike c.is_waiting.result c.is_waiting-2.result,
      c.is_runnable.ensures,
      c.is_runnable-2.ensures,
      c.is_waiting.ensures,
      c.is_waiting-2.ensures,
    )
