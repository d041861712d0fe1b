-- What could be granted is free.
use borrow.Author.Rules.{rules}
use mathlib.Core.Path.{sym, ◌∙◌}
use Rattle.machine.proofs.Granting.{could_free}
use Rattle.kernel_changes.proofs.ask_for.Goals as goal

pub move_all-requires-clause-list_value_3 : goal.move_all-requires-clause-list_value_3
move_all-requires-clause-list_value_3 c =
    let o = c.requires.for_some in
    could_free o.0 o.1 _ _ _ _ (sym (c.could_be_granted.ensures o.0 o.1 o.2) ∙ c.if-could_be_granted.true)
