-- By its tests.
use mathlib.Core.Bool.{not}
use mathlib.Core.Path.{ap, refl}
use borrow.Author.Rules.{rules}
use Rattle.kernel_values.proofs.Owned.{Owned, tasks_long}
use Rattle.kernel_bound.proofs.QueueLaws.{not_declared, not_for_one, for_one}
use Rattle.kernel_bound.proofs.bound_of.Goals as goal

pub returns-then-in_table-j : goal.returns-then-in_table-j
returns-then-in_table-j c =
    let n = c.in_table in
    not_declared c.args.k c.args.task (tasks_long c.args.k (((c.well_formed.0.0, c.well_formed.0.1.1)))) n.ensures c.if-in_table-j.true

pub returns-then-not-is_for_one : goal.returns-then-not-is_for_one
returns-then-not-is_for_one c =
    let n = c.in_table in
    not_for_one c.args.k c.args.task (tasks_long c.args.k (((c.well_formed.0.0, c.well_formed.0.1.1)))) n.ensures c.if-in_table-j.false c.is_for_one.ensures (ap not c.if-not-is_for_one.true)

pub returns : goal.returns
returns c =
    let n = c.in_table in
    for_one c.args.k c.args.task (tasks_long c.args.k (((c.well_formed.0.0, c.well_formed.0.1.1)))) n.ensures c.if-in_table-j.false c.is_for_one.ensures (ap not c.if-not-is_for_one.false) refl c.ahead-number.ensures.0
