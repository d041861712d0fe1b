-- The list is looked at when its length is in range, and tried when its numbers are.
use Rattle.std.proofs.Common.{rules, not}
use mathlib.Core.Path.{ap, sym, ◌∙◌}
use Rattle.facts.proofs.Bools.{contra}
use Rattle.kernel_test.proofs.TestLaws.{not_many, settled_none, settled_long, settled_twice, settled_unknown, settled_below, settled_each}
use Rattle.kernel_test.proofs.check.is_wait_settled.Goals as goal
use Rattle.kernel_test.proofs.check.is_wait_settled.Goals.{then-is_distinct, else-is_distinct}

pub returns-then-not-is_waiting : goal.returns-then-not-is_waiting
returns-then-not-is_waiting c ts h = let a = c.args in
    settled_none a.n ts a.locks a.t c.is_waiting.ensures (ap not c.if-not-is_waiting.true)

pub returns-then-not-t : goal.returns-then-not-t
returns-then-not-t c ts h = let a = c.args in
    settled_long a.n ts a.locks a.t c.is_waiting.ensures (ap not c.if-not-is_waiting.false) (ap not c.if-not-t.true)

pub could_be_granted-requires : goal.could_be_granted-requires
could_be_granted-requires c =
    let a = c.args in
    elim c.if-is_distinct.branch [
      | then-is_distinct w ↦ settled_below a.n a.t c.requires w.count_of.ensures w.are_below.ensures (ap not (sym w.value-is ∙ c.if-are_below.true))
      | else-is_distinct w ↦ contra c.if-are_below.true (w.value-is ∙ w.if-is_distinct.false)
    ]

pub returns-then-are_below : goal.returns-then-are_below
returns-then-are_below c ts h =
    let a = c.args in
    elim c.if-is_distinct.branch [
      | then-is_distinct w ↦
          settled_each a.n ts a.locks a.t c.is_waiting.ensures (ap not c.if-not-is_waiting.false) (ap not c.if-not-t.false)
          c.is_distinct.ensures (ap not w.if-is_distinct.true) w.count_of.ensures w.are_below.ensures (ap not (sym w.value-is ∙ c.if-are_below.true))
          (c.could_be_granted.ensures a.n.tasks ts h)
      | else-is_distinct w ↦ contra c.if-are_below.true (w.value-is ∙ w.if-is_distinct.false)
    ]

pub returns-else-are_below : goal.returns-else-are_below
returns-else-are_below c ts h =
    let a = c.args in
    c.if-are_below.false ∙ elim c.if-is_distinct.branch [
      | then-is_distinct w ↦
          settled_unknown a.n ts a.locks a.t c.is_waiting.ensures (ap not c.if-not-is_waiting.false) (ap not c.if-not-t.false)
          c.is_distinct.ensures (ap not w.if-is_distinct.true) w.count_of.ensures w.are_below.ensures (ap not (sym w.value-is ∙ c.if-are_below.false))
      | else-is_distinct w ↦
          settled_twice a.n ts a.locks a.t c.is_waiting.ensures (ap not c.if-not-is_waiting.false) (ap not c.if-not-t.false)
          c.is_distinct.ensures (ap not w.if-is_distinct.false)
    ]
