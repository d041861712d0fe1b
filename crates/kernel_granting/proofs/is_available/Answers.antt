-- The number is free, and for an ENTER the table says that no writer goes before.
use Rattle.std.proofs.Common.{rules, ltb, ℕ}
use mathlib.Core.Path.{ap, sym, ◌∙◌}
use native.Mathlib.Omega.{arith}
use Rattle.kernel_granting.proofs.WriterLaws.{there}
use Rattle.kernel_granting.proofs.is_available.Goals as goal

pub returns : goal.returns
returns c l t x n ts s h =
    let a = c.args in
    there n ts l a.priority x a.w _ (c.can_move.ensures l x s.value s.bolt) c.is_enter.ensures
    (λ e. ap (λ (y : ℕ). ltb a.priority y) s.writer ∙ h (sym c.is_enter.ensures ∙ e) a.priority x (omega arith) s.place)
