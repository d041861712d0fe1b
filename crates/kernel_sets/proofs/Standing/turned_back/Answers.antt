-- Digit by digit.
use mathlib.Core.Path.{sym, ◌∙◌}
use Rattle.kernel_sets.proofs.SetTill.{holds_xor}
use Rattle.kernel_sets.proofs.Standing.turned_back.Goals as goal

pub returns : goal.returns
returns c =
    let a = c.args in
    λ n ts us s t.
    record {
      runnable = λ i l. holds_xor i a.self.runnable a.turned.runnable ∙ rw (s.runnable i l) (sym (t.runnable i l));
      waiting = λ i l. holds_xor i a.self.waiting a.turned.waiting ∙ rw (s.waiting i l) (sym (t.waiting i l));
    }
