-- A whole script, where there is room for its lines, and M1.
use mathlib.Core.Path.{◌≡◌, refl, sym, ap, ◌∙◌}
use mathlib.Core.List.{List, ◌++◌, append-nil}
use Prim.Native.Nat.{ℕ}
use native.Mathlib.Omega.{arith}
use lib.ListN.{length, drop, length-drop}
use Rattle.calendar.specs.Limits.{day_length}
use Rattle.machine.specs.State.{nothing}
use Rattle.machine.specs.Log.{final, log}
use Rattle.machine.proofs.Computing.{computed}
use Rattle.lines.specs.Decimals.{spelt, decimal}
use Rattle.lines.specs.Lines.{running_text, sets_text, line}
use Rattle.script.specs.Records.{cut, records}
use Rattle.script.specs.Printed.{silent, printed, lines}
use Rattle.script.specs.Script.{going_on}
use Rattle.script.specs.Promises.{RunsWhole}
use Rattle.script.specs.Marked.{ascii, m1_script, m1_text, M1Prints}
use Rattle.script.proofs.RecordLaws.{none_left}
use Rattle.script.proofs.PromiseProofs.{scripts_carried}

pub runs_whole : RunsWhole
runs_whole day p bytes before after r h t =
    let k = p.kernel.state in
    let c = scripts_carried day p (records bytes) (length before) in
    let none = c.all h in
    let done : records bytes ≡ c.done = c.split ∙ ap (λ (l : List (List ℕ)). c.done ++ l) none ∙ append-nil c.done in
    record {
      text = rw (ap (λ (l : List (List ℕ)). lines (log day k l)) done ∙ sym c.text) t.text;
      script = t.script ∙ c.script ∙ ap (λ (l : List (List ℕ)). going_on (final day k l)) (sym done);
      read = omega (arith, t.within, none_left (drop r.read bytes) (t.rest ∙ none), length-drop r.read bytes);
      full = rw none at t.full;
    }

m1_lines : lines (log day_length nothing (records m1_script)) ≡ m1_text
unfolding computed cut records silent printed lines spelt decimal running_text sets_text line ascii
m1_lines = refl

m1_count : length (records m1_script) ≡ 9
unfolding cut records ascii
m1_count = refl

pub m1_prints : M1Prints
m1_prints before after r h t = rw (← m1_lines) (runs_whole day_length (going_on nothing) m1_script before after r (rw m1_count h) t)
