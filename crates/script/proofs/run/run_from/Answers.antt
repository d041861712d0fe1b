-- A run over the bytes from at on.
use borrow.Author.Rules.{part_to_end}
use mathlib.Core.Path.{subst}
use mathlib.Core.List.{List}
use Prim.Native.Nat.{ℕ}
use lib.ListN.{drop}
use Rattle.calendar.specs.Limits.{day_length}
use Rattle.script.specs.Script.{Runs}
use Rattle.script.proofs.TurnLaws.{turned}
use Rattle.script.proofs.run.run_from.Goals as goal

pub returns : goal.returns
returns c =
    let a = c.args in
    let out = c.run.new.out in
    let runs : Runs day_length a.script (drop a.at a.bytes.now) a.out.now out c.run.result =
    subst (λ (x : List ℕ). Runs day_length a.script x a.out.now out c.run.result) (part_to_end a.bytes.now a.at) c.run.ensures in
    turned a.script a.bytes.now a.out.now out a.at c.run.result runs c.requires.longest_line_in_bounds c.requires.at_in_bounds
