-- A preset that was formed fits 16 bits.
use mathlib.Core.Path.{◌≡◌}
use mathlib.Core.Bool.{◌&&◌}
use mathlib.Core.List.{List}
use Prim.Native.Nat.{ℕ, ◌%◌}
use native.Mathlib.Omega.{arith}
use borrow.Author.Tests.{leb-true}
use Rattle.layout.specs.declared.Head.{Head}
use Rattle.layout.specs.declared.Mark.TheVariants.{DS}
use Rattle.layout.specs.declared.Form.TheVariants.{Preset}
use Rattle.record.specs.Reading.{call_with}
use Rattle.record.specs.Refusals.{most_value, uses, clean_names, clean_start, ranged}
use Rattle.facts.proofs.Bools.{both}
use Rattle.machine.specs.declared.State.{State}
use Rattle.machine.specs.Refusals.{formal_refusal}
use Rattle.machine.proofs.Passed.{formal, formal_as}

pub preset_same :
    (day : ℕ) (k : State) (h : Head) (l : List ℕ) → formal_refusal day k.counts k.begun (call_with h l) ≡ 0
    → h.mark ≡ DS → h.first % 65536 ≡ h.first
unfolding ranged
preset_same day k h l f e =
    let call = call_with h l in
    let past = formal day k.counts k.begun call f in
    let g = (formal_as {day = day} {n = k.counts} {begun = k.begun} {c = call} e past).formed in
    let b = (both (clean_names (uses Preset h) call) (clean_start (uses Preset h) h && ranged Preset h) g).1 in
    let m = leb-true h.first most_value (both (clean_start (uses Preset h) h) (ranged Preset h) b).1 in
    omega (arith, m)
