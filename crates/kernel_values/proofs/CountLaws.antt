-- A length, but at most the numbers that there is room for.
use mathlib.Core.Path.{◌≡◌}
use mathlib.Core.List.{List}
use Prim.Native.Nat.{ℕ, ◌≤◌, min}
use native.Mathlib.Nat.{min-eq_left, min-eq_right}
use native.Mathlib.Omega.{arith}
use lib.Dec.{leb}
use lib.ListN.{length, take}
use lib.Seq.{take_all}
use borrow.Author.Tests.{leb-true, leb-false}
use Rattle.facts.proofs.Bools.{by_bool}
use Rattle.layout.specs.Fields.{most_numbers}

pub clipped : (n : ℕ) (l : List ℕ) → length l ≡ most_numbers → take (min n most_numbers) l ≡ take n l
clipped n l e =
    by_bool (leb n most_numbers)
    (λ q. rw (min-eq_left (leb-true n most_numbers q)))
    (λ q. let h : most_numbers ≤ n = omega (arith, leb-false n most_numbers q) in rw (min-eq_right h, take_all most_numbers l (omega (arith, e)), take_all n l (omega (arith, e))))
