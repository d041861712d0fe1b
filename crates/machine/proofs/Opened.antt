-- What the reader leaves to the kernel.
use Rattle.std.specs.Prelude.{Option, Err, None, Ok, Some}
use mathlib.Core.Path.{◌≡◌}
use mathlib.Core.List.{List}
use Prim.Native.Nat.{ℕ, ◌<◌}
use native.Mathlib.Omega.{arith}
use lib.Dec.{eqb}
use lib.ListN.{length}
use Rattle.layout.specs.Marks.{mark_of}
use Rattle.layout.specs.Fields.{record_length, letters, head_of, Octets}
use Rattle.record.specs.Reading.{with_mark, opened}
use Rattle.layout.specs.declared.Head.{Head}
use Rattle.layout.specs.declared.Mark.{Mark}
use Rattle.facts.proofs.Bools.{by_bool}

-- Bytes that are no call are refused with 2.
pub opened_refused : (s : List ℕ) (n : ℕ) → (opened s).answer ≡ Err n → n ≡ 2
unfolding opened
opened_refused s n e =
    by_bool (eqb (length s) record_length) (λ q. go (mark_of (letters s)) (rw q at e)) (λ q. let z = rw q at e in cc)
  where
    go : (m : Option Mark) → (with_mark m s).answer ≡ Err n → n ≡ 2
    go None z = cc
    go (Some m) z = absurd (let x : ◌≡◌ {A = ℕ} 0 1 = cc in omega arith)

-- A priority read is a byte.
pub opened_priority : (s : List ℕ) (h : Head) → Octets s → (opened s).answer ≡ Ok h → h.priority < 256
unfolding opened
opened_priority s h o e =
    by_bool (eqb (length s) record_length) (λ q. go (mark_of (letters s)) (rw q at e))
    (λ q. let z = rw q at e in absurd (let x : ◌≡◌ {A = ℕ} 0 1 = cc in omega arith))
  where
    go : (m : Option Mark) → (with_mark m s).answer ≡ Ok h → h.priority < 256
    go None z = absurd (let x : ◌≡◌ {A = ℕ} 0 1 = cc in omega arith)
    go (Some m) z = let x : head_of m s ≡ h = cc in rw (← x) (unfold head_of in o 3)
