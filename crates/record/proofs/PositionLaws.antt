-- A byte that a record doesn't use, and that isn't zero, gets 3.
use mathlib.Core.Path.{◌≡◌, refl, ◌∙◌}
use mathlib.Core.Bool.{Bool, true, false, ◌||◌, and-false}
use mathlib.Core.List.{List, [], ◌∷◌}
use Prim.Native.Nat.{ℕ, zero, suc, ◌+◌, ◌<◌}
use native.Mathlib.Nat.{zero-add, add-zero}
use native.Mathlib.Omega.{arith}
use borrow.Author.Tests.{eq-eqb, ne_eqb}
use lib.Dec.{eqb}
use lib.ListN.{length, get_or}
use Rattle.layout.specs.declared.Mark.{Mark}
use Rattle.layout.specs.declared.Head.{Head}
use Rattle.layout.specs.declared.Call.{Call}
use Rattle.layout.specs.declared.Form.{Form}
use Rattle.layout.specs.declared.Form.TheVariants.{Bare, Number, Continuation, DeclaredPriority, Preset, TimeOfDay, Resumption, Activation, Numbers, OneNumber}
use Rattle.layout.specs.Marks.{form}
use Rattle.layout.specs.Fields.{record_length, byte, head_of, list_of, call_of}
use Rattle.lists.specs.Lists.{names}
use Rattle.facts.proofs.Bools.{contra}
use Rattle.record.specs.Refusals.{Used, uses, formed, shape, refusal}
use Rattle.record.specs.Stretches.{used_bytes, unused, zero_in}
use Rattle.record.specs.Positions.{places_from, head_with, bytes_used, UnusedIsThree}
use Rattle.record.proofs.StretchLaws.{used_or_zero, zero_in_law}
use Rattle.record.proofs.ShapeLaws.{by_fields}
use Rattle.record.proofs.Theorems.{record_is_judged}

next : (i k : ℕ) → i + suc k ≡ suc i + k
next i k = omega arith

-- Places from i on are no smaller.
places_past : (i j : ℕ) (used : List Bool) → j < i → names (places_from i used) j ≡ false
unfolding places_from names
places_past i j [] h = refl
places_past i j (true ∷ used) h = rw (ne_eqb i j (λ e. omega arith)) (places_past (suc i) j used (omega arith))
places_past i j (false ∷ used) h = places_past (suc i) j used (omega arith)

-- A place that isn't named is that of an unused byte.
place_unused : (i k : ℕ) (used : List Bool) → k < length used → names (places_from i used) (i + k) ≡ false → get_or used k true ≡ false
unfolding places_from names
place_unused i k [] h n = absurd (omega arith)
place_unused i zero (true ∷ used) h n = contra refl (rw (eq-eqb i (i + 0) (omega arith)) at n)
place_unused i (suc k) (true ∷ used) h n =
    place_unused (suc i) k used (omega arith) (rw (ne_eqb i (i + suc k) (λ e. omega arith), next i k) at n)
place_unused i zero (false ∷ used) h n = refl
place_unused i (suc k) (false ∷ used) h n = place_unused (suc i) k used (omega arith) (rw (next i k) at n)

-- A byte that is neither used nor zero.
not_zero : (s : List ℕ) (i k : ℕ) (used : List Bool) → get_or used k true ≡ false → (byte s (i + k) ≡ 0 → ⊥) → used_or_zero s i used ≡ false
unfolding used_or_zero
not_zero s i k [] u ne = contra refl u
not_zero s i zero (b ∷ used) u ne = rw (u, ne_eqb (byte s i) 0 (λ e. ne (rw (add-zero i) e)))
not_zero s i (suc k) (b ∷ used) u ne =
    rw (not_zero s (suc i) k used u (λ e. ne (rw (next i k) e))) (and-false (b || eqb (byte s i) 0))

-- The kinds alone decide which fields are used.
by_kinds : (f : Form) (m : Mark) (len : ℕ) (h : Head) → uses f h ≡ uses f (head_with m len h.kind h.endkind)
unfolding uses
by_kinds Bare m len h = refl
by_kinds Number m len h = refl
by_kinds Continuation m len h = refl
by_kinds DeclaredPriority m len h = refl
by_kinds Preset m len h = refl
by_kinds TimeOfDay m len h = refl
by_kinds Resumption m len h = refl
by_kinds Activation m len h = refl
by_kinds Numbers m len h = refl
by_kinds OneNumber m len h = refl

used_length : (u : Used) (len : ℕ) → length (used_bytes u len) ≡ 24
unfolding used_bytes
used_length u len = refl

module _ (s : List ℕ) (m : Mark) (i : ℕ) (long : length s ≡ record_length) (h : i < record_length) (n : names (bytes_used m (byte s 4) (byte s 9) (byte s 11)) i ≡ false) (ne : byte s i ≡ 0 → ⊥) where
  abbrev fields_used : Used
  fields_used = uses (form m) (head_with m (byte s 4) (byte s 9) (byte s 11))

  not_clean : zero_in s (unused (uses (form m) (head_of m s)) (byte s 4)) ≡ false
  unfolding bytes_used head_of
  not_clean =
      let place : i < length (used_bytes fields_used (byte s 4)) = rw (used_length fields_used (byte s 4)) h in
      let free = place_unused 0 i (used_bytes fields_used (byte s 4)) place (rw (zero-add i) n) in
      rw (by_kinds (form m) m (byte s 4) (head_of m s), zero_in_law s 0 (used_bytes fields_used (byte s 4)))
      (not_zero s 0 i (used_bytes fields_used (byte s 4)) free (rw (zero-add i) ne))

  pub not_formed : formed (call_of m s) ≡ false
  unfolding formed head_of
  not_formed = by_fields m s (list_of s) (head_of m s) (refl, refl) (form m) ∙ rw not_clean

pub three : (day : ℕ) (c : Call) → formed c ≡ false → refusal day c ≡ 3
unfolding refusal shape
three day c e = rw e

pub unused_is_three : UnusedIsThree
unused_is_three day s m i long k h n ne = record_is_judged day s m long k ∙ three day (call_of m s) (not_formed s m i long h n ne)
