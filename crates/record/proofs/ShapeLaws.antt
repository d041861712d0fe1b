-- Refusals 3 and 4, form by form.
use mathlib.Core.Path.{◌≡◌, refl, sym, ◌∙◌, ap}
use mathlib.Core.Bool.{Bool, true, false, ◌&&◌, and_assoc, and_comm}
use mathlib.Core.List.{List, [], ◌∷◌}
use Prim.Native.Nat.{ℕ, ◌≤◌}
use native.Mathlib.Omega.{arith}
use borrow.Author.Tests.{eqb-true, leb-true}
use lib.Dec.{leb}
use lib.ListN.{length}
use Rattle.layout.specs.declared.Mark.{Mark}
use Rattle.layout.specs.declared.Head.{Head}
use Rattle.layout.specs.declared.Call.{Call}
use Rattle.layout.specs.declared.Form.{Form}
use Rattle.layout.specs.declared.Form.TheVariants.{Bare, Number, Continuation, DeclaredPriority, Preset, TimeOfDay, Resumption, Activation, Numbers, OneNumber}
use Rattle.layout.specs.Marks.{form}
use Rattle.layout.specs.Fields.{record_length, head_of, list_of, call_of, most_numbers}
use Rattle.lists.specs.Lists.{all_zero, stretch}
use Rattle.record.specs.Stretches.{used_bytes, grown, stretches, unused, zero_in}
use Rattle.record.specs.Reading.{call_with}
use Rattle.record.specs.Refusals.{most_value, Used, or_zero, clean_names, clean_start, ranged, uses, formed_as, formed, listed}
use Rattle.facts.proofs.Bools.{both}
use Rattle.record.proofs.StretchLaws.{one, two}
use Rattle.record.proofs.UnusedLaws.{stretches_are_the_fields}

-- h and l are the fields of the bytes s.
abbrev pub FieldsOf : Mark → List ℕ → Head → List ℕ → Type 0
FieldsOf m s h l = (h ≡ head_of m s) × (l ≡ list_of s)

-- Refusal 3: the ranges hold, and the stretches of unused bytes are zero.
module _ (m : Mark) (s l : List ℕ) (h : Head) (are : FieldsOf m s h l) where
  pub by_fields : (f : Form) → formed_as f (call_with h l) ≡ (zero_in s (unused (uses f h) h.len) && ranged f h)
  unfolding head_of
  by_fields f =
      rw (are.0, are.1)
      (sym (and_assoc (clean_names (uses f (head_of m s)) (call_of m s)) (clean_start (uses f (head_of m s)) (head_of m s)) (ranged f (head_of m s)))
      ∙ ap (λ (z : Bool). z && ranged f (head_of m s)) (stretches_are_the_fields (uses f (head_of m s)) m s))

  pub formed_by : (f : Form) → form h.mark ≡ f → {r : Bool} → r ≡ (ranged f h && zero_in s (unused (uses f h) h.len)) → r ≡ formed (call_with h l)
  unfolding formed
  formed_by f e er = er ∙ and_comm (ranged f h) (zero_in s (unused (uses f h) h.len)) ∙ sym (by_fields f) ∙ ap (λ (g : Form). formed_as g (call_with h l)) (sym e)

  pub bare : {r : Bool} → r ≡ all_zero (stretch s 2 24) → r ≡ (ranged Bare h && zero_in s (unused (uses Bare h) h.len))
  unfolding uses ranged used_bytes stretches grown
  bare er = er ∙ one s 2 22

  pub number : {r : Bool} → r ≡ all_zero (stretch s 3 24) → r ≡ (ranged Number h && zero_in s (unused (uses Number h) h.len))
  unfolding uses ranged used_bytes stretches grown
  number er = er ∙ one s 3 21

  pub declared_priority : {r : Bool} → r ≡ (all_zero (stretch s 2 3) && all_zero (stretch s 4 24)) → (leb 1 h.priority && r) ≡ (ranged DeclaredPriority h && zero_in s (unused (uses DeclaredPriority h) h.len))
  unfolding uses ranged used_bytes stretches grown
  declared_priority er = ap (λ (z : Bool). leb 1 h.priority && z) (er ∙ two s 2 1 4 20)

  pub preset : {r : Bool} → r ≡ (all_zero (stretch s 2 12) && all_zero (stretch s 16 24)) → (leb h.first most_value && r) ≡ (ranged Preset h && zero_in s (unused (uses Preset h) h.len))
  unfolding uses ranged used_bytes stretches grown
  preset er = ap (λ (z : Bool). leb h.first most_value && z) (er ∙ two s 2 10 16 8)

  pub time_of_day_law : {r : Bool} → r ≡ (all_zero (stretch s 2 12) && all_zero (stretch s 16 24)) → r ≡ (ranged TimeOfDay h && zero_in s (unused (uses TimeOfDay h) h.len))
  unfolding uses ranged used_bytes stretches grown
  time_of_day_law er = er ∙ two s 2 10 16 8

-- What passes refusal 3 has no list longer than the longest.
module _ (c : Call) where
  free_short : (u : Used) → u.list ≡ false → clean_names u c ≡ true → c.head.len ≤ most_numbers
  unfolding clean_names
  free_short u e t =
      let named = or_zero u.number c.head.number && or_zero u.priority c.head.priority in
      let none = (both named _ (both (named && or_zero u.list c.head.len) _ t).0).1 in
      omega (arith, eqb-true c.head.len 0 (rw e at none))

  list_short : (clean_names (uses Numbers c.head) c && (clean_start (uses Numbers c.head) c.head && leb c.head.len most_numbers)) ≡ true → c.head.len ≤ most_numbers
  list_short t = leb-true _ _ (both (clean_start (uses Numbers c.head) c.head) _ (both (clean_names (uses Numbers c.head) c) _ t).1).1

  short : (f : Form) → formed_as f c ≡ true → c.head.len ≤ most_numbers
  unfolding uses ranged
  short Bare t = free_short _ refl (both _ _ t).0
  short Number t = free_short _ refl (both _ _ t).0
  short Continuation t = free_short _ refl (both _ _ t).0
  short DeclaredPriority t = free_short _ refl (both _ _ t).0
  short Preset t = free_short _ refl (both _ _ t).0
  short TimeOfDay t = free_short _ refl (both _ _ t).0
  short Resumption t = free_short _ refl (both _ _ t).0
  short Activation t = free_short _ refl (both _ _ t).0
  short Numbers t = list_short t
  short OneNumber t = list_short t

  pub formed_short : formed c ≡ true → c.head.len ≤ most_numbers
  unfolding formed
  formed_short t = short (form c.head.mark) t
