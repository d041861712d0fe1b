-- The first of two refusals, and a reading by what was opened.
use Rattle.std.specs.Prelude.{Err, Ok}
use mathlib.Core.Path.{◌≡◌, refl, sym, ◌∙◌, ap}
use mathlib.Core.List.{List}
use Prim.Native.Nat.{ℕ, zero, suc}
use Rattle.layout.specs.declared.Head.{Head}
use Rattle.layout.specs.declared.Call.{Call}
use Rattle.record.specs.Reading.{Read, call_with, refused, or_refused, judged, opened, reading}
use Rattle.record.specs.declared.Reading.{Reading}
use Rattle.record.specs.Refusals.{first_refusal, shape, times, refusal}
use Rattle.record.proofs.OpenedLaws.{taken}
use Rattle.record.proofs.ShapeLaws.{FieldsOf}

pub first_kept : (n r : ℕ) → (n ≡ 0 → ⊥) → n ≡ first_refusal n r
first_kept zero r ne = absurd (ne refl)
first_kept (suc n) r ne = refl

or_some : (n : ℕ) (r : Reading) → (n ≡ 0 → ⊥) → refused n ≡ or_refused n r
or_some zero r ne = absurd (ne refl)
or_some (suc n) r ne = refl

pub shape_none : (day : ℕ) (c : Call) → 0 ≡ shape c → times day c.head ≡ refusal day c
unfolding refusal
shape_none day c e = rw (← e)

pub shape_some : (day : ℕ) (c : Call) {n : ℕ} → n ≡ shape c → (n ≡ 0 → ⊥) → n ≡ refusal day c
unfolding refusal
shape_some day c {n} e ne = rw (← e) (first_kept n (times day c.head) ne)

judged_accepted : (day : ℕ) (a : Read) (r : Reading) {h : Head} → a ≡ Ok h → judged day a r ≡ or_refused (refusal day (call_with h r.list)) r
unfolding judged
judged_accepted day a r e = rw e

pub refused_reads : (day : ℕ) (s : List ℕ) {n : ℕ} → opened s ≡ refused n → refused n ≡ reading day s
unfolding judged
refused_reads day s o = rw o

module _ (day : ℕ) (s : List ℕ) {r : Reading} (o : r ≡ opened s) where
  pub read_refused : {n : ℕ} → r.answer ≡ Err n → r ≡ reading day s
  unfolding judged
  read_refused a = rw (← o, a)

  module _ {h : Head} (a : r.answer ≡ Ok h) where
    -- What refusal_at asks of the fields.
    pub read_fields : FieldsOf h.mark s h r.list
    read_fields = let t = taken s h (rw o at a) in (t.head, ap (λ (q : Reading). q.list) o ∙ t.list)

    module _ {n : ℕ} (e : n ≡ refusal day (call_with h r.list)) where
      as_judged : or_refused n r ≡ reading day s
      as_judged = rw (e, ← o) (sym (judged_accepted day r.answer r a))

      pub read_passed : n ≡ 0 → r ≡ reading day s
      read_passed z = ap (λ (k : ℕ). or_refused k r) (sym z) ∙ as_judged

      pub read_failed : (n ≡ 0 → ⊥) → refused n ≡ reading day s
      read_failed ne = or_some n r ne ∙ as_judged
