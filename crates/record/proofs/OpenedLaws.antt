-- The ways to open bytes.
use Rattle.std.specs.Prelude.{Option, None, Ok, Some}
use mathlib.Core.Path.{◌≡◌, refl, sym}
use mathlib.Core.Bool.{Bool, true, false}
use mathlib.Core.List.{List}
use Prim.Native.Nat.{ℕ}
use native.Mathlib.Omega.{arith}
use lib.ListN.{length}
use lib.Dec.{eqb}
use borrow.Author.Tests.{eq-eqb, ne_eqb, eqb-true, eqb-false}
use Rattle.layout.specs.declared.Mark.{Mark}
use Rattle.layout.specs.Marks.{code, mark_of}
use Rattle.layout.specs.declared.Head.{Head}
use Rattle.layout.specs.declared.Call.{Call}
use Rattle.layout.specs.Fields.{record_length, letters, head_of, list_of, call_of, bytes_of, FourPlaces}
use Rattle.record.specs.Reading.{refused, accepted, opened}
use Rattle.layout.proofs.MarksLaws.{known, found_code}
use Rattle.layout.proofs.FieldsLaws.{bytes_long, bytes_letters, bytes_head, bytes_list}

-- Bytes of another length, of no mark, or a record.
pub data Opening (s : List ℕ) : Type 0 where
  unsized : (length s ≡ record_length → ⊥) → opened s ≡ refused 2 → Opening s
  unmarked : ((m : Mark) → letters s ≡ code m → ⊥) → opened s ≡ refused 2 → Opening s
  marked : (m : Mark) → length s ≡ record_length → letters s ≡ code m → opened s ≡ accepted (call_of m s) → Opening s

module _ (s : List ℕ) where
  pub opened_length : (length s ≡ record_length → ⊥) → opened s ≡ refused 2
  unfolding opened
  opened_length ne = rw (ne_eqb (length s) record_length ne)

  pub opened_unknown : length s ≡ record_length → mark_of (letters s) ≡ None → opened s ≡ refused 2
  unfolding opened
  opened_unknown l u = rw (eq-eqb (length s) record_length l, u)

  pub opened_known : {m : Mark} → length s ≡ record_length → mark_of (letters s) ≡ Some m → opened s ≡ accepted (call_of m s)
  unfolding opened
  opened_known l k = rw (eq-eqb (length s) record_length l, k)

  no_mark : mark_of (letters s) ≡ None → (m : Mark) → letters s ≡ code m → ⊥
  no_mark u m e = let k = known m e in let z : ◌≡◌ {A = ℕ} 0 1 = cc in omega arith

  by_mark : length s ≡ record_length → (r : Option Mark) → mark_of (letters s) ≡ r → Opening s
  by_mark l None u = unmarked (no_mark u) (opened_unknown l u)
  by_mark l (Some m) k = marked m l (found_code k) (opened_known l k)

  by_length : (b : Bool) → eqb (length s) record_length ≡ b → Opening s
  by_length true e = by_mark (eqb-true _ _ e) (mark_of (letters s)) refl
  by_length false e = let ne = eqb-false _ _ e in unsized ne (opened_length ne)

  pub opens : Opening s
  opens = by_length (eqb (length s) record_length) refl

-- A call's bytes open to the call.
pub bytes_opened : (c : Call) → FourPlaces c → opened (bytes_of c) ≡ accepted c
bytes_opened c e =
    rw (bytes_head c, bytes_list c e) at
    (opened_known (bytes_of c) (bytes_long c) (sym (known c.head.mark (bytes_letters c))))

-- What an accepted head tells of the bytes.
pub record Taken (s : List ℕ) (h : Head) : Type 0 where
  pub long : length s ≡ record_length
  pub letters : letters s ≡ code h.mark
  pub head : h ≡ head_of h.mark s
  pub list : (opened s).list ≡ list_of s

pub taken : (s : List ℕ) (h : Head) → (opened s).answer ≡ Ok h → Taken s h
unfolding head_of
taken s h a = by (opens s) where
  refusing : {n : ℕ} → opened s ≡ refused n → ⊥
  refusing e = let r = rw e at a in let z : ◌≡◌ {A = ℕ} 0 1 = cc in omega arith

  by : Opening s → Taken s h
  by (unsized ne e) = absurd (refusing e)
  by (unmarked ne e) = absurd (refusing e)
  by (marked m l k e) =
      let r = rw e at a in
      let same : h ≡ head_of m s = cc in
      rw same (record { long = l; letters = k; head = refl; list = rw e })
