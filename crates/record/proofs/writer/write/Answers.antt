-- The refusal of the call's own bytes, taken or none.
use borrow.Author.Rules.{rules}
use mathlib.Core.Path.{◌≡◌, refl, sym}
use Prim.Native.Nat.{ℕ, zero, suc}
use lib.ListN.{replicate}
use Rattle.layout.specs.declared.Call.{Call}
use Rattle.record.specs.declared.Written.{Written}
use Rattle.layout.specs.Fields.{record_length, FourPlaces}
use Rattle.record.specs.Writing.{or_zeros}
use Rattle.layout.proofs.FieldsLaws.{bytes_head, bytes_list}
use Rattle.record.proofs.NumberLaws.{number_some}
use Rattle.record.proofs.writer.write.Goals as goal

zeros : (c : Call) (n : ℕ) → (n ≡ 0 → ⊥) → ◌≡◌ {A = Written} record { number = n; bytes = replicate record_length 0 } (or_zeros n c)
zeros c zero ne = absurd (ne refl)
zeros c (suc n) ne = refl

pub refusal_at-requires : goal.refusal_at-requires
refusal_at-requires c =
    let a = c.args.c in
    let four : FourPlaces a = search rules in
    rw c.bytes_of-bytes.ensures record { h_value = sym (bytes_head a); list_value = sym (bytes_list a four) }

pub returns-in-Ok : goal.returns-in-Ok
returns-in-Ok c = rw (c.bytes_of-bytes.ensures, ← c.in-Ok.ensures)

pub returns-in-Err : goal.returns-in-Err
returns-in-Err c = rw (c.number.ensures, ← c.in-Err.ensures) (zeros _ _ (number_some c.in-Err.refusal))
