-- How many bytes are carried out, and how few stay.
use mathlib.Core.Path.{◌≡◌, refl, ◌∙◌}
use mathlib.Core.Bool.{true, false}
use mathlib.Core.List.{List}
use Prim.Native.Nat.{ℕ, ◌+◌, ◌-◌, ◌≤◌, ◌<◌}
use native.Mathlib.Nat.{mod-lt}
use native.Mathlib.Omega.{arith}
use lib.Dec.{ltb}
use lib.ListN.{length}
use borrow.Author.Tests.{le-ltb}
use Rattle.layout.specs.Fields.{record_length}
use Rattle.facts.proofs.Bools.{by_bool, contra}
use Rattle.feed.specs.Feeding.{whole_of, went_well, brought, NothingRead, ReadOn}
use Rattle.feed.specs.declared.Fed.{Fed}
use Rattle.std.specs.Prelude.{Result, Ok, Err}

module _ {held : ℕ} {before after : List ℕ} (r : Fed) (h : ReadOn held before after r) where
  -- What is carried out is no more than there is,
  pub whole_within : r.whole ≤ r.total
  unfolding whole_of
  whole_within = let e = h.whole in by_bool r.more (λ m. omega (arith, rw m at e)) (λ m. omega (arith, rw m at e))

  -- so it lies in the buffer.
  pub whole_fits : r.whole ≤ length after
  whole_fits = omega (arith, whole_within, h.within)

  -- Less than a record stays while more may come.
  pub rest_short : r.more ≡ true → r.total - r.whole < record_length
  unfolding whole_of
  rest_short m = let e = h.whole in omega (arith, rw m at e, mod-lt r.total {m = record_length} (omega arith))

-- ---- a read that failed

-- It brings nothing.
none_came : {E : Type 0} (got : Result ℕ E) → went_well got ≡ false → brought got ≡ 0
none_came (Ok n) f = contra refl f
none_came (Err e) f = refl

-- The fields that fed_by fills in.
pub failed_read : (held : ℕ) {E : Type 0} (got : Result ℕ E) (r : Fed) → r.total ≡ held + brought got → r.more ≡ ltb held r.total
    → r.whole ≡ whole_of r.total r.more → went_well got ≡ false → NothingRead held r
unfolding whole_of
failed_read held got r total more whole f =
    let none = none_came got f in
    let ends : r.more ≡ false = more ∙ le-ltb held r.total (omega (arith, total, none)) in
    record { total = omega (arith, total, none); more = ends; whole = omega (arith, total, none, rw ends at whole) }
