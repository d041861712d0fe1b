-- Scans of a list from the front, for any length: what is left after i elements, and what the element at i decides.
use mathlib.Core.Path.{◌≡◌, refl}
use mathlib.Core.Bool.{Bool, true, false, ◌&&◌}
use mathlib.Core.List.{List}
use Prim.Native.Nat.{ℕ, ◌+◌, ◌≤◌, ◌<◌}
use native.Mathlib.Numerals.{add-one}
use borrow.Author.Rules.{part_to_end}
use borrow.Author.Tests.{eq-eqb, ne_eqb}
use lib.Dec.{eqb}
use lib.ListN.{length, drop, get_or, drop_of_length-le}
use lib.Seq.{drop-cons}
use Rattle.lists.specs.Lists.{all_zero, names, distinct}

module _ (s : List ℕ) (i : ℕ) (inside : i < length s) where
  pub zero_more : (ok : Bool) → (ok && all_zero (drop i s)) ≡ ((ok && eqb (get_or s i 0) 0) && all_zero (drop (i + 1) s))
  unfolding all_zero
  zero_more true = rw (add-one, drop-cons s i 0)
  zero_more false = refl

  module _ (x : ℕ) where
    pub named_stop : get_or s i 0 ≡ x → names (drop i s) x ≡ true
    unfolding names
    named_stop e = rw (drop-cons s i 0, eq-eqb (get_or s i 0) x)

    pub named_go : (get_or s i 0 ≡ x → ⊥) → names (drop i s) x ≡ names (drop (i + 1) s) x
    unfolding names
    named_go e = rw (add-one, drop-cons s i 0, ne_eqb (get_or s i 0) x)

  pub distinct_stop : names (drop (i + 1) s) (get_or s i 0) ≡ true → distinct (drop i s) ≡ false
  unfolding distinct
  distinct_stop e = rw (drop-cons s i 0, rw add-one at e)

  pub distinct_go : names (drop (i + 1) s) (get_or s i 0) ≡ false → distinct (drop i s) ≡ distinct (drop (i + 1) s)
  unfolding distinct
  distinct_go e = rw (add-one, drop-cons s i 0, rw add-one at e)

module _ (s : List ℕ) (i : ℕ) (past : length s ≤ i) where
  pub zero_end : all_zero (drop i s) ≡ true
  unfolding all_zero
  zero_end = rw (drop_of_length-le s past)

  pub named_end : (x : ℕ) → names (drop i s) x ≡ false
  unfolding names
  named_end x = rw (drop_of_length-le s past)

  pub distinct_end : distinct (drop i s) ≡ true
  unfolding distinct
  distinct_end = rw (drop_of_length-le s past)

-- By these the check finds the proofs of the scans.
pub ruleset zero_scan = (zero_more, zero_end)

pub ruleset named_scan = (named_stop, named_go, named_end)

pub ruleset distinct_scan = (distinct_stop, distinct_go, distinct_end, part_to_end)
