-- A test of the numbers of a list, one after the other.
use mathlib.Core.Path.{◌≡◌, refl, ◌∙◌}
use mathlib.Core.Bool.{Bool, true, false}
use mathlib.Core.List.{List, [], ◌∷◌}
use Prim.Native.Nat.{ℕ, ◌+◌, ◌≤◌, ◌<◌}
use native.Mathlib.Numerals.{add-one}
use lib.ListN.{length, get_or, drop, drop_of_length-le}
use lib.Seq.{drop-cons}
use Rattle.std.specs.List.{list_all}
use Rattle.lists.specs.Lists.{every}

-- What is left from j on begins with the number at j.
pub left_next : (l : List ℕ) (j : ℕ) → j < length l → drop j l ≡ get_or l j 0 ∷ drop (j + 1) l
left_next l j less = rw (add-one, drop-cons l j 0)

-- The numbers before j pass the test f.
pub record Seen (f : ℕ → Bool) (l : List ℕ) (j : ℕ) : Type 0 where
  pub rest : every f l ≡ every f (drop j l)

module _ {f : ℕ → Bool} {l : List ℕ} {j : ℕ} (p : Seen f l j) where
  pub seen_fails : j < length l → f (get_or l j 0) ≡ false → false ≡ every f l
  unfolding every
  seen_fails less e = rw (p.rest, left_next l j less, e)

  pub seen_passes : j < length l → f (get_or l j 0) ≡ true → Seen f l (j + 1)
  unfolding every
  seen_passes less e = record { rest = p.rest ∙ rw (left_next l j less, e) }

  pub seen_all : length l ≤ j → true ≡ every f l
  unfolding every
  seen_all past = rw (p.rest, drop_of_length-le l past)

-- What `all` answers of an iterator.
pub every_is_all : (f : ℕ → Bool) (l : List ℕ) → list_all f l ≡ every f l
unfolding every
every_is_all f [] = refl
every_is_all f (x ∷ l) = rw (every_is_all f l)
