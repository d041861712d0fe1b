-- Two tables of m places that are alike in the first n.
use mathlib.Core.Path.{◌≡◌, sym, ◌∙◌}
use mathlib.Core.List.{List, ◌++◌}
use Prim.Native.Nat.{ℕ, ◌+◌, ◌≤◌, ◌<◌}
use native.Mathlib.Omega.{arith}
use lib.ListN.{length, get_or, take, drop, set, length-append, length-drop, length-set, get_or-append}
use lib.Seq.{length-take-le, get_or-set_same, get_or-set_other, get_or-take, ext_get_or}
use Rattle.facts.proofs.Bools.{by_eq}

pub record Like {A : Type 0} (d : A) (m n : ℕ) (l l' : List A) : Type 0 where
  pub long : length l ≡ m
  pub long' : length l' ≡ m
  pub below : (i : ℕ) → i < n → get_or l i d ≡ get_or l' i d

module _ {A : Type 0} (d : A) (m n : ℕ) (l l' : List A) (h : Like d m n l l') where
  -- A place is written; beyond the first n with whatever it is.
  pub like_set : n ≤ m → (j : ℕ) (a a' : A) → (j < n → a ≡ a') → Like d m n (set l j a) (set l' j a')
  like_set le j a a' e =
      record {
        long = length-set l j a ∙ h.long;
        long' = length-set l' j a' ∙ h.long';
        below = λ i lt. by_eq i j
            (λ q. rw (q, get_or-set_same l j a d (omega (arith, h.long)), get_or-set_same l' j a' d (omega (arith, h.long'))) (e (omega arith)))
            (λ q. rw (get_or-set_other l j i a d q, get_or-set_other l' j i a' d q) (h.below i lt));
      }

  -- The next place is filled.
  pub like_add : n < m → (a : A) → Like d m (n + 1) (set l n a) (set l' n a)
  like_add lt a =
      record {
        long = length-set l n a ∙ h.long;
        long' = length-set l' n a ∙ h.long';
        below = λ i le. by_eq i n
            (λ q. rw (q, get_or-set_same l n a d (omega (arith, h.long)), get_or-set_same l' n a d (omega (arith, h.long'))))
            (λ q. rw (get_or-set_other l n i a d q, get_or-set_other l' n i a d q) (h.below i (omega arith)));
      }

  pub like_take : n ≤ m → take n l ≡ take n l'
  like_take le =
      let a = length-take-le n l (omega (arith, h.long)) in
      let b = length-take-le n l' (omega (arith, h.long')) in
      ext_get_or d (take n l) (take n l') (a ∙ sym b)
      (λ i lt. rw (get_or-take n l i d (omega arith), get_or-take n l' i d (omega arith)) (h.below i (omega arith)))

  -- The first n places are written.
  pub like_front : n ≤ m → (xs : List A) → length xs ≡ n → Like d m n (xs ++ drop n l) (xs ++ drop n l')
  like_front le xs e =
      record {
        long = simp (length-append, length-drop) (omega (arith, h.long));
        long' = simp (length-append, length-drop) (omega (arith, h.long'));
        below = λ i lt. rw (get_or-append xs (drop n l) d i (omega arith), get_or-append xs (drop n l') d i (omega arith));
      }
