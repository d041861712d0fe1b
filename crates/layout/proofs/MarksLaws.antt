-- The marks by their letters and by their places in the code's enum.
use Rattle.std.specs.Prelude.{Some}
use mathlib.Core.Path.{◌≡◌, refl, sym, ◌∙◌, ap}
use mathlib.Core.Bool.{Bool, true, false, cond, ◌&&◌}
use mathlib.Core.Logic.{inl, inr}
use mathlib.Core.List.{List, [], ◌∷◌, map}
use Prim.Native.Nat.{ℕ, zero, suc}
use lib.ListN.{length, get_or, drop, replicate}
use types.Run.{OneOf}
use lib.Dec.{eqb}
use native.Mathlib.Omega.{arith}
use borrow.Author.Tests.{eqb-true}
use denote.Enum.Declared.{tag_of}
use Rattle.layout.specs.declared.Mark.{Mark}
use Rattle.layout.specs.declared.Mark.TheVariants.{DT, DS, DB, IT, DC, AC, TE, SU, PR, CO, EN, RE, RQ, RL, TR, RS, FR, ET, LV, TG, EI, XI, TI, SL}
use Rattle.layout.specs.Marks.{code, is, marks, among, mark_of}
use Rattle.facts.proofs.Bools.{both}
use Rattle.layout.specs.contracts.Mark as MarkT

-- Each mark is the only one with its letters, and stands at its place in the list.
found : (m : Mark) → (mark_of (code m) ≡ Some m) × (get_or marks (tag_of MarkT.the_type m) DT ≡ m)
unfolding among
found DT = (refl, refl)
found DS = (refl, refl)
found DB = (refl, refl)
found IT = (refl, refl)
found DC = (refl, refl)
found AC = (refl, refl)
found TE = (refl, refl)
found SU = (refl, refl)
found PR = (refl, refl)
found CO = (refl, refl)
found EN = (refl, refl)
found RE = (refl, refl)
found RQ = (refl, refl)
found RL = (refl, refl)
found TR = (refl, refl)
found RS = (refl, refl)
found FR = (refl, refl)
found ET = (refl, refl)
found LV = (refl, refl)
found TG = (refl, refl)
found EI = (refl, refl)
found XI = (refl, refl)
found TI = (refl, refl)
found SL = (refl, refl)

-- What bears a mark's letters is that mark.
pub known : (m : Mark) {n : ℕ} → n ≡ code m → Some m ≡ mark_of n
known m e = sym (ap mark_of e ∙ (found m).0)

-- A mark is told by its letters.
pub is_mark : (m n : Mark) → is m n ≡ true → m ≡ n
is_mark m n e =
    let q : Some m ≡ Some n = sym (found m).0 ∙ ap mark_of (eqb-true (code m) (code n) e) ∙ (found n).0 in
    cc

-- A test of every mark in the list.
unfoldable pub all_marks : (Mark → Bool) → List Mark → Bool
all_marks f [] = true
all_marks f (m ∷ ms) = f m && all_marks f ms

all_at : (f : Mark → Bool) (ms : List Mark) → all_marks f ms ≡ true → f DT ≡ true → (i : ℕ) → f (get_or ms i DT) ≡ true
unfolding all_marks
all_at f [] e z i = z
all_at f (m ∷ ms) e z zero = (both (f m) (all_marks f ms) e).0
all_at f (m ∷ ms) e z (suc i) = all_at f ms (both (f m) (all_marks f ms) e).1 z i

-- What is computed for the list holds of every mark.
pub every_mark : (f : Mark → Bool) → f DT ≡ true → all_marks f marks ≡ true → (m : Mark) → f m ≡ true
every_mark f z e m = sym (ap f (found m).1) ∙ all_at f marks e z (tag_of MarkT.the_type m)

-- ---- the arm of a match that several marks share

-- Where a mark stands in the code's enum.
abbrev place : Mark → ℕ
place m = tag_of MarkT.the_type m

same : (m n : Mark) → place m ≡ place n → n ≡ m
same m n e = sym (found n).1 ∙ ap (λ (k : ℕ). get_or marks k DT) (sym e) ∙ (found m).1

-- The marks of the arm all have the value a, and m is one of them.
module _ {A : Type 0} (f : Mark → A) {a : A} (m : Mark) where
  first : (n : Mark) (ms : List Mark) → map f (n ∷ ms) ≡ replicate (length (n ∷ ms)) a → place m ≡ place n → a ≡ f m
  first n ms e o = sym (ap (λ (l : List A). get_or l 0 a) e) ∙ ap f (same m n o)

  pub alike : (ms : List Mark) → map f ms ≡ replicate (length ms) a → OneOf (map place ms) (place m) → a ≡ f m
  alike [] e o = absurd o
  alike (n ∷ []) e o = first n [] e o
  alike (n ∷ k ∷ ms) e (inl o) = first n (k ∷ ms) e o
  alike (n ∷ k ∷ ms) e (inr o) = alike (k ∷ ms) (ap (λ (l : List A). drop 1 l) e) o

-- ---- letters

-- A mark that is found bears the letters.
among_code : (ms : List Mark) (n : ℕ) (m : Mark) → among ms n ≡ Some m → n ≡ code m
unfolding among
among_code [] n m e = let z : ◌≡◌ {A = ℕ} 0 1 = cc in absurd (omega arith)
among_code (x ∷ ms) n m e = first (eqb n (code x)) refl (among_code ms n m) e where
  first : (b : Bool) → eqb n (code x) ≡ b → (among ms n ≡ Some m → n ≡ code m) → cond b (Some x) (among ms n) ≡ Some m → n ≡ code m
  first true t later k = let same : x ≡ m = cc in eqb-true n (code x) t ∙ ap code same
  first false t later k = later k

pub found_code : {n : ℕ} {m : Mark} → mark_of n ≡ Some m → n ≡ code m
found_code {n} {m} e = among_code marks n m e
