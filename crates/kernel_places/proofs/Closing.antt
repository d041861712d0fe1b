-- What the loop that closes up knows: the places below j have moved up, the others not yet.
use mathlib.Core.Path.{◌≡◌, refl, sym, ◌∙◌}
use mathlib.Core.Logic.{◌≢◌}
use mathlib.Core.Bool.{cond}
use mathlib.Core.List.{List, map}
use Prim.Native.Nat.{ℕ, ◌+◌, ◌-◌, ◌≤◌, ◌<◌}
use native.Mathlib.Omega.{arith}
use lib.Dec.{ltb}
use lib.ListN.{length, set, length-set, length-map}
use lib.Seq.{get_or-set_same, get_or-set_other, ext_get_or}
use borrow.Author.Tests.{lt-ltb, le-ltb}
use Rattle.facts.proofs.Bools.{by_eq}
use Rattle.machine.specs.State.{place_at}
use Rattle.machine.specs.Places.{close_up, to_end}
use Rattle.machine.proofs.Places.{map_at}
use Rattle.facts.proofs.Numbers.{ltb_alike}

pub record Closing (p : ℕ) (ps : List ℕ) (j : ℕ) (qs : List ℕ) : Type 0 where
  pub size : length qs ≡ length ps
  pub at : (x : ℕ) → place_at qs x ≡ cond (ltb x j) (close_up p (place_at ps x)) (place_at ps x)

pub closing_none : (p : ℕ) (ps : List ℕ) → Closing p ps 0 ps
closing_none p ps = record { size = refl; at = λ x. rw (le-ltb x 0 (omega arith)) }

module _ {p : ℕ} {ps : List ℕ} {j : ℕ} {qs : List ℕ} (h : Closing p ps j qs) where
  unmoved : place_at qs j ≡ place_at ps j
  unmoved = h.at j ∙ rw (le-ltb j j (omega arith))

  further : (x : ℕ) → x ≢ j → ltb x (j + 1) ≡ ltb x j
  further x ne = ltb_alike x (j + 1) x j (λ l. omega arith) (λ l. omega arith)

  pub closing_up : j < length ps → p < place_at qs j → Closing p ps (j + 1) (set qs j (place_at qs j - 1))
  closing_up l b =
      record {
        size = length-set qs j (place_at qs j - 1) ∙ h.size;
        at = λ x. by_eq x j
            (λ e. rw (e, get_or-set_same qs j (place_at qs j - 1) 0 (omega (arith, h.size)), lt-ltb j (j + 1) (omega arith), ← unmoved, lt-ltb p (place_at qs j) b))
            (λ e. rw (get_or-set_other qs j x (place_at qs j - 1) 0 e, further x e) (h.at x));
      }

  pub closing_stay : place_at qs j ≤ p → Closing p ps (j + 1) qs
  closing_stay b =
      record {
        size = h.size;
        at = λ x. by_eq x j (λ e. rw (e, lt-ltb j (j + 1) (omega arith), ← unmoved, le-ltb p (place_at qs j) b)) (λ e. rw (further x e) (h.at x));
      }

-- In the end all have.
pub closing_all : (n i : ℕ) (ps : List ℕ) {j : ℕ} {qs : List ℕ} → Closing (place_at ps i) ps j qs → length ps ≤ j → set qs i (n - 1) ≡ to_end n i ps
unfolding to_end
closing_all n i ps {j} {qs} h l = rw (ext_get_or 0 qs (map (close_up (place_at ps i)) ps) (h.size ∙ sym (length-map ps (close_up (place_at ps i)))) (λ x b. rw (map_at (place_at ps i) ps x) (h.at x ∙ rw (lt-ltb x j (omega (arith, h.size))))))
