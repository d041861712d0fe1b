-- The first of some moments that is later than n: none of them comes between, and it is one of them.
use Rattle.std.specs.Prelude.{None, Some}
use mathlib.Core.Path.{◌≡◌, refl, sym, ap, ◌∙◌}
use mathlib.Core.Logic.{◌⊎◌, inl, inr, ⊎_elim}
use mathlib.Core.Bool.{Bool, true, false, cond, ◌&&◌, ◌||◌, or-true, or_assoc, and-false}
use mathlib.Core.List.{List, [], ◌∷◌, ◌++◌}
use Prim.Native.Nat.{ℕ, ◌<◌}
use native.Mathlib.Decide.{dec_lt}
use native.Mathlib.Omega.{arith}
use lib.Dec.{eqb, ltb}
use borrow.Author.Tests.{ltb-true, ltb-false, lt-ltb, le-ltb, eqb-true, eq-eqb, ne_eqb}
use Rattle.facts.proofs.Bools.{contra}
use Rattle.calendar.specs.declared.Instant.{Instant}
use Rattle.calendar.specs.Moments.{Moment, is_at, has_at, earlier_than, same_moment, sooner, first_after}
use Rattle.calendar.specs.Times.{instant}

-- ---- one moment

-- The same moment is the same.
pub moment_same : (a b : Moment) → same_moment a b ≡ true → a ≡ b
moment_same None None e = refl
moment_same None (Some n) e = contra e refl
moment_same (Some m) None e = contra e refl
moment_same (Some m) (Some n) e = ap (λ (x : ℕ). Some (instant x)) (eqb-true m.0 n.0 e)

pub same_moment_law : (a : Moment) → same_moment a a ≡ true
same_moment_law None = refl
same_moment_law (Some n) = eq-eqb n.0 n.0 refl

-- ---- one more moment

module _ (n x : Instant) (l : n.0 < x.0) where
  -- What is earlier than the sooner of two is earlier than the one, and isn't the other.
  sooner_none : (m s : Moment) → earlier_than x (sooner n m s) ≡ true → (is_at x m ≡ false) × (earlier_than x s ≡ true)
  sooner_none None s e = (refl, e)
  sooner_none (Some m) s e = go (ltb n.0 m.0) (earlier_than m s) refl refl e
    where
      earlier : (s : Moment) → x.0 < m.0 → earlier_than m s ≡ true → earlier_than x s ≡ true
      earlier None a q = refl
      earlier (Some y) a q = lt-ltb x.0 y.0 (omega (arith, ltb-true m.0 y.0 q))

      later : (s : Moment) → earlier_than m s ≡ false → earlier_than x s ≡ true → x.0 < m.0
      later None q e = absurd (let z : ◌≡◌ {A = ℕ} 0 1 = cc in omega arith)
      later (Some y) q e = omega (arith, ltb-false m.0 y.0 q, ltb-true x.0 y.0 e)

      go : (b c : Bool) → ltb n.0 m.0 ≡ b → earlier_than m s ≡ c → earlier_than x (cond (b && c) (Some m) s) ≡ true
          → (eqb m.0 x.0 ≡ false) × (earlier_than x s ≡ true)
      go false c p q e = (ne_eqb m.0 x.0 (λ h. omega (arith, ltb-false n.0 m.0 p)), e)
      go true false p q e = (ne_eqb m.0 x.0 (λ h. omega (arith, later s q e)), e)
      go true true p q e =
          let l = ltb-true x.0 m.0 e in (ne_eqb m.0 x.0 (λ h. omega arith), earlier s l q)

  pub first_none : (ms : List Moment) → earlier_than x (first_after n ms) ≡ true → has_at x ms ≡ false
  unfolding first_after has_at
  first_none [] e = refl
  first_none (m ∷ ms) e = let p = sooner_none m (first_after n ms) e in rw (p.0, first_none ms p.1)

module _ (n : Instant) where
  -- The sooner of two is the one, or the other and later than n.
  sooner_is : (m s : Moment) (a : Instant) → sooner n m s ≡ Some a → (s ≡ Some a) ⊎ ((n.0 < a.0) × (m ≡ Some a))
  sooner_is None s a e = inl e
  sooner_is (Some m) s a e = go (ltb n.0 m.0) (earlier_than m s) refl e
    where
      go : (b c : Bool) → ltb n.0 m.0 ≡ b → cond (b && c) (Some m) s ≡ Some a → (s ≡ Some a) ⊎ ((n.0 < a.0) × (Some m ≡ Some a))
      go false c p e = inl e
      go true false p e = inl e
      go true true p e = let q : m ≡ a = cc in inr (rw (← q) (ltb-true n.0 m.0 p), e)

  pub first_is : (ms : List Moment) (a : Instant) → first_after n ms ≡ Some a → (n.0 < a.0) × (has_at a ms ≡ true)
  unfolding first_after has_at
  first_is [] a e = absurd (let z : ◌≡◌ {A = ℕ} 0 1 = cc in omega arith)
  first_is (m ∷ ms) a e =
      ⊎_elim (λ h. let p = first_is ms a h in (p.0, rw (p.1, or-true)))
      (λ h. (h.0, rw (h.1, eq-eqb a.0 a.0 refl)))
      (sooner_is m (first_after n ms) a e)

-- ---- two lists

pub has_append : (x : Instant) (a b : List Moment) → has_at x (a ++ b) ≡ (has_at x a || has_at x b)
unfolding has_at
has_append x [] b = refl
has_append x (m ∷ a) b = rw (has_append x a b, or_assoc)

-- ---- the first of two lists

-- The earlier of two.
abbrev pub earlier : Moment → Moment → Moment
earlier None s = s
earlier (Some m) s = cond (earlier_than m s) (Some m) s

before_split : (m : Instant) (a b : Moment) → earlier_than m (earlier a b) ≡ (earlier_than m a && earlier_than m b)
before_split m None b = refl
before_split m (Some x) None = and_self (ltb m.0 x.0)
  where
    and_self : (c : Bool) → c ≡ (c && true)
    and_self true = refl
    and_self false = refl
before_split m (Some x) (Some y) = go (dec_lt x.0 y.0)
  where
    less : (c : Bool) → ltb m.0 x.0 ≡ c → x.0 < y.0 → c ≡ (c && ltb m.0 y.0)
    less true e l = rw (lt-ltb m.0 y.0 (omega (arith, ltb-true m.0 x.0 e)))
    less false e l = refl

    more : (c : Bool) → ltb m.0 y.0 ≡ c → (x.0 < y.0 → ⊥) → c ≡ (ltb m.0 x.0 && c)
    more true e l = rw (lt-ltb m.0 x.0 (omega (arith, ltb-true m.0 y.0 e)))
    more false e l = rw (and-false (ltb m.0 x.0))

    go : Dec (x.0 < y.0) → earlier_than m (cond (ltb x.0 y.0) (Some x) (Some y)) ≡ (ltb m.0 x.0 && ltb m.0 y.0)
    go (yes l) = rw (lt-ltb x.0 y.0 l) (less (ltb m.0 x.0) refl l)
    go (no l) = rw (le-ltb x.0 y.0 (omega arith)) (more (ltb m.0 y.0) refl l)

-- What is later than m isn't earlier than what isn't.
passed_by : (m : Instant) (a b : Moment) → earlier_than m a ≡ true → earlier_than m b ≡ false → b ≡ earlier a b
passed_by m None b e f = refl
passed_by m (Some x) None e f = contra refl f
passed_by m (Some x) (Some y) e f = rw (le-ltb x.0 y.0 (omega (arith, ltb-true m.0 x.0 e, ltb-false m.0 y.0 f)))

earlier_more : (m : Instant) (a b : Moment) → earlier (Some m) (earlier a b) ≡ earlier (earlier (Some m) a) b
earlier_more m a b = rw (before_split m a b) (go (earlier_than m a) (earlier_than m b) refl refl)
  where
    go : (c d : Bool) → earlier_than m a ≡ c → earlier_than m b ≡ d → cond (c && d) (Some m) (earlier a b) ≡ earlier (cond c (Some m) a) b
    go true true e f = rw f
    go true false e f = rw f (sym (passed_by m a b e f))
    go false d e f = refl

-- The first of a list and another is the earlier of their firsts.
module _ (n : Instant) where
  sooner_earlier : (m a b : Moment) → sooner n m (earlier a b) ≡ earlier (sooner n m a) b
  sooner_earlier None a b = refl
  sooner_earlier (Some m) a b = go (ltb n.0 m.0)
    where
      go : (c : Bool) → cond (c && earlier_than m (earlier a b)) (Some m) (earlier a b) ≡ earlier (cond (c && earlier_than m a) (Some m) a) b
      go true = earlier_more m a b
      go false = refl

  pub first_append : (xs ys : List Moment) → first_after n (xs ++ ys) ≡ earlier (first_after n xs) (first_after n ys)
  unfolding first_after
  first_append [] ys = refl
  first_append (x ∷ xs) ys = ap (λ (s : Moment). sooner n x s) (first_append xs ys) ∙ sooner_earlier x (first_after n xs) (first_after n ys)
