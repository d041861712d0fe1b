-- What a list of numbers names, and a test of each.
use mathlib.Core.Path.{◌≡◌, refl}
use mathlib.Core.Logic.{◌≢◌}
use mathlib.Core.Bool.{Bool, true, false, not, and-false}
use mathlib.Core.List.{List, [], ◌∷◌}
use Prim.Native.Nat.{ℕ, zero, suc, ◌<◌, ◌≤◌}
use native.Mathlib.Omega.{arith}
use lib.Dec.{ltb}
use lib.ListN.{length, get_or}
use borrow.Author.Tests.{ltb-true, lt-ltb, eq-eqb, ne_eqb, not-true}
use Rattle.lists.specs.Lists.{names, distinct, every}
use Rattle.lists.specs.Promises.{Twice, NotDistinctIsTwice, EveryIsEach}
use Rattle.facts.proofs.Bools.{by_bool, by_eq, contra, both, and_both}

pub names_head : (x s : ℕ) (l : List ℕ) → x ≢ s → names (x ∷ l) s ≡ names l s
unfolding names
names_head x s l h = rw (ne_eqb x s h)

pub names_same : (x : ℕ) (l : List ℕ) → names (x ∷ l) x ≡ true
unfolding names
names_same x l = rw (eq-eqb x x refl)

pub distinct_parts : (x : ℕ) (l : List ℕ) → distinct (x ∷ l) ≡ true → (names l x ≡ false) × (distinct l ≡ true)
unfolding distinct
distinct_parts x l e = let p = both (not (names l x)) (distinct l) e in (not-true (names l x) p.0, p.1)

pub every_parts : (f : ℕ → Bool) (x : ℕ) (l : List ℕ) → every f (x ∷ l) ≡ true → (f x ≡ true) × (every f l ≡ true)
unfolding every
every_parts f x l e = both (f x) (every f l) e

-- Two tests that differ at most at x agree on a list that does not name x.
pub every_same : (f g : ℕ → Bool) (l : List ℕ) (x : ℕ) → names l x ≡ false → ((y : ℕ) → y ≢ x → f y ≡ g y) → every f l ≡ every g l
unfolding every names
every_same f g [] x n h = refl
every_same f g (y ∷ l) x n h =
    by_eq y x (λ e. contra (names_same y l) (rw (← e) at n))
    (λ e. let t : names l x ≡ false = rw (ne_eqb y x e) at n in rw (h y e, every_same f g l x t h))

-- Two tests that agree on the numbers below m agree on a list of such numbers.
pub every_below : (f g : ℕ → Bool) (m : ℕ) (l : List ℕ) → every (λ x. ltb x m) l ≡ true → ((y : ℕ) → y < m → f y ≡ g y) → every f l ≡ every g l
unfolding every
every_below f g m [] e h = refl
every_below f g m (y ∷ l) e h =
    let p = both (ltb y m) (every (λ x. ltb x m) l) e in
    rw (h y (ltb-true y m p.0), every_below f g m l p.1 h)

pub every_more : (m n : ℕ) (l : List ℕ) → m ≤ n → every (λ x. ltb x m) l ≡ true → every (λ x. ltb x n) l ≡ true
unfolding every
every_more m n [] h e = refl
every_more m n (y ∷ l) h e =
    let p = both (ltb y m) (every (λ x. ltb x m) l) e in
    let lt = ltb-true y m p.0 in
    and_both (lt-ltb y n (omega arith)) (every_more m n l h p.1)

pub every_at : (f : ℕ → Bool) (l : List ℕ) (y : ℕ) → every f l ≡ true → names l y ≡ true → f y ≡ true
unfolding every names
every_at f [] y e n = contra n refl
every_at f (x ∷ l) y e n =
    let p = both (f x) (every f l) e in
    by_eq x y (λ q. rw (← q) p.0) (λ q. every_at f l y p.1 (rw (ne_eqb x y q) at n))

-- Two tests that agree on all numbers agree on a list.
pub every_alike : (f g : ℕ → Bool) (l : List ℕ) → ((y : ℕ) → f y ≡ g y) → every f l ≡ every g l
unfolding every
every_alike f g [] h = refl
every_alike f g (y ∷ l) h = rw (h y, every_alike f g l h)

-- What follows for each number follows for a list.
pub every_then : (f g : ℕ → Bool) (l : List ℕ) → ((y : ℕ) → f y ≡ true → g y ≡ true) → every f l ≡ true → every g l ≡ true
unfolding every
every_then f g [] h e = refl
every_then f g (y ∷ l) h e = let p = both (f y) (every f l) e in and_both (h y p.0) (every_then f g l h p.1)

pub names_tail : (x y : ℕ) (l : List ℕ) → names l y ≡ true → names (x ∷ l) y ≡ true
names_tail x y l n = by_eq x y (λ q. rw q (names_same y l)) (λ q. rw (names_head x y l q) n)

pub every_from : (f : ℕ → Bool) (l : List ℕ) → ((x : ℕ) → names l x ≡ true → f x ≡ true) → every f l ≡ true
unfolding every
every_from f [] h = refl
every_from f (y ∷ l) h = and_both (h y (names_same y l)) (every_from f l (λ x n. h x (names_tail y x l n)))

pub every_is_each : EveryIsEach
every_is_each f l = (λ e x n. every_at f l x e n, every_from f l)

-- ---- a number that stands twice

names_place : (l : List ℕ) (x : ℕ) → names l x ≡ true → (j : ℕ) × (j < length l) × (x ≡ get_or l j 0)
unfolding names
names_place [] x n = contra n refl
names_place (y ∷ l) x n =
    by_eq y x (λ q. (0, omega arith, cc))
    (λ q. let (j, b, e) = names_place l x (rw (ne_eqb y x q) at n) in (suc j, omega arith, e))

place_names : (l : List ℕ) (j : ℕ) → j < length l → names l (get_or l j 0) ≡ true
place_names [] j h = absurd (omega arith)
place_names (y ∷ l) zero h = names_same y l
place_names (y ∷ l) (suc j) h = names_tail y (get_or l j 0) l (place_names l j (omega arith))

twice_of : (l : List ℕ) → distinct l ≡ false → Twice l
unfolding distinct
twice_of [] e = contra refl e
twice_of (x ∷ l) e =
    by_bool (names l x)
    (λ n. let (j, b, q) = names_place l x n in (0, suc j, omega arith, omega arith, q))
    (λ n. let (i, j, a, b, q) = twice_of l (rw n at e) in (suc i, suc j, omega arith, omega arith, q))

of_twice : (l : List ℕ) (i j : ℕ) → i < j → j < length l → get_or l i 0 ≡ get_or l j 0 → distinct l ≡ false
unfolding distinct
of_twice [] i j a b e = absurd (omega arith)
of_twice (x ∷ l) i zero a b e = absurd (omega arith)
of_twice (x ∷ l) zero (suc j) a b e = rw (e, place_names l j (omega arith))
of_twice (x ∷ l) (suc i) (suc j) a b e = rw (of_twice l i j (omega arith) (omega arith) e, and-false)

pub not_distinct_is_twice : NotDistinctIsTwice
not_distinct_is_twice l = (twice_of l, λ (i, j, a, b, e). of_twice l i j a b e)
