-- The places seen are the first n, all below 32, exactly where n tasks have them, each its own.
use mathlib.Core.Path.{◌≡◌, refl, sym, ap, ◌∙◌}
use mathlib.Core.Bool.{true, not, cond, ◌||◌}
use mathlib.Core.List.{List}
use Prim.Native.Nat.{ℕ, zero, suc, ◌-◌, ◌/◌, ◌%◌, ◌^◌, ◌≤◌, ◌<◌}
use native.Mathlib.Nat.{not-suc-le-zero, mod-eq_of_lt, pow-suc}
use native.Mathlib.Omega.{arith}
use lib.Bits.{bit_or, or_lt, or_add_and, and_le_l, and_le_r}
use lib.Dec.{eqb, leb, ltb}
use borrow.Author.Tests.{ltb-true, ltb-false, lt-leb, leb-false, eqb-true, eq-eqb, ne_eqb}
use Rattle.facts.proofs.Bools.{by_bool, by_eq, contra}
use Rattle.machine.specs.Sets.{has}
use Rattle.machine.specs.State.{most_tasks, place_at}
use Rattle.machine.specs.Sums.{all_below}
use Rattle.machine.specs.Test.{places_ok}
use Rattle.machine.proofs.Below.{all_at}
use Rattle.machine.proofs.Places.{Apart, apart_of, places_test, reached, filled_apart}
use Rattle.machine.proofs.SetLaws.{has_zero, has_suc, has_empty, has_le, has_put, has_put_other, put_lt}
use Rattle.kernel_places.specs.Seen.{seen_by}
use Rattle.facts.proofs.Numbers.{pow_pos, pow_lt}

-- ---- sets as numbers

-- Two that have the same members are one.
same_set : (m a b : ℕ) → a < 2 ^ m → b < 2 ^ m → ((v : ℕ) → v < m → has v a ≡ has v b) → a ≡ b
same_set zero a b p q h = omega arith
same_set (suc m) a b p q h =
    let low : a % 2 ≡ b % 2 = sym (has_zero a) ∙ h 0 (omega arith) ∙ has_zero b in
    let high : a / 2 ≡ b / 2 = same_set m (a / 2) (b / 2) (omega (arith, pow-suc 2 m)) (omega (arith, pow-suc 2 m)) (λ v l. sym (has_suc v a) ∙ h (suc v) (omega arith) ∙ has_suc v b) in
    omega (arith, low, high)

-- The first n.
first_has : (n v : ℕ) → v < n → has v (2 ^ n - 1) ≡ 1
first_has zero v l = absurd (not-suc-le-zero l)
first_has (suc n) zero l = has_zero (2 ^ suc n - 1) ∙ omega (arith, pow-suc 2 n, pow_pos n)
first_has (suc n) (suc v) l =
    let half : (2 ^ suc n - 1) / 2 ≡ 2 ^ n - 1 = omega (arith, pow-suc 2 n, pow_pos n) in
    has_suc v (2 ^ suc n - 1) ∙ rw half (first_has n v (omega arith))

first_lacks : (n v : ℕ) → n ≤ v → has v (2 ^ n - 1) ≡ 0
first_lacks zero v l = has_empty v
first_lacks (suc n) zero l = absurd (not-suc-le-zero l)
first_lacks (suc n) (suc v) l =
    let half : (2 ^ suc n - 1) / 2 ≡ 2 ^ n - 1 = omega (arith, pow-suc 2 n, pow_pos n) in
    has_suc v (2 ^ suc n - 1) ∙ rw half (first_lacks n v (omega arith))

-- As they are found: 32 ones moved down.
ones_moved : all_below 33 (λ n. eqb (4294967295 / 2 ^ (32 - n)) (2 ^ n - 1)) ≡ true
unfolding all_below
ones_moved = refl

pub first_found : (n : ℕ) → n ≤ most_tasks → 4294967295 / 2 ^ (32 - n) ≡ 2 ^ n - 1
first_found n l = eqb-true _ _ (all_at 33 (λ n. eqb (4294967295 / 2 ^ (32 - n)) (2 ^ n - 1)) ones_moved n (omega arith))

-- ---- the places seen

module _ (ps : List ℕ) where
  or_left : (a b : ℕ) → a ≤ bit_or a b
  or_left a b = omega (arith, or_add_and a b, and_le_r a b)

  or_right : (a b : ℕ) → b ≤ bit_or a b
  or_right a b = omega (arith, or_add_and a b, and_le_l a b)

  -- The bits are no smaller than any of the numbers, and small where all are.
  bits_above : (n i : ℕ) → i < n → place_at ps i ≤ (seen_by n ps).bits
  unfolding seen_by
  bits_above zero i l = absurd (not-suc-le-zero l)
  bits_above (suc n) i l =
      by_eq i n (λ e. rw e (or_right (seen_by n ps).bits (place_at ps n)))
      (λ e. omega (arith, bits_above n i (omega arith), or_left (seen_by n ps).bits (place_at ps n)))

  bits_small : (n : ℕ) → ((i : ℕ) → i < n → place_at ps i < most_tasks) → (seen_by n ps).bits < most_tasks
  unfolding seen_by
  bits_small zero h = omega arith
  bits_small (suc n) h = or_lt 5 (seen_by n ps).bits (place_at ps n) (bits_small n (λ i l. h i (omega arith))) (h n (omega arith))

  places_small : (n : ℕ) → (seen_by n ps).places < 2 ^ most_tasks
  unfolding seen_by
  places_small zero = omega arith
  places_small (suc n) = put_lt most_tasks (place_at ps n % most_tasks) (seen_by n ps).places (omega arith) (places_small n)

  -- Who of the first n has the place v, if one has.
  taker : ℕ → ℕ → ℕ
  taker zero v = 0
  taker (suc n) v = cond (eqb (place_at ps n) v) n (taker n v)

  module _ (most : ℕ) (small : (i : ℕ) → i < most → place_at ps i < most_tasks) where
    has_place : (n i : ℕ) → n ≤ most → i < n → has (place_at ps i) (seen_by n ps).places ≡ 1
    unfolding seen_by
    has_place zero i h l = absurd (not-suc-le-zero l)
    has_place (suc n) i h l =
        rw (mod-eq_of_lt (small n (omega arith)))
        (by_eq (place_at ps i) (place_at ps n) (λ e. rw e (has_put (place_at ps n) (seen_by n ps).places))
        (λ e. rw (has_put_other (place_at ps n) (place_at ps i) (seen_by n ps).places e)
        (by_eq i n (λ q. absurd (e (ap (place_at ps) q))) (λ q. has_place n i (omega arith) (omega arith)))))

    has_taker : (n v : ℕ) → n ≤ most → has v (seen_by n ps).places ≡ 1 → (taker n v < n) × (place_at ps (taker n v) ≡ v)
    unfolding seen_by taker
    has_taker zero v h e = absurd (omega (arith, has_empty v, e))
    has_taker (suc n) v h e =
        by_eq (place_at ps n) v (λ q. rw (eq-eqb _ _ q) (omega arith, q))
        (λ q. let z = has_taker n v (omega arith) (rw (mod-eq_of_lt (small n (omega arith)), has_put_other (place_at ps n) v (seen_by n ps).places (λ x. q (sym x))) at e) in
        rw (ne_eqb _ _ q) (omega (arith, z.0), z.1))

  -- ---- exactly

  module _ (n : ℕ) (h : n ≤ most_tasks) where
    first_lt : 2 ^ n - 1 < 2 ^ most_tasks
    first_lt = by_eq n most_tasks (λ e. rw e (omega arith)) (λ e. let z = pow_lt n most_tasks (omega arith) in omega arith)

    seen_all : Apart n ps → (seen_by n ps).places ≡ 2 ^ n - 1
    seen_all a =
        same_set most_tasks _ _ (places_small n) first_lt
        (λ v l. by_bool (ltb v n) (λ e. full v (ltb-true v n e) ∙ sym (first_has n v (ltb-true v n e))) (λ e. rest v (ltb-false v n e) ∙ sym (first_lacks n v (ltb-false v n e))))
      where
        small : (i : ℕ) → i < n → place_at ps i < most_tasks
        small i l = let z = a.range i l in omega arith

        full : (v : ℕ) → v < n → has v (seen_by n ps).places ≡ 1
        full v l = let z = reached n (place_at ps) a.range a.apart v l in rw z.2 at (has_place n small n z.0 (omega arith) z.1)

        rest : (v : ℕ) → n ≤ v → has v (seen_by n ps).places ≡ 0
        rest v l =
            by_eq (has v (seen_by n ps).places) 1
            (λ e. let z = has_taker n small n v (omega arith) e in absurd (omega (arith, a.range (taker n v) z.0, z.1, l)))
            (λ e. let z = has_le v (seen_by n ps).places in omega arith)

    seen_apart : (seen_by n ps).bits < most_tasks → (seen_by n ps).places ≡ 2 ^ n - 1 → Apart n ps
    seen_apart b e = record { range = range; apart = filled_apart n (place_at ps) (taker n) (λ p l. (back p l).0) (λ p l. (back p l).1) }
      where
        small : (i : ℕ) → i < n → place_at ps i < most_tasks
        small i l = let z = bits_above n i l in omega arith

        range : (i : ℕ) → i < n → place_at ps i < n
        range i l =
            by_bool (ltb (place_at ps i) n) (λ q. ltb-true (place_at ps i) n q)
            (λ q. absurd (omega (arith, rw e at (has_place n small n i (omega arith) l), first_lacks n (place_at ps i) (ltb-false (place_at ps i) n q))))

        back : (p : ℕ) → p < n → (taker n p < n) × (place_at ps (taker n p) ≡ p)
        back p l = has_taker n small n p (omega arith) (rw e (first_has n p l))

-- What is found wrong is what the kernel test refuses.
pub wrong_is : (ps : List ℕ) (n : ℕ) → n ≤ most_tasks → (leb most_tasks (seen_by n ps).bits || not (eqb (seen_by n ps).places (2 ^ n - 1))) ≡ not (places_ok n ps)
wrong_is ps n h =
    by_bool (places_ok n ps)
    (λ e. let a = apart_of n ps e in
    rw (e, lt-leb most_tasks (seen_by n ps).bits (bits_small ps n (λ i l. let z = a.range i l in omega arith)), eq-eqb (seen_by n ps).places (2 ^ n - 1) (seen_all ps n h a)))
    (λ e. by_bool (leb most_tasks (seen_by n ps).bits) (λ z. rw (e, z))
    (λ z. by_bool (eqb (seen_by n ps).places (2 ^ n - 1))
    (λ q. contra (places_test n ps (seen_apart ps n h (leb-false most_tasks (seen_by n ps).bits z) (eqb-true (seen_by n ps).places (2 ^ n - 1) q))) e)
    (λ q. rw (e, z, q))))
