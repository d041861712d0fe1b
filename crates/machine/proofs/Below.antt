-- Laws of the scans over the numbers below n.
use Rattle.std.specs.Prelude.{None, Some}
use mathlib.Core.Path.{◌≡◌, refl}
use mathlib.Core.Logic.{◌≢◌}
use mathlib.Core.Bool.{Bool, true, false}
use Prim.Native.Nat.{ℕ, zero, suc, ◌+◌, ◌≤◌, ◌<◌}
use native.Mathlib.Nat.{not-suc-le-zero}
use native.Mathlib.Omega.{arith}
use lib.Dec.{ltb}
use borrow.Author.Tests.{ltb-true, ltb-false}
use Rattle.facts.proofs.Bools.{by_bool, by_eq, contra, both, and_both}
use Rattle.machine.specs.Sums.{sum_below, all_below}
use Rattle.machine.specs.Running.{most_urgent, better, Running}

-- ---- a test of each number

pub all_at : (n : ℕ) (f : ℕ → Bool) → all_below n f ≡ true → (i : ℕ) → i < n → f i ≡ true
unfolding all_below
all_at zero f e i h = absurd (not-suc-le-zero h)
all_at (suc n) f e i h =
    let p : (all_below n f ≡ true) × (f n ≡ true) = both _ _ e in
    by_eq i n (λ q. rw q p.1) (λ q. all_at n f p.0 i (omega arith))

pub all_from : (n : ℕ) (f : ℕ → Bool) → ((i : ℕ) → i < n → f i ≡ true) → all_below n f ≡ true
unfolding all_below
all_from zero f h = refl
all_from (suc n) f h = and_both (all_from n f (λ i l. h i (omega arith))) (h n (omega arith))

pub all_same : (n : ℕ) (f g : ℕ → Bool) → ((i : ℕ) → i < n → f i ≡ g i) → all_below n f ≡ all_below n g
unfolding all_below
all_same zero f g h = refl
all_same (suc n) f g h = rw (all_same n f g (λ i l. h i (omega arith)), h n (omega arith))

-- ---- the most urgent

-- What the scan finds by a number u: the smallest u, and the first that has it, or nothing where none passes.
abbrev pub Found : ℕ → (ℕ → Bool) → (ℕ → ℕ) → Running → Type 0
Found n test u None = (j : ℕ) → j < n → test j ≡ false
Found n test u (Some i) =
    (i < n) × (test i ≡ true) × ((j : ℕ) → j < n → test j ≡ true → u i ≤ u j) × ((j : ℕ) → j < i → test j ≡ true → u i < u j)

module _ (n : ℕ) (test : ℕ → Bool) (u : ℕ → ℕ) where
  -- One more number, that doesn't pass.
  passed_over : (r : Running) → test n ≡ false → Found n test u r → Found (suc n) test u r
  passed_over None e f = λ j l. by_eq j n (λ q. rw q e) (λ q. f j (omega arith))
  passed_over (Some i) e f =
      (omega arith, f.1, λ j l t. by_eq j n (λ q. contra t (rw q e)) (λ q. f.2 j (omega arith) t), f.3)

  -- One more number, that passes.
  weighed : (r : Running) → test n ≡ true → Found n test u r → Found (suc n) test u (better u r n)
  weighed None e f = (omega arith, e, λ j l t. by_eq j n (λ q. rw q (omega arith)) (λ q. contra t (f j (omega arith))), λ j l t. contra t (f j l))
  weighed (Some i) e f =
      by_bool (ltb (u n) (u i))
      (λ b. let lt = ltb-true (u n) (u i) b in rw b
      (omega arith, e, λ j l t. by_eq j n (λ q. rw q (omega arith)) (λ q. let h = f.2 j (omega arith) t in omega arith), λ j l t. let h = f.2 j l t in omega arith))
      (λ b. let le = ltb-false (u n) (u i) b in rw b
      (omega arith, f.1, λ j l t. by_eq j n (λ q. rw q le) (λ q. f.2 j (omega arith) t), f.3))

pub scan_finds : (n : ℕ) (test : ℕ → Bool) (u : ℕ → ℕ) → Found n test u (most_urgent n test u)
unfolding most_urgent
scan_finds zero test u = λ j l. absurd (not-suc-le-zero l)
scan_finds (suc n) test u =
    by_bool (test n) (λ e. rw e (weighed n test u (most_urgent n test u) e (scan_finds n test u)))
    (λ e. rw e (passed_over n test u (most_urgent n test u) e (scan_finds n test u)))

pub most_urgent_idle : (n : ℕ) (c : ℕ → Bool) (p : ℕ → ℕ) → most_urgent n c p ≡ None → (i : ℕ) → i < n → c i ≡ false
most_urgent_idle n c p e = rw e at (scan_finds n c p)

pub most_urgent_at : (n : ℕ) (c : ℕ → Bool) (p : ℕ → ℕ) (j : ℕ) → most_urgent n c p ≡ Some j → (j < n) × (c j ≡ true)
most_urgent_at n c p j e = let f : Found n c p (Some j) = rw e at (scan_finds n c p) in (f.0, f.1)

pub most_urgent_none : (n : ℕ) (c : ℕ → Bool) (p : ℕ → ℕ) → ((i : ℕ) → i < n → c i ≡ false) → most_urgent n c p ≡ None
unfolding most_urgent
most_urgent_none zero c p h = refl
most_urgent_none (suc n) c p h = rw (h n (omega arith), most_urgent_none n c p (λ i l. h i (omega arith)))

-- ---- sums

pub sum_same : (n : ℕ) (f g : ℕ → ℕ) → ((i : ℕ) → i < n → f i ≡ g i) → sum_below n f ≡ sum_below n g
unfolding sum_below
sum_same zero f g h = refl
sum_same (suc n) f g h = omega (arith, sum_same n f g (λ i l. h i (omega arith)), h n (omega arith))

-- A sum of which one part grows by d.
pub sum_update : (n : ℕ) (f g : ℕ → ℕ) (j d : ℕ) → j < n → f j + d ≡ g j → ((i : ℕ) → i ≢ j → f i ≡ g i) → sum_below n f + d ≡ sum_below n g
unfolding sum_below
sum_update zero f g j d l e h = absurd (not-suc-le-zero l)
sum_update (suc n) f g j d l e h =
    by_eq n j
    (λ q. omega (arith, sum_same n f g (λ i t. h i (λ r. omega arith)), rw (← q) at e))
    (λ q. omega (arith, sum_update n f g j d (omega arith) e h, h n q))

pub sum_zero : (n : ℕ) (f : ℕ → ℕ) → ((i : ℕ) → i < n → f i ≡ 0) → sum_below n f ≡ 0
unfolding sum_below
sum_zero zero f h = refl
sum_zero (suc n) f h = omega (arith, sum_zero n f (λ i l. h i (omega arith)), h n (omega arith))

pub sum_at : (n : ℕ) (f : ℕ → ℕ) → (i : ℕ) → i < n → f i ≤ sum_below n f
unfolding sum_below
sum_at zero f i h = absurd (not-suc-le-zero h)
sum_at (suc n) f i h = by_eq i n (λ q. rw q (omega arith)) (λ q. omega (arith, sum_at n f i (omega arith)))

pub sum_le : (n : ℕ) (f : ℕ → ℕ) → ((i : ℕ) → f i ≤ 1) → sum_below n f ≤ n
unfolding sum_below
sum_le zero f h = omega arith
sum_le (suc n) f h = omega (arith, sum_le n f h, h n)

-- What is 0 from n on adds nothing.
pub sum_cut : (n m : ℕ) (f : ℕ → ℕ) → n ≤ m → ((i : ℕ) → n ≤ i → i < m → f i ≡ 0) → sum_below m f ≡ sum_below n f
unfolding sum_below
sum_cut n zero f l h = let z : n ≡ 0 = omega arith in rw z
sum_cut n (suc m) f l h =
    by_eq n (suc m) (λ q. rw q)
    (λ q. omega (arith, sum_cut n m f (omega arith) (λ i a b. h i a (omega arith)), h m (omega arith) (omega arith)))

-- Part by part no more,
pub sum_mono : (n : ℕ) (f g : ℕ → ℕ) → ((i : ℕ) → i < n → f i ≤ g i) → sum_below n f ≤ sum_below n g
unfolding sum_below
sum_mono zero f g h = omega arith
sum_mono (suc n) f g h = omega (arith, sum_mono n f g (λ i l. h i (omega arith)), h n (omega arith))

-- and one part less.
pub sum_less : (n : ℕ) (f g : ℕ → ℕ) (j : ℕ) → j < n → f j < g j → ((i : ℕ) → i < n → f i ≤ g i) → sum_below n f < sum_below n g
unfolding sum_below
sum_less zero f g j l e h = absurd (not-suc-le-zero l)
sum_less (suc n) f g j l e h =
    by_eq j n (λ q. omega (arith, sum_mono n f g (λ i a. h i (omega arith)), rw q at e))
    (λ q. omega (arith, sum_less n f g j (omega arith) e (λ i a. h i (omega arith)), h n (omega arith)))
