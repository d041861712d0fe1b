-- Decimals: split by split, read back, and how long.
use mathlib.Core.Path.{◌≡◌, refl, ◌∙◌}
use mathlib.Core.Bool.{true}
use mathlib.Core.List.{List, [], ◌∷◌, ◌++◌}
use Prim.Native.Nat.{ℕ, zero, suc, ◌+◌, ◌-◌, ◌*◌, ◌/◌, ◌%◌, ◌^◌, ◌≤◌, ◌<◌}
use native.Mathlib.Omega.{arith}
use native.Mathlib.Nat.{pow-suc}
use lib.Dec.{ltb}
use lib.ListN.{length, length-append}
use borrow.Author.Tests.{lt-ltb, le-ltb, ltb-true, ltb-false, le-leb}
use Rattle.facts.proofs.Bools.{by_bool, both, and_both}
use Rattle.lines.specs.Decimals.{digit, spelt, decimal, value_after, value, is_digit, all_digits, PrintedReadsBack, DigitsAlone}

-- ---- split by split

by_digit {ℓ} : {X : Type ℓ} (n : ℕ) → (n < 10 → X) → (10 ≤ n → X) → X
by_digit n f g = by_bool (ltb n 10) (λ e. f (ltb-true n 10 e)) (λ e. g (ltb-false n 10 e))

-- More splits than n needs change nothing.
enough : (f g n : ℕ) → n ≤ f → n ≤ g → spelt f n ≡ spelt g n
unfolding spelt
enough zero zero n p q = refl
enough zero (suc g) n p q = rw (lt-ltb n 10 (omega arith))
enough (suc f) zero n p q = rw (lt-ltb n 10 (omega arith))
enough (suc f) (suc g) n p q =
    by_digit n (λ h. rw (lt-ltb n 10 h)) (λ h. rw (le-ltb n 10 h, enough f g (n / 10) (omega arith) (omega arith)))

pub decimal_one : (n : ℕ) → n < 10 → decimal n ≡ digit n ∷ []
unfolding decimal spelt
decimal_one zero h = refl
decimal_one (suc n) h = rw (lt-ltb (suc n) 10 h)

pub decimal_more : (n : ℕ) → 10 ≤ n → decimal n ≡ decimal (n / 10) ++ digit (n % 10) ∷ []
unfolding decimal spelt
decimal_more zero h = absurd (omega arith)
decimal_more (suc n) h = rw (le-ltb (suc n) 10 h, enough n (suc n / 10) (suc n / 10) (omega arith) (omega arith))

-- As many splits as a number has digits are enough.
pub decimal_splits : (k n : ℕ) → n < 10 ^ suc k → decimal n ≡ spelt k n
unfolding spelt
decimal_splits zero n h = decimal_one n (omega arith)
decimal_splits (suc k) n h =
    by_digit n (λ d. rw (lt-ltb n 10 d) (decimal_one n d))
    (λ d. rw (le-ltb n 10 d) (decimal_more n d ∙ rw (decimal_splits k (n / 10) (omega (arith, pow-suc 10 (suc k))))))

-- What holds of one digit, and of a number if of its front, holds of every number.
module _ (P : ℕ → List ℕ → Type 0) (one : (n : ℕ) → n < 10 → P n (digit n ∷ [])) (more : (n : ℕ) (l : List ℕ) → 10 ≤ n → P (n / 10) l → P n (l ++ digit (n % 10) ∷ [])) where
  to : (f n : ℕ) → n ≤ f → P n (decimal n)
  to zero n p = rw (decimal_one n (omega arith)) (one n (omega arith))
  to (suc f) n p =
      by_digit n
      (λ h. rw (decimal_one n h) (one n h))
      (λ h. rw (decimal_more n h) (more n (decimal (n / 10)) h (to f (n / 10) (omega arith))))

  each : (n : ℕ) → P n (decimal n)
  each n = to n n (omega arith)

-- ---- read back

value_last : (v b : ℕ) (l : List ℕ) → value_after v (l ++ b ∷ []) ≡ value_after v l * 10 + (b - 48)
unfolding value_after
value_last v b [] = refl
value_last v b (x ∷ l) = value_last (v * 10 + (x - 48)) b l

pub printed_reads_back : PrintedReadsBack
unfolding value_after
printed_reads_back n = each (λ m l. value l ≡ m) one (λ m l h e. value_last 0 (digit (m % 10)) l ∙ omega (arith, e)) n where
  one : (m : ℕ) → m < 10 → value (digit m ∷ []) ≡ m
  one m h = omega arith

-- ---- digits alone

digit_is : (d : ℕ) → d < 10 → is_digit (digit d) ≡ true
digit_is d h = rw (le-leb 48 (digit d) (omega arith), le-leb (digit d) 57 (omega arith))

all_last : (b : ℕ) (l : List ℕ) → is_digit b ≡ true → all_digits l ≡ true → all_digits (l ++ b ∷ []) ≡ true
unfolding all_digits
all_last b [] d e = rw d
all_last b (x ∷ l) d e = let h = both (is_digit x) (all_digits l) e in and_both h.0 (all_last b l d h.1)

pub digits_alone : DigitsAlone
unfolding all_digits
digits_alone n = each (λ m l. all_digits l ≡ true) one (λ m l h e. all_last (digit (m % 10)) l (digit_is (m % 10) (omega arith)) e) n where
  one : (m : ℕ) → m < 10 → all_digits (digit m ∷ []) ≡ true
  one m h = rw (digit_is m h)

-- ---- how long

-- A number below a power of ten has no more digits than that.
pub at_most : (k n : ℕ) → n < 10 ^ suc k → length (decimal n) ≤ suc k
at_most k n = each (λ m l. (j : ℕ) → m < 10 ^ suc j → length l ≤ suc j) (λ m h j b. omega arith) more n k where
  more : (m : ℕ) (l : List ℕ) → 10 ≤ m → ((j : ℕ) → m / 10 < 10 ^ suc j → length l ≤ suc j) → (j : ℕ) → m < 10 ^ suc j → length (l ++ digit (m % 10) ∷ []) ≤ suc j
  more m l h p zero b = absurd (omega arith)
  more m l h p (suc j) b = omega (arith, length-append l (digit (m % 10) ∷ []), p j (omega (arith, pow-suc 10 (suc j))))

pub byte_long : (n : ℕ) → n < 2 ^ 8 → length (decimal n) ≤ 3
byte_long n h = at_most 2 n (omega arith)

pub word_long : (n : ℕ) → n < 2 ^ 32 → length (decimal n) ≤ 10
word_long n h = at_most 9 n (omega arith)

pub one_long : (n : ℕ) → n < 10 → length (decimal n) ≡ 1
one_long n h = rw (decimal_one n h)

pub more_long : (n : ℕ) → 10 ≤ n → length (decimal n) ≡ length (decimal (n / 10)) + 1
more_long n h = rw (decimal_more n h) (length-append (decimal (n / 10)) (digit (n % 10) ∷ []))
