-- Numbers as decimal text, in ASCII.
use Rattle.std.specs.Prelude.{◌≡◌, Bool, true, cond, ◌&&◌, List, [], ◌∷◌, ◌++◌, ℕ, zero, suc, ◌+◌, ◌-◌, ◌*◌, ◌/◌, ◌%◌, leb, ltb}

-- The byte of a digit.
abbrev pub digit : ℕ → ℕ
digit d = 48 + d

-- The digits of n, the last split off first, in at most so many splits.
unfoldable pub spelt : ℕ → ℕ → List ℕ
spelt zero n = digit n ∷ []
spelt (suc splits) n = cond (ltb n 10) (digit n ∷ []) (spelt splits (n / 10) ++ digit (n % 10) ∷ [])

-- A number without leading zeros. It never takes more splits than its value.
unfoldable pub decimal : ℕ → List ℕ
decimal n = spelt n n

-- What digits say after a number v.
unfoldable pub value_after : ℕ → List ℕ → ℕ
value_after v [] = v
value_after v (b ∷ l) = value_after (v * 10 + (b - 48)) l

-- What digits say.
abbrev pub value : List ℕ → ℕ
value l = value_after 0 l

abbrev pub is_digit : ℕ → Bool
is_digit b = leb 48 b && leb b 57

-- Each byte is a digit.
unfoldable pub all_digits : List ℕ → Bool
all_digits [] = true
all_digits (b ∷ l) = is_digit b && all_digits l

-- ---- what holds of every number, proved in proofs/DecimalLaws.antt

-- What is printed reads back.
abbrev pub PrintedReadsBack : Type 0
PrintedReadsBack = (n : ℕ) → value (decimal n) ≡ n

-- A number is digits alone, so a space or a line feed ends it.
abbrev pub DigitsAlone : Type 0
DigitsAlone = (n : ℕ) → all_digits (decimal n) ≡ true
