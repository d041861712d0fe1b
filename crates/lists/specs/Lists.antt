-- Facts that a rule asks of a list of numbers, for any length.
use Rattle.std.specs.Prelude.{Bool, true, false, not, ◌&&◌, ◌||◌, List, [], ◌∷◌, ℕ, ◌+◌, ◌*◌, ◌-◌, take, drop, eqb}

-- The elements from a up to b.
abbrev pub stretch : List ℕ → ℕ → ℕ → List ℕ
stretch s a b = take (b - a) (drop a s)

-- Bytes joined to one number, the first the lowest.
unfoldable pub joined : List ℕ → ℕ
joined [] = 0
joined (x ∷ l) = x + joined l * 256

-- Each number is 0.
unfoldable pub all_zero : List ℕ → Bool
all_zero [] = true
all_zero (x ∷ l) = eqb x 0 && all_zero l

-- A list names a number.
unfoldable pub names : List ℕ → ℕ → Bool
names [] x = false
names (y ∷ l) x = eqb y x || names l x

-- No number stands twice.
unfoldable pub distinct : List ℕ → Bool
distinct [] = true
distinct (x ∷ l) = not (names l x) && distinct l

-- A test of each number of a list.
unfoldable pub every : (ℕ → Bool) → List ℕ → Bool
every f [] = true
every f (x ∷ l) = f x && every f l
