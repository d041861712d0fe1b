-- What the zero test tells of bytes, for any number of them at any place, which lists are not distinct, and a test of a
-- list of each number. Proved in proofs/Theorems.antt and proofs/EveryLaws.antt.
use Rattle.std.specs.Prelude.{◌≡◌, Bool, true, false, List, ◌↔◌, ℕ, ◌+◌, ◌<◌, length, get_or}
use Rattle.lists.specs.Lists.{stretch, joined, all_zero, names, distinct, every}

-- Joined bytes are 0 exactly when each of them is.
abbrev pub JoinedIsZero : Type 0
JoinedIsZero = (l : List ℕ) → (joined l ≡ 0) ↔ (all_zero l ≡ true)

-- A stretch passes exactly when each of its bytes is 0.
abbrev pub StretchIsZero : Type 0
StretchIsZero =
    (s : List ℕ) (a n : ℕ) → (all_zero (stretch s a (a + n)) ≡ true) ↔ ((i : ℕ) → i < n → get_or s (a + i) 0 ≡ 0)

-- Two places of a list have the same number.
abbrev pub Twice : List ℕ → Type 0
Twice l = (i : ℕ) × (j : ℕ) × (i < j) × (j < length l) × (get_or l i 0 ≡ get_or l j 0)

-- A list is distinct unless it names a number twice.
abbrev pub NotDistinctIsTwice : Type 0
NotDistinctIsTwice = (l : List ℕ) → (distinct l ≡ false) ↔ Twice l

-- A list passes a test exactly when each number that it names does.
abbrev pub EveryIsEach : Type 0
EveryIsEach =
    (f : ℕ → Bool) (l : List ℕ) → (every f l ≡ true) ↔ ((x : ℕ) → names l x ≡ true → f x ≡ true)
