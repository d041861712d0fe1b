-- The bytes that a call doesn't use, and the stretches in which they lie (document 02, request 5).
-- The table of used fields, `uses`, decides; all of this follows from it.
use Rattle.std.specs.Prelude.{Bool, true, false, cond, ◌&&◌, ◌||◌, List, [], ◌∷◌, ◌++◌, ℕ, suc, ◌+◌, ◌≤◌, ◌<◌, take, drop, replicate, leb, ltb, eqb}
use Rattle.lists.specs.Lists.{all_zero}
use Rattle.record.specs.Refusals.{Used}

-- Bytes 2 to 8: number, priority, length, and the list's four, of which those below the length are used.
abbrev pub used_names : Used → ℕ → List Bool
used_names u len =
    u.number ∷ u.priority ∷ u.list
    ∷ (u.list && ltb 0 len) ∷ (u.list && ltb 1 len) ∷ (u.list && ltb 2 len) ∷ (u.list && ltb 3 len) ∷ []

-- Bytes 10 to 23: interrupt, end kind, and the four of each time.
abbrev pub start_bytes : Bool → Bool → Bool → Bool → Bool → List Bool
start_bytes interrupt endkind first period endtime =
    (interrupt ∷ endkind ∷ []) ++ replicate 4 first ++ replicate 4 period ++ replicate 4 endtime

abbrev pub used_start : Used → List Bool
used_start u = start_bytes u.interrupt u.endkind u.first u.period u.endtime

-- Which of the 24 bytes a call uses whose list has this length. The mark is always used.
unfoldable pub used_bytes : Used → ℕ → List Bool
used_bytes u len = (true ∷ true ∷ []) ++ used_names u len ++ u.kind ∷ used_start u

-- Bytes side by side: where they begin, and how many there are.
pub record Stretch : Type 0 where
  pub place : ℕ
  pub count : ℕ

-- Stretches with the byte before them: it makes the first one longer, or is one of its own.
unfoldable pub grown : ℕ → List Stretch → List Stretch
grown i [] = record { place = i; count = 1 } ∷ []
grown i (t ∷ ts) =
    cond (eqb t.place (suc i)) (record { place = i; count = suc t.count } ∷ ts) (record { place = i; count = 1 } ∷ t ∷ ts)

-- The stretches of unused bytes among those from i on.
unfoldable pub stretches : ℕ → List Bool → List Stretch
stretches i [] = []
stretches i (true ∷ used) = stretches (suc i) used
stretches i (false ∷ used) = grown i (stretches (suc i) used)

-- The stretches of a call's unused bytes.
abbrev pub unused : Used → ℕ → List Stretch
unused u len = stretches 0 (used_bytes u len)

-- Each byte of each stretch is 0.
unfoldable pub zero_in : List ℕ → List Stretch → Bool
zero_in s [] = true
zero_in s (t ∷ ts) = all_zero (take t.count (drop t.place s)) && zero_in s ts

-- ---- what stretches are

-- A byte lies in one of the stretches.
unfoldable pub lies : ℕ → List Stretch → Bool
lies i [] = false
lies i (t ∷ ts) = (leb t.place i && ltb i (t.place + t.count)) || lies i ts

-- From i on the stretches follow one another, each has a byte, and one at least stands between two of them.
abbrev pub ApartFrom : ℕ → List Stretch → Type 0
ApartFrom i [] = Unit
ApartFrom i (t ∷ ts) = (i ≤ t.place) × ((0 < t.count) × ApartFrom (suc (t.place + t.count)) ts)
