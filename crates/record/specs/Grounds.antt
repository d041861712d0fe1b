-- What gets 2, 3, 4 and 6, in the words and figures of document 01, "Refusals, in checking order". Proved in
-- proofs/GroundLaws.antt and proofs/FigureLaws.antt.
use Rattle.std.specs.Prelude.{◌≡◌, true, List, [], ◌∷◌, ◌++◌, map, ◌⊎◌, ◌↔◌, ℕ, ◌+◌, ◌<◌, length}
use Rattle.layout.specs.declared.Mark.{Mark}
use Rattle.layout.specs.declared.Mark.TheVariants.{TR}
use Rattle.layout.specs.Marks.{code}
use Rattle.layout.specs.Fields.{record_length, byte, letters, bytes_of_word}
use Rattle.layout.specs.Letters.{ascii, zeros}
use Rattle.lists.specs.Lists.{names}
use Rattle.record.specs.Reading.{number_of, reading}
use Rattle.record.specs.Positions.{list_marks}

-- ---- 4

-- A list is empty, names a number twice, or is TR's with more than one.
abbrev pub BadList : Mark → List ℕ → Type 0
BadList m s =
    (byte s 4 ≡ 0)
    ⊎ (((i : ℕ) × (j : ℕ) × (i < j) × (j < byte s 4) × (byte s (5 + i) ≡ byte s (5 + j)))
    ⊎ ((m ≡ TR) × (1 < byte s 4)))

-- Of a mark that takes a list, a record that doesn't get 3 gets 4 just for its list.
abbrev pub FourIsABadList : Type 0
FourIsABadList =
    (day : ℕ) (s : List ℕ) (m : Mark) → length s ≡ record_length → letters s ≡ code m
    → names (map code list_marks) (code m) ≡ true → (number_of (reading day s).answer ≡ 3 → ⊥)
    → (number_of (reading day s).answer ≡ 4) ↔ BadList m s

-- ---- records and their numbers

-- What the reader gives for these bytes, with a day of 86,400,000 ms.
abbrev pub given : List ℕ → ℕ
given s = number_of (reading 86400000 s).answer

-- Mark, number and priority, and no more.
abbrev pub short : List ℕ → ℕ → ℕ → List ℕ
short mark number priority = mark ++ number ∷ priority ∷ zeros 20

-- Mark, length and four list bytes.
abbrev pub listing : List ℕ → ℕ → ℕ → ℕ → ℕ → ℕ → List ℕ
listing mark len a b c d = mark ++ 0 ∷ 0 ∷ len ∷ a ∷ b ∷ c ∷ d ∷ zeros 15

-- Mark, start kind, end kind and three times.
abbrev pub timing : List ℕ → ℕ → ℕ → ℕ → ℕ → ℕ → List ℕ
timing mark kind endkind first period endtime =
    mark ++ zeros 7 ++ kind ∷ 0 ∷ endkind ∷ bytes_of_word first ++ bytes_of_word period ++ bytes_of_word endtime

-- The numbers that a record gets with each of these values.
abbrev pub each : (ℕ → List ℕ) → List ℕ → List ℕ
each r = map (λ n. given (r n))

-- Each ground beside records that differ in the one value and get 0.
pub record GroundsInFigures : Type 0 where
  -- 2: so many bytes behind the letters, and letters of no mark.
  pub bytes : each (λ n. ascii "TI" ++ zeros n) (0 ∷ 21 ∷ 22 ∷ 23 ∷ 46 ∷ []) ≡ 2 ∷ 2 ∷ 0 ∷ 2 ∷ 2 ∷ []
  pub mark : given (ascii "ti" ++ zeros 22) ≡ 2
  -- 3: unused fields.
  pub priority_of_terminate : each (short (ascii "TE") 1) (0 ∷ 1 ∷ []) ≡ 0 ∷ 3 ∷ []
  pub number_of_tick : each (λ n. short (ascii "TI") n 0) (0 ∷ 1 ∷ []) ≡ 0 ∷ 3 ∷ []
  pub past_the_length : each (λ n. listing (ascii "RQ") 1 7 n 0 0) (0 ∷ 1 ∷ []) ≡ 0 ∷ 3 ∷ []
  -- 3: ranges.
  pub declared_priority : each (short (ascii "DT") 0) (0 ∷ 1 ∷ 255 ∷ []) ≡ 3 ∷ 0 ∷ 0 ∷ []
  pub preset : each (λ n. timing (ascii "DS") 0 0 n 0 0) (0 ∷ 65535 ∷ 65536 ∷ []) ≡ 0 ∷ 0 ∷ 3 ∷ []
  pub length_of_list : each (λ n. listing (ascii "RQ") n 0 1 2 3) (4 ∷ 5 ∷ []) ≡ 0 ∷ 3 ∷ []
  pub start_kind : each (λ k. timing (ascii "AC") k 0 0 1 0) (0 ∷ 3 ∷ 5 ∷ 6 ∷ []) ≡ 3 ∷ 0 ∷ 0 ∷ 3 ∷ []
  pub end_kind : each (λ k. timing (ascii "AC") 5 k 0 1 1) (1 ∷ 2 ∷ 3 ∷ []) ≡ 0 ∷ 0 ∷ 3 ∷ []
  pub kind_of_continue : each (λ k. timing (ascii "CO") k 0 0 0 0) (0 ∷ 3 ∷ 5 ∷ []) ≡ 0 ∷ 0 ∷ 3 ∷ []
  -- 4, after 3.
  pub empty : each (λ n. listing (ascii "RQ") n 0 0 0 0) (0 ∷ 1 ∷ []) ≡ 4 ∷ 0 ∷ []
  pub twice : each (λ n. listing (ascii "FR") 4 5 6 7 n) (5 ∷ 6 ∷ 7 ∷ 8 ∷ []) ≡ 4 ∷ 4 ∷ 4 ∷ 0 ∷ []
  pub try_of_one : given (listing (ascii "TR") 1 5 0 0 0) ≡ 0
  pub try_of_two : given (listing (ascii "TR") 2 5 6 0 0) ≡ 4
  pub try_of_four : given (listing (ascii "TR") 4 5 6 7 8) ≡ 4
  pub three_before_four : each (λ n. listing (ascii "RQ") 0 n 0 0 0) (0 ∷ 1 ∷ []) ≡ 4 ∷ 3 ∷ []
  -- 6: times of day, AT and UNTIL too.
  pub clock : each (λ t. timing (ascii "DC") 0 0 t 0 0) (0 ∷ 86399999 ∷ 86400000 ∷ []) ≡ 0 ∷ 0 ∷ 6 ∷ []
  pub at : each (λ t. timing (ascii "AC") 1 0 t 0 0) (0 ∷ 86399999 ∷ 86400000 ∷ []) ≡ 0 ∷ 0 ∷ 6 ∷ []
  pub until : each (λ t. timing (ascii "AC") 5 1 0 1 t) (0 ∷ 86399999 ∷ 86400000 ∷ []) ≡ 0 ∷ 0 ∷ 6 ∷ []
  -- 6: durations, AFTER, WHEN AFTER, DURING and RESUME.
  pub after : each (λ d. timing (ascii "AC") 2 0 d 0 0) (0 ∷ 1 ∷ 1000000000 ∷ 1000000001 ∷ []) ≡ 6 ∷ 0 ∷ 0 ∷ 6 ∷ []
  pub when_after : each (λ d. timing (ascii "CO") 4 0 d 0 0) (0 ∷ 1 ∷ 1000000000 ∷ 1000000001 ∷ []) ≡ 6 ∷ 0 ∷ 0 ∷ 6 ∷ []
  pub during : each (λ d. timing (ascii "AC") 5 2 0 1 d) (0 ∷ 1 ∷ 1000000000 ∷ 1000000001 ∷ []) ≡ 6 ∷ 0 ∷ 0 ∷ 6 ∷ []
  pub resume : each (λ d. timing (ascii "RE") 0 0 d 0 0) (0 ∷ 1 ∷ 1000000000 ∷ 1000000001 ∷ []) ≡ 6 ∷ 0 ∷ 0 ∷ 6 ∷ []
  -- 6: periods, which ALL alone and an end need.
  pub period : each (λ p. timing (ascii "AC") 3 0 0 p 0) (0 ∷ 1 ∷ 1000000000 ∷ 1000000001 ∷ []) ≡ 0 ∷ 0 ∷ 0 ∷ 6 ∷ []
  pub period_of_all : each (λ p. timing (ascii "AC") 5 0 0 p 0) (0 ∷ 1 ∷ []) ≡ 6 ∷ 0 ∷ []
  pub period_of_end : each (λ p. timing (ascii "AC") 3 2 0 p 1) (0 ∷ 1 ∷ []) ≡ 6 ∷ 0 ∷ []
