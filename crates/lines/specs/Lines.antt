-- The line of an answer: number, running task, and the five sets.
use Rattle.std.specs.Prelude.{None, Some, ◌≡◌, List, [], ◌∷◌, ◌++◌, ℕ, ◌^◌, ◌≤◌, ◌<◌, length}
use Rattle.machine.specs.Sets.{Set, members}
use Rattle.machine.specs.declared.Answer.{Answer}
use Rattle.machine.specs.declared.Sets.{Sets}
use Rattle.machine.specs.Running.{Running}
use Rattle.lines.specs.Decimals.{decimal}

abbrev pub space : ℕ
space = 32

abbrev pub dash : ℕ
dash = 45

abbrev pub line_feed : ℕ
line_feed = 10

-- A dash for none.
unfoldable pub running_text : Running → List ℕ
running_text None = dash ∷ []
running_text (Some i) = decimal i

-- Five numbers, each after a space, and a line feed.
unfoldable pub sets_text : Sets → List ℕ
sets_text s =
    space ∷ decimal s.due
    ++ space ∷ decimal s.started
    ++ space ∷ decimal s.ended
    ++ space ∷ decimal s.lost
    ++ space ∷ decimal s.granted
    ++ line_feed ∷ []

-- As 0 - 1 1 0 0 0 and a line feed.
unfoldable pub line : Answer → List ℕ
line a = decimal a.number ++ space ∷ running_text a.running ++ sets_text a.sets

-- Two numbers of three digits, five of ten, six spaces and a line feed.
abbrev pub longest_line : ℕ
longest_line = 63

-- ---- the values of the code

abbrev pub RunningByte : Running → Type 0
RunningByte None = Unit
RunningByte (Some i) = i < 2 ^ 8

-- Number and task are bytes, and each set is a word.
pub record InTypes (a : Answer) : Type 0 where
  pub number : a.number < 2 ^ 8
  pub running : RunningByte a.running
  pub sets : (x : Set) → members x a.sets < 2 ^ 32

-- ---- what holds of every line, proved in proofs/LineLaws.antt

abbrev pub NoLineLonger : Type 0
NoLineLonger = (a : Answer) → InTypes a → length (line a) ≤ longest_line

-- Lines read back: equal texts that start with a line each have the same first answer and the same rest.
abbrev pub LinesReadBack : Type 0
LinesReadBack = (a b : Answer) (r s : List ℕ) → line a ++ r ≡ line b ++ s → (a ≡ b) × (r ≡ s)
