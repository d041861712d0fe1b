-- The text of a script: each record's line, but none for an accepted declaration.
use Rattle.std.specs.Prelude.{Bool, not, cond, ◌&&◌, List, [], ◌∷◌, ◌++◌, ℕ, eqb}
use Rattle.record.specs.Reading.{opened}
use Rattle.machine.specs.Log.{is_declaration, Entry}
use Rattle.machine.specs.declared.Answer.{Answer}
use Rattle.lines.specs.Lines.{line}

-- An accepted declaration.
unfoldable pub silent : List ℕ → Answer → Bool
silent bytes a = eqb a.number 0 && is_declaration (opened bytes).answer

-- The line of an answer, or nothing.
abbrev pub shown : Bool → Answer → List ℕ
shown b a = cond b (line a) []

unfoldable pub printed : List ℕ → Answer → List ℕ
printed bytes a = shown (not (silent bytes a)) a

-- All lines of a log.
unfoldable pub lines : List Entry → List ℕ
lines [] = []
lines (e ∷ es) = printed e.bytes e.answer ++ lines es
