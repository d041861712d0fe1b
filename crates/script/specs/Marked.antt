-- M1 of document 01, "The script program": the bytes of its nine records, and the text of its six lines.
-- Proved in proofs/WholeProofs.antt.
use Rattle.std.specs.Prelude.{List, [], ◌∷◌, ◌++◌, ℕ, ◌*◌, ◌≤◌, length, replicate}
use Prim.Native.Char.{code}
use Prim.Native.String.{String, [] as none, ◌∷◌ as ◌and◌}
use Rattle.calendar.specs.Limits.{day_length}
use Rattle.machine.specs.State.{nothing}
use Rattle.machine.specs.Log.{final}
use Rattle.lines.specs.Lines.{longest_line}
use Rattle.script.specs.Records.{records}
use Rattle.script.specs.Script.{going_on, Runs}
use Rattle.script.specs.Promises.{Prints}
use Rattle.script.specs.declared.run.Ran.{Ran}

-- The bytes of a text.
unfoldable pub ascii : String → List ℕ
ascii none = []
ascii (c and s) = code c ∷ ascii s

abbrev pub zeros : ℕ → List ℕ
zeros n = replicate n 0

-- Two tasks of priorities 5 and 3, a semaphore with preset 1, and six calls.
abbrev pub m1_script : List ℕ
m1_script =
    ascii "DT" ++ 0 ∷ 5 ∷ zeros 20
    ++ ascii "DT" ++ 0 ∷ 3 ∷ zeros 20
    ++ ascii "DS" ++ zeros 13 ++ 1 ∷ zeros 8
    ++ ascii "AC" ++ zeros 22
    ++ ascii "RQ" ++ 0 ∷ 0 ∷ 1 ∷ zeros 19
    ++ ascii "AC" ++ 1 ∷ zeros 21
    ++ ascii "RQ" ++ 0 ∷ 0 ∷ 1 ∷ zeros 19
    ++ ascii "RL" ++ 0 ∷ 0 ∷ 1 ∷ zeros 19
    ++ ascii "AC" ++ 1 ∷ zeros 21

abbrev pub m1_text : List ℕ
m1_text =
    ascii "0 0 1 1 0 0 0\n"
    ++ ascii "0 0 0 0 0 0 1\n"
    ++ ascii "0 1 2 2 0 0 0\n"
    ++ ascii "0 0 0 0 0 0 0\n"
    ++ ascii "0 1 0 0 0 0 2\n"
    ++ ascii "9 1 0 0 0 0 0\n"

-- From the fresh kernel, into any buffer with room for nine lines.
abbrev pub M1Prints : Type 0
M1Prints =
    (before after : List ℕ) (r : Ran) → longest_line * 9 ≤ length before → Runs day_length (going_on nothing) m1_script before after r
    → Prints m1_text (final day_length nothing (records m1_script)) m1_script before after r
