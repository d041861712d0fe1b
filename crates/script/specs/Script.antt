-- A script carried on over a list of records, with the text put into a room of so many bytes.
use Rattle.std.specs.Prelude.{◌≡◌, Bool, true, false, cond, List, [], ◌∷◌, ◌++◌, ℕ, ◌+◌, ◌-◌, ◌≤◌, ◌<◌, length, drop, ltb}
use Rattle.calendar.specs.Limits.{day_length}
use Rattle.machine.specs.Step.{step}
use Rattle.machine.specs.Log.{final}
use Rattle.machine.specs.declared.State.{State}
use Rattle.lines.specs.Lines.{longest_line}
use Rattle.lines.specs.Buffers.{Wrote}
use Rattle.script.specs.Records.{records}
use Rattle.script.specs.Printed.{printed}
use Rattle.script.specs.declared.Stand.{Stand}
use Rattle.script.specs.declared.Stand.TheVariants.{GoingOn}
use Rattle.script.specs.declared.Script.{Script}
use Rattle.script.specs.declared.run.Ran.{Ran}

-- A script that goes on, with this kernel.
abbrev pub going_on : State → Script
going_on k = record { kernel = record { state = k }; stands = GoingOn }

-- The script after a record, and the record's text.
pub record Next : Type 0 where
  pub script : Script
  pub text : List ℕ

-- What a record does is decided by where the script stands.
unfoldable pub next : Stand → ℕ → State → List ℕ → Next
next GoingOn day_length k r = let s = step day_length k r in record { script = going_on s.state; text = printed r s.answer }

-- The script after the last record done, the text, and the records that there was no room for.
pub record Carried : Type 0 where
  pub script : Script
  pub text : List ℕ
  pub left : List (List ℕ)

-- A text before what was carried on.
abbrev pub after_text : List ℕ → Carried → Carried
after_text t c = record { script = c.script; text = t ++ c.text; left = c.left }

-- It stops before the first record for which less than a longest line is left.
unfoldable pub carried : ℕ → Script → List (List ℕ) → ℕ → Carried
carried day p [] room = record { script = p; text = []; left = [] }
carried day p (r ∷ rs) room =
    let n = next p.stands day p.kernel.state r in
    cond (ltb room longest_line) (record { script = p; text = []; left = r ∷ rs })
    (after_text n.text (carried day n.script rs (room - length n.text)))

-- There are some.
abbrev pub some : List (List ℕ) → Bool
some [] = false
some (r ∷ rs) = true

-- What is handed back says of bytes what was carried on: the script, the text in the buffer, and the rest.
pub record Tells (c : Carried) (bytes before after : List ℕ) (r : Ran) : Type 0 where
  pub script : r.script ≡ c.script
  pub text : Wrote before 0 c.text after r.written
  pub within : r.read ≤ length bytes
  pub rest : records (drop r.read bytes) ≡ c.left
  pub full : r.full ≡ some c.left

-- The script over bytes, with the buffer as room.
abbrev pub Runs : ℕ → Script → List ℕ → List ℕ → List ℕ → Ran → Type 0
Runs day p bytes before after r = Tells (carried day p (records bytes) (length before)) bytes before after r

-- One run over the bytes from at on: it gets on, its text lies within the buffer, and the machine's last kernel stays
-- the same.
pub record GetsOn (p : Script) (bytes : List ℕ) (at : ℕ) (before after : List ℕ) (r : Ran) : Type 0 where
  pub runs : Runs day_length p (drop at bytes) before after r
  pub further : 0 < r.read
  pub within : at + r.read ≤ length bytes
  pub text : r.written ≤ length after
  pub last : final day_length r.script.kernel.state (records (drop (at + r.read) bytes)) ≡ final day_length p.kernel.state (records (drop at bytes))
