-- What is carried on, for every script, any list of records and any room. Proved in proofs/PromiseProofs.antt
-- and proofs/WholeProofs.antt.
use Rattle.std.specs.Prelude.{◌≡◌, true, false, List, [], ◌++◌, ℕ, ◌-◌, ◌*◌, ◌≤◌, ◌<◌, length}
use Rattle.machine.specs.Log.{final, log}
use Rattle.machine.specs.declared.State.{State}
use Rattle.lines.specs.Lines.{longest_line}
use Rattle.lines.specs.Buffers.{Wrote}
use Rattle.script.specs.Records.{records}
use Rattle.script.specs.Printed.{lines}
use Rattle.script.specs.Script.{going_on, Carried, some, carried, Runs}
use Rattle.script.specs.declared.Script.{Script}
use Rattle.script.specs.declared.run.Ran.{Ran}

pub record Carries (day : ℕ) (p : Script) (rs : List (List ℕ)) (room : ℕ) (c : Carried) : Type 0 where
  -- the records are those done and then those left
  pub done : List (List ℕ)
  pub split : rs ≡ done ++ c.left
  -- the text is that of the machine's log, and it goes on with the machine's kernel
  pub text : c.text ≡ lines (log day p.kernel.state done)
  pub script : c.script ≡ going_on (final day p.kernel.state done)
  -- where some are left, a longest line doesn't fit any more
  pub full : some c.left ≡ true → room - length c.text < longest_line
  -- with room for a longest line each, none is left
  pub all : longest_line * length rs ≤ room → c.left ≡ []

abbrev pub ScriptsCarried : Type 0
ScriptsCarried = (day : ℕ) (p : Script) (rs : List (List ℕ)) (room : ℕ) → Carries day p rs room (carried day p rs room)

-- All bytes were read, with the text t and the last kernel z.
pub record Prints (t : List ℕ) (z : State) (bytes before after : List ℕ) (r : Ran) : Type 0 where
  pub text : Wrote before 0 t after r.written
  pub script : r.script ≡ going_on z
  pub read : r.read ≡ length bytes
  pub full : r.full ≡ false

-- With room for a longest line each, `run` prints the machine's lines.
abbrev pub RunsWhole : Type 0
RunsWhole =
    (day : ℕ) (p : Script) (bytes before after : List ℕ) (r : Ran) → longest_line * length (records bytes) ≤ length before
    → Runs day p bytes before after r
    → Prints (lines (log day p.kernel.state (records bytes))) (final day p.kernel.state (records bytes)) bytes before after r
