-- The balance of a whole script: what `run` promises of the lines and of the last kernel. Proved in proofs/Scripted.antt.
use Rattle.std.specs.Prelude.{◌≡◌, List, [], ◌++◌, ℕ, drop}
use base.Fml.{Lft}
use Rattle.std.specs.Borrow.{Bor, MutBor}
use Rattle.calendar.specs.Limits.{day_length}
use Rattle.layout.specs.Fields.{Octets}
use Rattle.machine.specs.State.{nothing}
use Rattle.machine.specs.Log.{AllOctets, final, log}
use Rattle.balance.specs.Balance.{Parted}
use Rattle.kernel.specs.declared.Kernel.{Kernel}
use Rattle.lines.specs.Buffers.{Wrote}
use Rattle.script.specs.Records.{records}
use Rattle.script.specs.Printed.{lines}
use Rattle.script.specs.Script.{going_on}
use Rattle.script.specs.declared.Script.{Script}
use Rattle.script.specs.declared.run.Ran.{Ran}
use Rattle.script.proofs.Script.begin.Reads as begin
use Rattle.script.proofs.run.run.Reads as run
use Rattle.delivery.specs.Delivered.{HandedFresh}

-- What `Script::begin` promises of the script that it hands back for kernel a.
abbrev pub Begun : Kernel → Script → Type 0
Begun a p = begin.Learnt tt (a, tt) p (a, tt)

-- One use of `run` on script p: bytes, the buffer before and after it, and what came back.
pub record RunBy (p : Script) (bytes before after : List ℕ) (r : Ran) : Type 0 where
  pub lifetimes : Lft × Lft
  pub slice : Bor (List ℕ)
  pub out : MutBor (List ℕ)
  pub end : MutBor (List ℕ)
  pub refers : (slice.now ≡ bytes) × (out.now ≡ before) × (end.now ≡ after)
  pub learnt : run.Learnt (lifetimes.0, (lifetimes.1, tt)) (p, (slice, (out, tt))) r (p, (slice, (end, tt)))

-- On a script that the records past have left, from nothing on.
pub record ScriptBalanced (past : List (List ℕ)) (bytes before after : List ℕ) (r : Ran) : Type 0 where
  -- the records are those done and then those left
  pub done : List (List ℕ)
  pub split : records bytes ≡ done ++ records (drop r.read bytes)
  -- the lines and the last kernel are the machine's for those done
  pub text : Wrote before 0 (lines (log day_length (final day_length nothing past) done)) after r.written
  pub script : r.script ≡ going_on (final day_length nothing (past ++ done))
  -- all together declare first, and then balance
  pub parted : Parted day_length (past ++ done)

-- A script begun on what `Kernel::fresh` hands back, whatever the bytes and the buffer.
abbrev pub ScriptBalances : Type 0
ScriptBalances =
    (a : Kernel) → HandedFresh a → (p : Script) → Begun a p → (bytes before after : List ℕ) (r : Ran) → Octets bytes
    → RunBy p bytes before after r → ScriptBalanced [] bytes before after r

-- And on what was handed back before, as the rest of a script is where the buffer got full.
abbrev pub RestBalances : Type 0
RestBalances =
    (p : Script) (past : List (List ℕ)) → AllOctets past → p ≡ going_on (final day_length nothing past)
    → (bytes before after : List ℕ) (r : Ran) → Octets bytes
    → RunBy p bytes before after r → ScriptBalanced past bytes before after r
