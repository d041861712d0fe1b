-- Demand 3 with sleeps in ticks, of what the code hands back (request 7). Proved in proofs/InTicks.antt.
use Rattle.std.specs.Prelude.{◌≡◌, Bool, true, cond, ◌&&◌, List, [], ◌∷◌, ◌++◌, ℕ, ◌-◌}
use Rattle.calendar.specs.Limits.{day_length}
use Rattle.record.specs.Reading.{opened}
use Rattle.lock.specs.declared.Wait.{Wait}
use Rattle.machine.specs.Sets.{Set}
use Rattle.machine.specs.Log.{AllOctets, Entry}
use Rattle.machine.specs.Scripts.{row, one_tick}
use Rattle.machine.specs.Quiet.{quiet_tick}
use Rattle.balance.specs.Counting.{count, is_accepted, returned, granted}
use Rattle.balance.specs.Fresh.{accepted_declaration, without}
use Rattle.balance.specs.InTicks.{is_sleep, ticks_to_next, in_ticks}
use Rattle.kernel.specs.declared.Kernel.{Kernel}
use Rattle.delivery.specs.Delivered.{HandedFresh, Use, Handed, records, entry, answers, last, CodeBalanced, Delivered}

-- The code has accepted the use, and its record is an SL.
abbrev pub slept : Use → Bool
slept u = is_accepted u.reply.answer && is_sleep (opened u.bytes).answer

-- The code's answer to a use on kernel a, with a quiet tick ahead of a sleep's for each of its ticks but the last.
unfoldable pub as_ticked : Kernel → Use → List Entry
as_ticked a u =
    cond (slept u)
    (row (ticks_to_next a.state - 1) (quiet_tick a.state) ++ record { bytes = one_tick; answer = u.reply.answer } ∷ [])
    (entry u ∷ [])

unfoldable pub answers_in_ticks : Kernel → List Use → List Entry
answers_in_ticks a [] = []
answers_in_ticks a (u ∷ us) = as_ticked a u ++ answers_in_ticks u.reply.kernel us

-- Two lists of uses from kernel a on: vs has ticks where us sleeps. Its answers are those to us but for the quiet ticks, it
-- leaves the same kernel, every count is the same, and it balances.
pub record SleepsAsTicks (a : Kernel) (us vs : List Use) : Type 0 where
  pub entries : answers vs ≡ answers_in_ticks a us
  pub state : (last a vs).state ≡ (last a us).state
  pub counts : (x : Set) (i : ℕ) → count x i (answers vs) ≡ count x i (answers us)
  pub returns : (v : Wait) (x : ℕ) → returned v x (answers vs) ≡ returned v x (answers us)
  pub grants : (n : ℕ) (v : Wait) (x : ℕ) → granted n v x (answers vs) ≡ granted n v x (answers us)
  pub no_declaration : without accepted_declaration (answers vs) ≡ true
  pub balanced : CodeBalanced a vs

-- From what `Kernel::fresh` hands back: the working part of any uses, and any uses whose records are its list in ticks.
abbrev pub FreshDeliversInTicks : Type 0
FreshDeliversInTicks =
    (a : Kernel) → HandedFresh a → (us : List Use) → Handed a us → AllOctets (records us)
    → (d : Delivered a us)
    × (let b = last a d.declaring in
    (vs : List Use) → Handed b vs → records vs ≡ in_ticks day_length b.state (records d.working)
    → SleepsAsTicks b d.working vs)
