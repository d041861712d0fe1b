-- A sleep counts as its ticks (request 7): any list of records is held against the list with so many TI for each accepted
-- SL. Proved in proofs/InTicks.antt.
use Rattle.std.specs.Prelude.{Err, Ok, ◌≡◌, Bool, true, false, cond, ◌&&◌, List, [], ◌∷◌, ◌++◌, ℕ, ◌-◌}
use Rattle.calendar.specs.Moments.{instant_or}
use Rattle.layout.specs.Marks.{is}
use Rattle.layout.specs.declared.Mark.TheVariants.{SL}
use Rattle.record.specs.Reading.{opened, Read}
use Rattle.lock.specs.declared.Wait.{Wait}
use Rattle.machine.specs.Sets.{Set}
use Rattle.machine.specs.Step.{step}
use Rattle.machine.specs.Log.{AllOctets, Entry, final, log}
use Rattle.machine.specs.Invariants.{IsDay, Passes}
use Rattle.machine.specs.Scripts.{row, one_tick}
use Rattle.machine.specs.Quiet.{quiet_tick}
use Rattle.machine.specs.declared.State.{State}
use Rattle.balance.specs.Counting.{count, is_accepted, returned, granted}
use Rattle.balance.specs.Fresh.{Fresh, accepted_declaration, without}
use Rattle.balance.specs.Balance.{Balanced}

-- ---- a list of records in ticks

-- What was opened is an SL.
abbrev pub is_sleep : Read → Bool
is_sleep (Err n) = false
is_sleep (Ok h) = is h.mark SL

-- How many ticks it is to the next event on file.
abbrev pub ticks_to_next : State → ℕ
ticks_to_next k = (instant_or k.now k.file.next).0 - k.now.0

module _ (day : ℕ) where
  -- The record is an SL that k accepts.
  abbrev pub sleeps : State → List ℕ → Bool
  sleeps k r = is_accepted (step day k r).answer && is_sleep (opened r).answer

  -- An accepted SL as its ticks, any other record as it is.
  unfoldable pub as_ticks : State → List ℕ → List (List ℕ)
  as_ticks k r = cond (sleeps k r) (row (ticks_to_next k) one_tick) (r ∷ [])

  -- A list of records so, from k on.
  unfoldable pub in_ticks : State → List (List ℕ) → List (List ℕ)
  in_ticks k [] = []
  in_ticks k (r ∷ rs) = as_ticks k r ++ in_ticks (step day k r).state rs

  -- The entries of a record written so: the ticks before the last are quiet, and the last has the sleep's answer.
  unfoldable pub entries_of : State → List ℕ → List Entry
  entries_of k r =
      let a = (step day k r).answer in
      cond (sleeps k r)
      (row (ticks_to_next k - 1) (quiet_tick k) ++ record { bytes = one_tick; answer = a } ∷ [])
      (record { bytes = r; answer = a } ∷ [])

  unfoldable pub entries_in_ticks : State → List (List ℕ) → List Entry
  entries_in_ticks k [] = []
  entries_in_ticks k (r ∷ rs) = entries_of k r ++ entries_in_ticks (step day k r).state rs

-- ---- the theorem

-- The list in ticks leaves the same kernel, its log has the same answers but for the quiet ticks ahead of each sleep's, and
-- every count is the same.
pub record SameInTicks (day : ℕ) (k : State) (rs : List (List ℕ)) : Type 0 where
  pub state : final day k (in_ticks day k rs) ≡ final day k rs
  pub entries : log day k (in_ticks day k rs) ≡ entries_in_ticks day k rs
  pub counts : (x : Set) (i : ℕ) → count x i (log day k (in_ticks day k rs)) ≡ count x i (log day k rs)
  pub returns : (v : Wait) (x : ℕ) → returned v x (log day k (in_ticks day k rs)) ≡ returned v x (log day k rs)
  pub grants : (n : ℕ) (v : Wait) (x : ℕ) → granted n v x (log day k (in_ticks day k rs)) ≡ granted n v x (log day k rs)

-- For every kernel that isn't turned away and every list of records, whatever their bytes.
abbrev pub SleepsCountAsTicks : Type 0
SleepsCountAsTicks =
    (day : ℕ) → IsDay day → (k : State) → Passes day k → (rs : List (List ℕ)) → AllOctets rs → SameInTicks day k rs

-- So from a fresh kernel on the list in ticks, which has no accepted declaration either, balances with the same counts.
abbrev pub BalanceInTicks : Type 0
BalanceInTicks =
    (day : ℕ) → IsDay day → (k : State) → Fresh day k → (rs : List (List ℕ)) → AllOctets rs
    → without accepted_declaration (log day k rs) ≡ true
    → AllOctets (in_ticks day k rs)
    × (without accepted_declaration (log day k (in_ticks day k rs)) ≡ true)
    × Balanced day k (in_ticks day k rs)
    × SameInTicks day k rs
