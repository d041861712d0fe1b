-- The balance, demand 3: one statement about every list of records from a fresh kernel. Proved in proofs/Balanced.antt
-- and proofs/Parted.antt.
use Rattle.std.specs.Prelude.{is_some, Err, None, Ok, ◌≡◌, ◌≢◌, Bool, true, false, ◌&&◌, ◌||◌, List, [], ◌∷◌, ◌++◌, ℕ, ◌+◌, ◌<◌, ◌≤◌, ◌^◌, eqb}
use Rattle.layout.specs.Marks.{is}
use Rattle.record.specs.Reading.{opened, Read}
use Rattle.layout.specs.declared.Mark.TheVariants.{PR}
use Rattle.lock.specs.Locks.{bit, waiting, level}
use Rattle.lock.specs.declared.Wait.TheVariants.{Request, Reserve, Enter}
use Rattle.machine.specs.Sets.{Set, Due, Started, Ended, Lost, has, members}
use Rattle.machine.specs.State.{task_at, nothing}
use Rattle.machine.specs.Granting.{servable}
use Rattle.machine.specs.Test.{kernel_refusal}
use Rattle.machine.specs.Step.{step}
use Rattle.machine.specs.Log.{AllOctets, Entry, final, log}
use Rattle.machine.specs.Members.{Membership}
use Rattle.machine.specs.Invariants.{IsDay}
use Rattle.machine.specs.declared.State.{State}
use Rattle.machine.specs.declared.Answer.{Answer}
use Rattle.balance.specs.Counting.{count, is_accepted, returned, granted, none_open, GrantsOpen, open_from}
use Rattle.balance.specs.Fresh.{Fresh, accepted_declaration, accepted_call, turned_away, without, presets, Preset}

-- ---- sums over the log, from the fresh kernel k to the last kernel z

pub record Sums (k : State) (es : List Entry) (z : State) : Type 0 where
  -- dues = starts + losses + the one kept back
  pub dues : (i : ℕ) → i < k.counts.tasks
      → count Due i es
      ≡ count Started i es + count Lost i es + bit (is_some (task_at z.tasks i).kept)
  -- starts = ends + the one alive
  pub starts : (i : ℕ) → i < k.counts.tasks
      → count Started i es ≡ count Ended i es + bit (task_at z.tasks i).alive
  -- value + grants = preset + releases
  pub values : (s : ℕ) → s < k.counts.semaphores
      → level Request z.locks s + granted k.counts.tasks Request s es
      ≡ level Request k.locks s + returned Request s es
  -- readers + leaves = entries granted
  pub readers : (b : ℕ) → b < k.counts.bolts
      → level Enter z.locks b + returned Enter b es ≡ granted k.counts.tasks Enter b es
  -- writer + frees = reserves granted; a writer is 0 or 1
  pub writers : (b : ℕ) → b < k.counts.bolts
      → level Reserve z.locks b + returned Reserve b es ≡ granted k.counts.tasks Reserve b es
  pub writer : (b : ℕ) → b < k.counts.bolts → level Reserve z.locks b ≤ 1
  -- never a writer together with a reader
  pub exclusive : (b : ℕ) → b < k.counts.bolts → level Reserve z.locks b ≡ 1 → level Enter z.locks b ≡ 0
  -- each granted mark belongs to an asking not granted before, and those left open are the ones that wait
  pub grants : GrantsOpen k.counts.tasks None none_open es
  pub waiters : (i : ℕ) → i < k.counts.tasks → waiting (task_at z.tasks i).wait ≡ open_from None none_open es i
  -- no task waits while its whole list could be granted
  pub nobody : (i : ℕ) → i < k.counts.tasks → servable z.counts.tasks z.tasks z.locks i ≡ false
  -- the counts declared stay
  pub counts : z.counts ≡ k.counts

-- ---- at each record of the list, with the kernel handed in

abbrev pub prevents : Read → ℕ → Bool
prevents (Err n) i = false
prevents (Ok h) i = is h.mark PR && eqb h.number i

-- The two ways to lose a start; both need one kept back.
abbrev pub loses : State → List ℕ → Answer → ℕ → Bool
loses k r a i =
    is_some (task_at k.tasks i).kept
    && ((eqb (has i a.sets.due) 1 && (task_at k.tasks i).alive) || (is_accepted a && prevents (opened r).answer i))

pub record RightStep (day : ℕ) (k : State) (r : List ℕ) (a : Answer) (z : State) : Type 0 where
  -- every kernel on the way passes the kernel test with what the rules give on file, so refusals 1 and 16 never arise
  pub tested : kernel_refusal day k ≡ 0
  pub never_1 : a.number ≢ 1
  pub never_16 : a.number ≢ 16
  -- lost exactly when the rule says so
  pub lost : (i : ℕ) → i < k.counts.tasks → has i a.sets.lost ≡ bit (loses k r a i)
  -- sets name declared tasks only
  pub declared : (x : Set) → members x a.sets < 2 ^ k.counts.tasks
  -- a call was accepted after this record exactly when one was before or is now
  pub begun : z.begun ≡ (k.begun || is_accepted a)

unfoldable pub AtEachRecord : ℕ → State → List (List ℕ) → Type 0
AtEachRecord day k [] = Unit {0}
AtEachRecord day k (r ∷ rs) =
    RightStep day k r (step day k r).answer (step day k r).state × AtEachRecord day (step day k r).state rs

-- ---- the theorem

pub record Balanced (day : ℕ) (k : State) (rs : List (List ℕ)) : Type 0 where
  pub sums : Sums k (log day k rs) (final day k rs)
  pub each : AtEachRecord day k rs
  pub last_tested : kernel_refusal day (final day k rs) ≡ 0

-- For every fresh kernel and every list of records, whatever their bytes, without an accepted declaration among them.
abbrev pub Balance : Type 0
Balance =
    (day : ℕ) → IsDay day → (k : State) → Fresh day k → (rs : List (List ℕ)) → AllOctets rs
    → without accepted_declaration (log day k rs) ≡ true → Balanced day k rs

-- ---- from nothing on

-- A first part declares and a second one works: no call is accepted in the first, no declaration in the second.
pub record Parted (day : ℕ) (rs : List (List ℕ)) : Type 0 where
  pub declaring : List (List ℕ)
  pub working : List (List ℕ)
  pub parts : rs ≡ declaring ++ working
  pub entries : log day nothing rs ≡ log day nothing declaring ++ log day (final day nothing declaring) working
  pub last : final day nothing rs ≡ final day (final day nothing declaring) working
  pub no_call : without accepted_call (log day nothing declaring) ≡ true
  pub no_declaration : without accepted_declaration (log day (final day nothing declaring) working) ≡ true
  -- no record is refused with 1 or 16
  pub never_turned_away : without turned_away (log day nothing rs) ≡ true
  -- the first leaves a fresh kernel with its presets
  pub fresh : Fresh day (final day nothing declaring)
  pub preset : Preset (presets (log day nothing declaring)) (final day nothing declaring)
  -- the second balances
  pub balanced : Balanced day (final day nothing declaring) working

-- Whatever the records.
abbrev pub AllParted : Type 0
AllParted = (day : ℕ) → IsDay day → (rs : List (List ℕ)) → AllOctets rs → Parted day rs

-- ---- who is in the other sets

-- Due, started and ended exactly when the rules say so, at each record.
unfoldable pub SetsAtEachRecord : ℕ → State → List (List ℕ) → Type 0
SetsAtEachRecord day k [] = Unit {0}
SetsAtEachRecord day k (r ∷ rs) =
    ((i : ℕ) → i < k.counts.tasks → Membership day k r (step day k r).answer (step day k r).state i)
    × SetsAtEachRecord day (step day k r).state rs

-- For every kernel and every list of records.
abbrev pub SetsAreRight : Type 0
SetsAreRight = (day : ℕ) (k : State) (rs : List (List ℕ)) → SetsAtEachRecord day k rs
