-- Whom the sets due, started and ended of an answer have, read off the record and the kernels before and after it (document
-- 01, "The step"). Proved in proofs/Members.antt.
use Rattle.std.specs.Prelude.{is_some, Err, Ok, ◌≡◌, Bool, false, not, ◌&&◌, ◌||◌, List, ℕ, ◌<◌, eqb}
use Rattle.calendar.specs.Moments.{is_at}
use Rattle.calendar.specs.declared.Instant.{Instant}
use Rattle.layout.specs.Marks.{is}
use Rattle.layout.specs.declared.Call.{Call}
use Rattle.layout.specs.declared.Mark.TheVariants.{AC, TE, EN, TG, TI, SL}
use Rattle.record.specs.Refusals.{on_interrupt}
use Rattle.record.specs.Reading.{call_with, opened, Read}
use Rattle.lock.specs.Locks.{bit}
use Rattle.schedule.specs.Alarms.{listens}
use Rattle.schedule.specs.Coming.{next_of}
use Rattle.machine.specs.declared.Answer.{Answer}
use Rattle.machine.specs.declared.State.{State}
use Rattle.machine.specs.Sets.{has, holds}
use Rattle.machine.specs.State.{task_at, enabled_at}
use Rattle.machine.specs.Running.{runner}
use Rattle.machine.specs.Step.{step}
use Rattle.machine.specs.Continuing.{first_of, is_runner}

-- ---- calls

-- ACTIVATE names task i.
abbrev pub activates : Call → ℕ → Bool
activates c i = is c.head.mark AC && eqb c.head.number i

-- A start of task i comes due in the call c, after which it is n: ACTIVATE at once, or with its first due at the present
-- instant; TRIGGER of the enabled interrupt that its schedule waits for without delay; the tick or sleep to its next due.
unfoldable pub comes_due : ℕ → State → Call → Instant → ℕ → Bool
comes_due day k c n i =
    let h = c.head in
    let m = h.mark in
    let a = (task_at k.tasks i).schedule.alarm in
    (activates c i && (eqb h.kind 0 || (not (on_interrupt h.kind) && eqb (first_of day k h).0 k.now.0)))
    || (is m TG && enabled_at k h.number && (listens h.number a && eqb a.delay.0 0))
    || ((is m TI || is m SL) && is_at n (next_of a))

-- Task i ends in the call c: TERMINATE names it, or it runs and its end comes.
unfoldable pub comes_to_end : State → Call → ℕ → Bool
comes_to_end k c i = (is c.head.mark TE && eqb c.head.number i) || (is c.head.mark EN && is_runner (runner k) i)

-- ---- records

-- f holds of the call that was opened.
abbrev pub of_call : (Call → Bool) → Read → List ℕ → Bool
of_call f (Err n) l = false
of_call f (Ok h) l = f (call_with h l)

-- The answer a accepts the bytes s, and f holds of their call.
abbrev pub accepted_as : (Call → Bool) → List ℕ → Answer → Bool
accepted_as f s a = eqb a.number 0 && of_call f (opened s).answer (opened s).list

-- Task i starts: it was terminated when its start came due, or it has ended with a start kept back.
abbrev pub comes_to_start : State → Answer → ℕ → Bool
comes_to_start k a i =
    (holds i a.sets.due && not (task_at k.tasks i).alive)
    || (holds i a.sets.ended && is_some (task_at k.tasks i).kept)

-- Where the three sets of the answer a have task i; z is the kernel after it.
pub record Membership (day : ℕ) (k : State) (s : List ℕ) (a : Answer) (z : State) (i : ℕ) : Type 0 where
  pub due : has i a.sets.due ≡ bit (accepted_as (λ c. comes_due day k c z.now i) s a)
  pub started : has i a.sets.started ≡ bit (comes_to_start k a i)
  pub ended : has i a.sets.ended ≡ bit (accepted_as (λ c. comes_to_end k c i) s a)

-- ---- the promise

-- Whatever the kernel and the bytes.
abbrev pub SetsHave : Type 0
SetsHave =
    (day : ℕ) (k : State) (s : List ℕ) (i : ℕ) → i < k.counts.tasks
    → Membership day k s (step day k s).answer (step day k s).state i
