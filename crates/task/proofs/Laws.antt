-- Laws of the definitions: turns that change nothing, and a priority given.
use mathlib.Core.Path.{◌≡◌, refl, sym, ◌∙◌}
use mathlib.Core.Bool.{false, ◌||◌, or-false}
use Prim.Native.Nat.{ℕ, zero, suc}
use Rattle.calendar.specs.declared.Instant.{Instant}
use Rattle.facts.proofs.Bools.{neither}
use Rattle.schedule.specs.Alarms.{falls, listens}
use Rattle.schedule.proofs.Coming.{falls_at_next}
use Rattle.task.specs.declared.Task.{Task}
use Rattle.task.specs.Continuations.{or_else, continue_at, called_by}
use Rattle.task.specs.Turns.{unmarked, delay_ends, wake, fall_turn, start_turn, trigger_turn}
use Rattle.task.specs.Promises.{ComesIsDue, QuietTurn}

-- What comes to a task, by its parts.
pub comes_parts : ComesIsDue
comes_parts n t = rw (falls_at_next n t.schedule.alarm, falls_at_next n t.continuation, or-false)

pub still : QuietTurn
unfolding wake fall_turn continue_at
still n t e =
    let (asleep, rest) = neither (delay_ends n t.hold) _ (sym (comes_parts n t) ∙ e) in
    let (quiet, resting) = neither (falls n t.schedule.alarm) (falls n t.continuation) rest in
    rw (asleep, resting, quiet)

-- A trigger of an interrupt that a task doesn't listen to leaves it as it is.
pub deaf :
    (day clock : ℕ) (n : Instant) (i : ℕ) (t : Task) →
    (listens i t.schedule.alarm || listens i t.continuation) ≡ false → trigger_turn day clock n i t ≡ unmarked t
unfolding start_turn called_by
deaf day clock n i t e =
    let (quiet, resting) = neither (listens i t.schedule.alarm) (listens i t.continuation) e in
    rw (resting, quiet)

-- A priority given is taken.
pub given_taken : (p q : ℕ) → (p ≡ 0 → ⊥) → p ≡ or_else p q
given_taken zero q h = absurd (h refl)
given_taken (suc p) q h = refl
