-- What changes a priority: the second hypothesis speaks of nothing but CONTINUE (request 4). Proved in
-- proofs/Steady.antt.
use Rattle.std.specs.Prelude.{Err, Ok, ◌≡◌, Bool, true, false, ◌&&◌, ◌||◌, List, ℕ, ◌<◌, eqb}
use Rattle.layout.specs.Fields.{Octets}
use Rattle.layout.specs.Marks.{is}
use Rattle.layout.specs.declared.Mark.TheVariants.{CO, TG, TI, SL}
use Rattle.record.specs.Reading.{opened, Read}
use Rattle.schedule.specs.Alarms.{falls, listens}
use Rattle.machine.specs.State.{task_at, enabled_at}
use Rattle.machine.specs.Calls.{arrival}
use Rattle.machine.specs.Step.{step}
use Rattle.machine.specs.Invariants.{IsDay, Passes}
use Rattle.machine.specs.declared.State.{State}
use Rattle.wait_bound.specs.Waiting.{changes_at, stage_of}

-- What was opened is a CONTINUE of task i, or its continuation comes due: by a trigger of its enabled interrupt, or in
-- the tick or sleep to its instant.
abbrev pub continues : State → Read → ℕ → Bool
continues k (Err n) i = false
continues k (Ok h) i =
    let a = (task_at k.tasks i).continuation in
    (is h.mark CO && eqb h.number i)
    || (is h.mark TG && enabled_at k h.number && listens h.number a)
    || ((is h.mark TI || is h.mark SL) && falls (arrival h.mark k) a)

-- A task that goes on living has another priority after an accepted record of that kind only.
abbrev pub OnlyContinues : Type 0
OnlyContinues =
    (day : ℕ) → IsDay day → (k : State) → Passes day k → (b : List ℕ) → Octets b → (i : ℕ) → i < k.counts.tasks
    → changes_at (stage_of day k b) i ≡ true → (eqb (step day k b).answer.number 0 && continues k (opened b).answer i) ≡ true
