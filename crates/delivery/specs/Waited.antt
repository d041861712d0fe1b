-- How long a waiting task waits, of what the code hands back: by `Kernel::step`, by the methods, and the bound by
-- `bound_of` (request 4). Proved in proofs/Waited.antt.
use Rattle.std.specs.Prelude.{Some, ◌≡◌, List, [], ◌∷◌, ℕ, suc, ◌<◌, ◌≤◌}
use Rattle.calendar.specs.Limits.{day_length}
use Rattle.machine.specs.Running.{runner, Running}
use Rattle.machine.specs.Log.{AllOctets}
use Rattle.machine.specs.Invariants.{Passes}
use Rattle.wait_bound.specs.Queue.{ahead, Bound}
use Rattle.wait_bound.specs.declared.Releases.{Releases}
use Rattle.kernel_bound.proofs.bound_of.Reads as bound
use Rattle.wait_bound.specs.Stages.{Stage, stages, how_many, while}
use Rattle.wait_bound.specs.Waiting.{releases, waits, Undisturbed, WaitsFor, GrantedBy}
use Rattle.kernel.specs.declared.Kernel.{Kernel}
use Rattle.delivery.specs.Delivered.{Use, Handed, records}

-- The stages of a list of uses, with the kernels and answers that the code hands back.
unfoldable pub uses_from : Running → Kernel → List Use → List Stage
uses_from r a [] = []
uses_from r a (u ∷ us) =
    record {
      before = r;
      kernel = a.state;
      bytes = u.bytes;
      after = record { state = u.reply.kernel.state; answer = u.reply.answer };
    }
    ∷ uses_from u.reply.answer.running u.reply.kernel us

-- From kernel a on.
abbrev pub stages_of : Kernel → List Use → List Stage
stages_of a us = uses_from (runner a.state) a us

-- They are the machine's for the same records.
abbrev pub CodeStages : Type 0
CodeStages = (a : Kernel) (us : List Use) → Handed a us → stages_of a us ≡ stages day_length a.state (records us)

-- So the machine's bound is the code's,
abbrev pub CodeWaits : Type 0
CodeWaits =
    (a : Kernel) → Passes day_length a.state → (us : List Use) → Handed a us → AllOctets (records us)
    → (j s : ℕ) → WaitsFor a.state j s
    → let gs = stages_of a us in Undisturbed s j (while (waits j) gs)
    → ahead a.state s j < how_many (releases s) gs → GrantedBy (suc (ahead a.state s j)) s j gs

-- What `bound_of` promises of the bound that it hands back for task j of kernel a.
abbrev pub HandedBound : Kernel → ℕ → Bound → Type 0
HandedBound a j r = bound.Learnt tt (a.state, (j, tt)) r (a.state, (j, tt))

-- and what `bound_of` hands back is a bound.
abbrev pub CodeBoundHolds : Type 0
CodeBoundHolds =
    (a : Kernel) → Passes day_length a.state → (us : List Use) → Handed a us → AllOctets (records us)
    → (j : ℕ) (b : Releases) → HandedBound a j (Some b)
    → let gs = stages_of a us in Undisturbed b.semaphore j (while (waits j) gs)
    → b.number ≤ how_many (releases b.semaphore) gs → GrantedBy b.number b.semaphore j gs
