-- What a panel shows: the running task that `Kernel::running` hands out, and the next event that `Kernel::next_event`
-- does. Proved in proofs/Shown.antt.
use Rattle.std.specs.Prelude.{◌≡◌, List, ℕ}
use Rattle.calendar.specs.Limits.{day_length}
use Rattle.calendar.specs.Moments.{Moment}
use Rattle.task.specs.State.{runnable}
use Rattle.machine.specs.State.{task_at}
use Rattle.machine.specs.Test.{kernel_refusal}
use Rattle.machine.specs.Log.{AllOctets}
use Rattle.machine.specs.Quiet.{IsNextEvent}
use Rattle.machine.specs.Promises.{Chosen}
use Rattle.machine.specs.Running.{Running}
use Rattle.machine.specs.declared.State.{State}
use Rattle.kernel.specs.declared.Kernel.{Kernel}
use Rattle.kernel.proofs.Kernel.running.Reads as running
use Rattle.kernel.proofs.Kernel.next_event.Reads as next
use Rattle.delivery.specs.Delivered.{HandedFresh, Use, Handed, records, last}

-- What `Kernel::running` promises of what it hands out for kernel a.
abbrev pub HandedOut : Kernel → Running → Type 0
HandedOut a r = running.Learnt tt (a, tt) r (a, tt)

-- r is the most urgent runnable task of k, or none where none is runnable.
abbrev pub RunsIn : State → Running → Type 0
RunsIn k r = Chosen k.counts.tasks (λ i. runnable (task_at k.tasks i)) k.places k.tasks r

-- So it is for every kernel that is refused with neither 1 nor 16,
abbrev pub ShowsRunner : Type 0
ShowsRunner = (a : Kernel) (r : Running) → kernel_refusal day_length a.state ≡ 0 → HandedOut a r → RunsIn a.state r

-- and for every kernel that uses leave, from what `Kernel::fresh` hands back on.
abbrev pub FreshShowsRunner : Type 0
FreshShowsRunner =
    (a : Kernel) → HandedFresh a → (us : List Use) → Handed a us → AllOctets (records us) → (r : Running)
    → HandedOut (last a us) r → RunsIn (last a us).state r

-- What `Kernel::next_event` promises of what it hands out for kernel a.
abbrev pub HandedNext : Kernel → Moment → Type 0
HandedNext a m = next.Learnt tt (a, tt) m (a, tt)

-- It is the next event of every kernel that is refused with neither 1 nor 16,
abbrev pub ShowsNext : Type 0
ShowsNext = (a : Kernel) (m : Moment) → kernel_refusal day_length a.state ≡ 0 → HandedNext a m → IsNextEvent a.state m

-- and of every kernel that uses leave, from what `Kernel::fresh` hands back on.
abbrev pub FreshShowsNext : Type 0
FreshShowsNext =
    (a : Kernel) → HandedFresh a → (us : List Use) → Handed a us → AllOctets (records us) → (m : Moment)
    → HandedNext (last a us) m → IsNextEvent (last a us).state m
