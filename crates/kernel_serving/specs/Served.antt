-- Names for contracts: what serving sees of a kernel, and what it leaves.
use Rattle.std.specs.Prelude.{ℕ}
use Rattle.machine.specs.State.{with_state}
use Rattle.machine.specs.Serving.{Served, serve}
use Rattle.machine.specs.declared.State.{State}

-- What serving sees of a kernel, and the kernel that it leaves.
abbrev pub served : State → ℕ → Served
served k g = record { tasks = k.tasks; locks = k.locks; granted = g }

abbrev pub with_served : Served → State → State
with_served p k = with_state p.tasks p.locks k.enabled k

unfoldable pub served_of : State → ℕ → Served
served_of k g = serve k.counts.tasks k.places k.counts.tasks (served k g)
