-- Names for contracts: how a call ends.
use Rattle.std.specs.Prelude.{List}
use Rattle.calendar.specs.Moments.{Moment}
use Rattle.task.specs.declared.Task.{Task}
use Rattle.machine.specs.State.{with_state, with_file}
use Rattle.machine.specs.Work.{Work}
use Rattle.machine.specs.declared.State.{State}
use Rattle.machine.specs.declared.Sets.{Sets}
use Rattle.machine.specs.declared.Stepped.{Stepped}

-- The kernel before the call, as far as its end looks at it: its tasks were ts.
abbrev pub as_before : List Task → State → State
as_before ts k = with_state ts k.locks k.enabled k

-- The work that a kernel has had done, with the sets that it marked.
abbrev pub work_here : State → Sets → Work
work_here k s =
    record {
      now = k.now;
      tasks = k.tasks;
      locks = k.locks;
      enabled = k.enabled;
      sets = s;
    }

-- A step with m as the next event on file.
abbrev pub next_filed : Moment → Stepped → Stepped
next_filed m s = record { state = with_file (record { running = s.state.file.running; next = m }) s.state; answer = s.answer }
