-- The sort of each mark: what a call is about.
use Rattle.std.specs.Prelude.{None, Some, Bool, true, false, cond, ℕ}
use Rattle.layout.specs.declared.Head.{Head}
use Rattle.layout.specs.declared.Mark.{Mark}
use Rattle.layout.specs.declared.Mark.TheVariants.{DT, DS, DB, IT, DC, AC, TE, SU, PR, CO, EN, RE, RQ, RL, TR, RS, FR, ET, LV, TG, EI, XI, TI, SL}
use Rattle.lock.specs.declared.Wait.{Wait}
use Rattle.lock.specs.declared.Wait.TheVariants.{Nothing, Request, Reserve, Enter}
use Rattle.machine.specs.Running.{Running}
use Rattle.machine.specs.declared.Sort.{Sort}
use Rattle.machine.specs.declared.Sort.TheVariants.{Declaration, OneTask, TheRunner, ListAsked, ListGiven, AnInterrupt, EveryTask}

abbrev pub sort_of : Mark → Sort
sort_of DT = Declaration
sort_of DS = Declaration
sort_of DB = Declaration
sort_of IT = Declaration
sort_of DC = Declaration
sort_of AC = OneTask
sort_of TE = OneTask
sort_of SU = OneTask
sort_of PR = OneTask
sort_of CO = OneTask
sort_of EN = TheRunner
sort_of RE = TheRunner
sort_of RQ = ListAsked Request true
sort_of RL = ListGiven Request
sort_of TR = ListAsked Request false
sort_of RS = ListAsked Reserve true
sort_of FR = ListGiven Reserve
sort_of ET = ListAsked Enter true
sort_of LV = ListGiven Enter
sort_of TG = AnInterrupt
sort_of EI = AnInterrupt
sort_of XI = AnInterrupt
sort_of TI = EveryTask
sort_of SL = EveryTask

abbrev pub declaring : Sort → Bool
declaring Declaration = true
declaring s = false

-- A mark of a declaration; any other is a call's.
unfoldable pub declares : Mark → Bool
declares m = declaring (sort_of m)

-- A task has to run: EN, RE and every call with a list.
abbrev pub needs_runner : Sort → Bool
needs_runner TheRunner = true
needs_runner (ListAsked w b) = true
needs_runner (ListGiven w) = true
needs_runner s = false

-- What a call asks for.
abbrev pub asked_kind : Sort → Wait
asked_kind (ListAsked w b) = w
asked_kind s = Nothing

-- A TRY doesn't wait for what it asks for.
abbrev pub staying : Sort → Bool
staying (ListAsked w b) = b
staying s = true

-- What a call gives back.
abbrev pub given_kind : Sort → Wait
given_kind (ListGiven w) = w
given_kind s = Nothing

-- ---- whom a call is about

-- The running task, or task 0 where nobody runs.
abbrev pub runner_at : Running → ℕ
runner_at None = 0
runner_at (Some i) = i

abbrev pub naming : Sort → Bool
naming OneTask = true
naming s = false

-- The task that a call names, else the running one.
abbrev pub task_of : Sort → Head → Running → ℕ
task_of s h r = cond (naming s) h.number (runner_at r)
