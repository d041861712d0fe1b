-- Each method's reply is the machine's to the call that it stands for.
use mathlib.Core.Path.{◌≡◌}
use Rattle.calendar.specs.Limits.{day_length}
use Rattle.layout.specs.declared.Call.{Call}
use Rattle.machine.specs.Step.{carry}
use Rattle.kernel.specs.Reply.{reply}
use Rattle.kernel.specs.declared.Kernel.{Kernel}
use Rattle.kernel.specs.declared.Reply.{Reply}
use Rattle.delivery.specs.Methods.{Method, declare_task_law, declare_semaphore_law, declare_bolt_law, declare_interrupt_law, declare_clock_law, activate, terminate, suspend, prevent, continue_task, end, resume, request, release, try_request, reserve, free, enter, leave, trigger, enable, disable, tick, sleep}

pub method_carries : (a : Kernel) {c : Call} {r : Reply} → Method a c r → r ≡ reply (carry day_length a.state c)
method_carries a (declare_task_law p r e) = e
method_carries a (declare_semaphore_law v r e) = e
method_carries a (declare_bolt_law r e) = e
method_carries a (declare_interrupt_law r e) = e
method_carries a (declare_clock_law t r e) = e
method_carries a (activate i p s r e) = e
method_carries a (terminate i r e) = e
method_carries a (suspend i r e) = e
method_carries a (prevent i r e) = e
method_carries a (continue_task i p s r e) = e
method_carries a (end r e) = e
method_carries a (resume s r e) = e
method_carries a (request n l r e) = e
method_carries a (release n l r e) = e
method_carries a (try_request x r e) = e
method_carries a (reserve n l r e) = e
method_carries a (free n l r e) = e
method_carries a (enter n l r e) = e
method_carries a (leave n l r e) = e
method_carries a (trigger i r e) = e
method_carries a (enable i r e) = e
method_carries a (disable i r e) = e
method_carries a (tick r e) = e
method_carries a (sleep r e) = e
