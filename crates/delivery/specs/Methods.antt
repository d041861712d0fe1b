-- What each method of the kernel promises, by its contract: the call that it stands for, and the reply.
use Rattle.std.specs.Prelude.{List, ℕ}
use Rattle.layout.specs.declared.Call.{Call}
use Rattle.pearl.specs.Calls.{task_declaration, semaphore_declaration, bolt_declaration, interrupt_declaration, clock_declaration, activate_call, terminate_call, suspend_call, prevent_call, continue_call, end_call, resume_call, request_call, release_call, try_call, reserve_call, free_call, enter_call, leave_call, trigger_call, enable_call, disable_call, tick_call, sleep_call}
use Rattle.pearl.specs.declared.StartCondition.{StartCondition}
use Rattle.kernel.specs.declared.Kernel.{Kernel}
use Rattle.kernel.specs.declared.Reply.{Reply}
use Rattle.kernel.proofs.Kernel.declare_task.Reads as DT
use Rattle.kernel.proofs.Kernel.declare_semaphore.Reads as DS
use Rattle.kernel.proofs.Kernel.declare_bolt.Reads as DB
use Rattle.kernel.proofs.Kernel.declare_interrupt.Reads as IT
use Rattle.kernel.proofs.Kernel.declare_clock.Reads as DC
use Rattle.kernel.proofs.Kernel.activate.Reads as AC
use Rattle.kernel.proofs.Kernel.terminate.Reads as TE
use Rattle.kernel.proofs.Kernel.suspend.Reads as SU
use Rattle.kernel.proofs.Kernel.prevent.Reads as PR
use Rattle.kernel.proofs.Kernel.continue_task.Reads as CO
use Rattle.kernel.proofs.Kernel.end.Reads as EN
use Rattle.kernel.proofs.Kernel.resume.Reads as RE
use Rattle.kernel.proofs.Kernel.request.Reads as RQ
use Rattle.kernel.proofs.Kernel.release.Reads as RL
use Rattle.kernel.proofs.Kernel.try_request.Reads as TR
use Rattle.kernel.proofs.Kernel.reserve.Reads as RS
use Rattle.kernel.proofs.Kernel.free.Reads as FR
use Rattle.kernel.proofs.Kernel.enter.Reads as ET
use Rattle.kernel.proofs.Kernel.leave.Reads as LV
use Rattle.kernel.proofs.Kernel.trigger.Reads as TG
use Rattle.kernel.proofs.Kernel.enable.Reads as EI
use Rattle.kernel.proofs.Kernel.disable.Reads as XI
use Rattle.kernel.proofs.Kernel.tick.Reads as TI
use Rattle.kernel.proofs.Kernel.sleep.Reads as SL

-- A method of kernel a that stands for a call c has handed back the reply r. A contract is had with the arguments at
-- entry, the reply, and the arguments at exit.
pub data Method (a : Kernel) : Call → Reply → Type 0 where
  declare_task_law : (p : ℕ) (r : Reply) → DT.Learnt tt (a, (p, tt)) r (a, (p, tt)) → Method a (task_declaration p) r
  declare_semaphore_law : (v : ℕ) (r : Reply) → DS.Learnt tt (a, (v, tt)) r (a, (v, tt)) → Method a (semaphore_declaration v) r
  declare_bolt_law : (r : Reply) → DB.Learnt tt (a, tt) r (a, tt) → Method a bolt_declaration r
  declare_interrupt_law : (r : Reply) → IT.Learnt tt (a, tt) r (a, tt) → Method a interrupt_declaration r
  declare_clock_law : (t : ℕ) (r : Reply) → DC.Learnt tt (a, (t, tt)) r (a, (t, tt)) → Method a (clock_declaration t) r
  activate : (i p : ℕ) (s : StartCondition) (r : Reply) → AC.Learnt tt (a, (i, (p, (s, tt)))) r (a, (i, (p, (s, tt)))) → Method a (activate_call i p s) r
  terminate : (i : ℕ) (r : Reply) → TE.Learnt tt (a, (i, tt)) r (a, (i, tt)) → Method a (terminate_call i) r
  suspend : (i : ℕ) (r : Reply) → SU.Learnt tt (a, (i, tt)) r (a, (i, tt)) → Method a (suspend_call i) r
  prevent : (i : ℕ) (r : Reply) → PR.Learnt tt (a, (i, tt)) r (a, (i, tt)) → Method a (prevent_call i) r
  continue_task : (i p : ℕ) (s : StartCondition) (r : Reply) → CO.Learnt tt (a, (i, (p, (s, tt)))) r (a, (i, (p, (s, tt)))) → Method a (continue_call i p s) r
  end : (r : Reply) → EN.Learnt tt (a, tt) r (a, tt) → Method a end_call r
  resume : (s : StartCondition) (r : Reply) → RE.Learnt tt (a, (s, tt)) r (a, (s, tt)) → Method a (resume_call s) r
  request : (n : ℕ) (l : List ℕ) (r : Reply) → RQ.Learnt tt (a, (n, (l, tt))) r (a, (n, (l, tt))) → Method a (request_call n l) r
  release : (n : ℕ) (l : List ℕ) (r : Reply) → RL.Learnt tt (a, (n, (l, tt))) r (a, (n, (l, tt))) → Method a (release_call n l) r
  try_request : (x : ℕ) (r : Reply) → TR.Learnt tt (a, (x, tt)) r (a, (x, tt)) → Method a (try_call x) r
  reserve : (n : ℕ) (l : List ℕ) (r : Reply) → RS.Learnt tt (a, (n, (l, tt))) r (a, (n, (l, tt))) → Method a (reserve_call n l) r
  free : (n : ℕ) (l : List ℕ) (r : Reply) → FR.Learnt tt (a, (n, (l, tt))) r (a, (n, (l, tt))) → Method a (free_call n l) r
  enter : (n : ℕ) (l : List ℕ) (r : Reply) → ET.Learnt tt (a, (n, (l, tt))) r (a, (n, (l, tt))) → Method a (enter_call n l) r
  leave : (n : ℕ) (l : List ℕ) (r : Reply) → LV.Learnt tt (a, (n, (l, tt))) r (a, (n, (l, tt))) → Method a (leave_call n l) r
  trigger : (i : ℕ) (r : Reply) → TG.Learnt tt (a, (i, tt)) r (a, (i, tt)) → Method a (trigger_call i) r
  enable : (i : ℕ) (r : Reply) → EI.Learnt tt (a, (i, tt)) r (a, (i, tt)) → Method a (enable_call i) r
  disable : (i : ℕ) (r : Reply) → XI.Learnt tt (a, (i, tt)) r (a, (i, tt)) → Method a (disable_call i) r
  tick : (r : Reply) → TI.Learnt tt (a, tt) r (a, tt) → Method a tick_call r
  sleep : (r : Reply) → SL.Learnt tt (a, tt) r (a, tt) → Method a sleep_call r
