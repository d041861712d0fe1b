-- The machine: any kernel value and any bytes to the next kernel and the answer.
use Rattle.std.specs.Prelude.{Err, None, Ok, cond, List, ℕ, zero, suc}
use Rattle.layout.specs.declared.Call.{Call}
use Rattle.record.specs.Reading.{call_with, Read}
use Rattle.machine.specs.declared.State.{State}
use Rattle.machine.specs.Running.{Running, runner}
use Rattle.machine.specs.declared.Answer.{Answer}
use Rattle.machine.specs.declared.Stepped.{Stepped}
use Rattle.machine.specs.Sets.{no_sets, with_granted}
use Rattle.machine.specs.State.{with_state, with_places, with_file, begun_at}
use Rattle.machine.specs.NextEvent.{file_of}
use Rattle.machine.specs.Work.{Work}
use Rattle.machine.specs.Serving.{serve}
use Rattle.machine.specs.Places.{event, moved}
use Rattle.machine.specs.Test.{kernel_refusal}
use Rattle.machine.specs.Sorts.{declares}
use Rattle.machine.specs.Refusals.{formal_refusal, admitted, state_refusal}
use Rattle.machine.specs.Calls.{declaration, work_of}

-- All sets are empty.
abbrev pub plain_answer : ℕ → Running → Answer
plain_answer n r = record { number = n; running = r; sets = no_sets }

-- A refusal leaves the kernel as it was.
unfoldable pub answered : State → ℕ → Running → Stepped
answered k n r = record { state = k; answer = plain_answer n r }

-- Every accepted call ends so: the waiting tasks are served, those with an event go to the end of the order, and the
-- running task and the next event are found and put on file.
unfoldable pub finish : State → Work → Stepped
finish k w =
    let n = k.counts.tasks in
    let p = serve n k.places n (record { tasks = w.tasks; locks = w.locks; granted = w.sets.granted }) in
    let ps = moved n (event k.tasks p.tasks w.sets.started) k.places in
    let z = begun_at w.now (with_places ps (with_state p.tasks p.locks w.enabled k)) in
    record {
      state = with_file (file_of z) z;
      answer = record { number = 0; running = runner z; sets = with_granted p.granted w.sets };
    }

-- An accepted declaration leaves the kernel d. The task that ran runs on, and what was to come next is.
unfoldable pub declared : State → State → Stepped
declared k d = record { state = with_file (file_of k) d; answer = plain_answer 0 (runner k) }

abbrev pub or_refuse : State → ℕ → Stepped → Stepped
or_refuse k zero s = s
or_refuse k (suc n) s = answered k (suc n) (runner k)

-- Refusals 1 and 16: no task runs.
abbrev pub or_turn_away : State → ℕ → Stepped → Stepped
or_turn_away k zero s = s
or_turn_away k (suc n) s = answered k (suc n) None

module _ (day : ℕ) where
  -- An accepted declaration or call.
  unfoldable pub carry_out : State → Call → Stepped
  carry_out k c =
      cond (declares c.head.mark) (declared k (declaration c.head.mark c k)) (finish k (work_of day k c))

  -- What no formal ground refuses: refused by the state, or carried out.
  unfoldable pub settle : State → Call → Stepped
  settle k c = let s = carry_out k c in or_refuse k (state_refusal c.head.mark k c) s

  -- A call or declaration that was read, on a kernel that isn't turned away.
  unfoldable pub carry_on : State → Call → Stepped
  carry_on k c = let s = settle k c in or_refuse k (formal_refusal day k.counts k.begun c) s

  -- 1 and 16 come first.
  abbrev pub tested : State → Stepped → Stepped
  tested k s = or_turn_away k (kernel_refusal day k) s

  -- The machine over calls and declarations that were read.
  unfoldable pub carry : State → Call → Stepped
  carry k c = let s = carry_on k c in tested k s

  abbrev pub step_read : State → Read → List ℕ → Stepped
  step_read k (Err n) l = answered k n (runner k)
  step_read k (Ok h) l = settle k (call_with h l)

  -- The machine over bytes.
  unfoldable pub step : State → List ℕ → Stepped
  step k s =
      let r = admitted day k.counts k.begun s in
      let t = step_read k r.answer r.list in
      tested k t
