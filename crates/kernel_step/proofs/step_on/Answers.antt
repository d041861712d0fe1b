-- A tick goes its own way; then the formal refusals; then what the sort of the mark says.
use borrow.Author.Rules.{rules}
use borrow.Author.Tests.{ltb-true}
use mathlib.Core.Path.{refl, sym, ap, ◌∙◌}
use Prim.Native.Nat.{ℕ}
use Rattle.calendar.specs.Limits.{day_length}
use Rattle.layout.specs.Fields.{call_of}
use Rattle.layout.specs.declared.Mark.TheVariants.{TI}
use Rattle.record.specs.Reading.{number_of, call_with}
use Rattle.machine.specs.Scripts.{one_tick}
use Rattle.machine.specs.Sorts.{declaring, declares}
use Rattle.machine.specs.Refusals.{declared_by}
use Rattle.machine.specs.Calls.{arrival}
use Rattle.machine.specs.Step.{answered, step}
use Rattle.machine.proofs.Filing.{taken_valid, taken_filed, taken_runner, taken_next}
use Rattle.machine.proofs.Quiet.{tick_step}
use Rattle.kernel_values.proofs.Owned.{tasks_long}
use Rattle.kernel_values.proofs.SortLaws.{about_runner}
use Rattle.kernel_values.proofs.TickLaws.{tick_bytes}
use Rattle.kernel_admitting.proofs.Admitting.{admitted_formal}
use Rattle.kernel_changes.proofs.CallLaws.{past, settled_declared, settled_interrupt, settled_time}
use Rattle.kernel_step.proofs.StepLaws.{step_refused, step_admitted}
use Rattle.kernel_step.proofs.step_on.Goals as goal

pub arrived-requires : goal.arrived-requires
arrived-requires c =
    let k = c.args.k in
    let p = c.requires.k_value in
    record { mark_value = refl; k_value = taken_valid day_length k p; r_value = taken_runner day_length k p; next_value = taken_next day_length k p }

pub returns-then-tick : goal.returns-then-tick
unfolding arrival
returns-then-tick c =
    let a = c.args in
    c.arrived.ensures (call_of TI one_tick)
    ∙ sym (tick_step day_length a.k (tasks_long a.k (c.well_formed.0.0, c.well_formed.0.1.1)) c.requires.k_value (call_of TI one_tick))
    ∙ ap (step day_length a.k) (sym (tick_bytes a.s.now (sym c.requires.tick_value ∙ c.if-tick.true)))

pub returns-in_default : goal.returns-in_default
returns-in_default c =
    let k = c.args.k in
    let e = c.in_default.is in
    c.answered.ensures ∙ ap (λ (m : ℕ). answered k m k.file.running) (c.number_of.ensures ∙ ap number_of e)
    ∙ step_refused day_length _ _ c.requires.k_value c.admit-a.ensures.reading e (taken_runner day_length k c.requires.k_value)

-- ---- sort by sort

pub declared-requires : goal.declared-requires
declared-requires c =
    let formed = admitted_formal day_length _ _ _ c.admit-a.ensures.reading c.in-Ok.is in
    record { file_value = taken_filed day_length _ c.requires.k_value; by_index = (c.admit-a.result.list, formed) }

pub arrived-requires-in-EveryTask : goal.arrived-requires-in-EveryTask
arrived-requires-in-EveryTask c =
    let k = c.args.k in
    let p = c.requires.k_value in
    let sorted = c.admit-a.ensures.sort c.in-Ok.head c.in-Ok.is in
    record { mark_value = sym sorted ∙ c.in-EveryTask.is; k_value = taken_valid day_length k p; r_value = taken_runner day_length k p; next_value = taken_next day_length k p }

pub interrupted-requires : goal.interrupted-requires
unfolding declared_by
interrupted-requires c =
    let k = c.args.k in
    let p = c.requires.k_value in
    let sorted = c.admit-a.ensures.sort c.in-Ok.head c.in-Ok.is in
    let formed = admitted_formal day_length _ _ _ c.admit-a.ensures.reading c.in-Ok.is in
    record {
      next_value = taken_next day_length k p;
      k_value = taken_valid day_length k p;
      number_lt_interrupts = ltb-true _ _ (rw (sym sorted ∙ c.in-AnInterrupt.is) at (past day_length k c.in-Ok.head c.admit-a.result.list formed).known);
    }

pub done_to-requires : goal.done_to-requires
done_to-requires c =
    let k = c.args.k in
    let p = c.requires.k_value in
    record {
      k_value = p;
      r_value = taken_runner day_length k p;
      list_value = admitted_formal day_length _ _ _ c.admit-a.ensures.reading c.in-Ok.is;
      sort_value = c.admit-a.ensures.sort c.in-Ok.head c.in-Ok.is;
      sort_value_2 = rw c.in-OneTask.is;
      i_value = rw c.in-OneTask.is;
    }

pub done_to-requires-in_default-sort : goal.done_to-requires-in_default-sort
done_to-requires-in_default-sort c =
    let k = c.args.k in
    let p = c.requires.k_value in
    let r = about_runner c.admit-a.result.sort c.in_default-sort.in_default-sort-own.keys5 in
    record {
      k_value = p;
      r_value = taken_runner day_length k p;
      list_value = admitted_formal day_length _ _ _ c.admit-a.ensures.reading c.in-Ok.is;
      sort_value = c.admit-a.ensures.sort c.in-Ok.head c.in-Ok.is;
      sort_value_2 = r.0;
      i_value = rw (r.1, c.runner_at.ensures);
    }

pub returns-in-Declaration : goal.returns-in-Declaration
unfolding declares
returns-in-Declaration c =
    let k = c.args.k in
    let l = c.admit-a.result.list in
    let sorted = c.admit-a.ensures.sort c.in-Ok.head c.in-Ok.is in
    c.declared.ensures l
    ∙ settled_declared day_length k c.in-Ok.head l (ap declaring (sym sorted ∙ c.in-Declaration.is))
    ∙ step_admitted day_length _ _ c.requires.k_value c.admit-a.ensures.reading c.in-Ok.is

pub returns-in-EveryTask : goal.returns-in-EveryTask
returns-in-EveryTask c =
    let k = c.args.k in
    let l = c.admit-a.result.list in
    let sorted = c.admit-a.ensures.sort c.in-Ok.head c.in-Ok.is in
    c.arrived-in-EveryTask.ensures (call_with c.in-Ok.head l)
    ∙ settled_time day_length k c.in-Ok.head l (sym sorted ∙ c.in-EveryTask.is)
    ∙ step_admitted day_length _ _ c.requires.k_value c.admit-a.ensures.reading c.in-Ok.is

pub returns-in-AnInterrupt : goal.returns-in-AnInterrupt
returns-in-AnInterrupt c =
    let k = c.args.k in
    let l = c.admit-a.result.list in
    let sorted = c.admit-a.ensures.sort c.in-Ok.head c.in-Ok.is in
    c.interrupted.ensures
    ∙ settled_interrupt day_length k c.in-Ok.head l (sym sorted ∙ c.in-AnInterrupt.is)
    ∙ step_admitted day_length _ _ c.requires.k_value c.admit-a.ensures.reading c.in-Ok.is

pub returns-in-OneTask : goal.returns-in-OneTask
returns-in-OneTask c = c.done_to.ensures ∙ step_admitted day_length _ _ c.requires.k_value c.admit-a.ensures.reading c.in-Ok.is

pub returns-in_default-sort : goal.returns-in_default-sort
returns-in_default-sort c = c.done_to-in_default-sort.ensures ∙ step_admitted day_length _ _ c.requires.k_value c.admit-a.ensures.reading c.in-Ok.is
