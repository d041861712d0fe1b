-- Every step keeps what the kernel test asks.
use Rattle.std.specs.Prelude.{Err, Ok}
use mathlib.Core.Path.{◌≡◌, refl, sym}
use mathlib.Core.List.{List}
use Prim.Native.Nat.{ℕ, zero, suc, ◌≤◌}
use native.Mathlib.Omega.{arith}
use Rattle.calendar.specs.Limits.{day_length}
use Rattle.facts.proofs.Bools.{by_bool, contra}
use Rattle.record.specs.Reading.{call_with, opened, Read}
use Rattle.layout.specs.Fields.{Octets}
use Rattle.layout.specs.declared.Call.{Call}
use Rattle.machine.specs.declared.State.{State}
use Rattle.machine.specs.Test.{filed, kernel_refusal}
use Rattle.machine.specs.NextEvent.{file_of}
use Rattle.machine.specs.Calls.{declaration, work_of}
use Rattle.machine.specs.Step.{answered, declared, or_refuse, carry_out, carry_on, carry, step}
use Rattle.machine.specs.Invariants.{IsDay, StepTested, StepPasses, CarryPasses}
use Rattle.machine.proofs.Filing.{filed_from, filed_to, taken, taken_valid}
use Rattle.machine.proofs.Facts.{StateOk, passes_of_ok, ok_of_passes, refiled}
use Rattle.machine.proofs.Passed.{refusal_of, Passed, passed, as_mark}
use Rattle.machine.proofs.Opened.{opened_priority}
use Rattle.machine.proofs.Cases.{out_cases, declaration_cases, carried_by, step_opened, step_on}
use Rattle.machine.proofs.Refused.{misfiled_refused}
use Rattle.machine.proofs.Filed.{declaration_file}
use Rattle.machine.proofs.Done.{call_done}
use Rattle.machine.proofs.Keeping.{did_ok, finish_ok}
use Rattle.machine.proofs.Declaring.{task_added, semaphore_added, bolt_added, interrupt_added, clock_set}

-- The day of the code is one.
pub is_day_law : IsDay day_length
is_day_law = record { some = omega arith; room = omega arith }

-- A kernel that isn't turned away carries a call on.
pub carry_on_law : (day : ℕ) (k : State) (c : Call) → kernel_refusal day k ≡ 0 → carry day k c ≡ carry_on day k c
unfolding carry
carry_on_law day k c e = rw e

module _ (day : ℕ) (is_day : IsDay day) (k : State) (h : StateOk day k) where
  module _ (c : Call) (byte : c.head.priority ≤ 255) where
    declared_ok : Passed day c.head.mark k c → StateOk day (declaration c.head.mark c k)
    declared_ok p =
        declaration_cases c.head.mark c k (StateOk day)
        (λ e. task_added day k h c byte (as_mark e p)) (λ e. semaphore_added day k h c (as_mark e p)) (λ e. bolt_added day k h c (as_mark e p))
        (λ e. interrupt_added day k h c (as_mark e p)) (λ e. clock_set day k h c (as_mark e p)) h

    carried_ok : Passed day c.head.mark k c → StateOk day (carry_out day k c).state
    carried_ok p =
        out_cases day k c (λ s. StateOk day s.state) (λ e. unfold declared in refiled day _ (declared_ok p) (file_of k) (sym (declaration_file k c.head.mark c)))
        (λ e. finish_ok day k h (work_of day k c) (did_ok day k h (call_done day is_day k h c byte e p)))

    pub carry_ok : StateOk day (carry_on day k c).state
    carry_ok = rw (carried_by day k c) (go (refusal_of day k c) refl)
      where
        go : (n : ℕ) → refusal_of day k c ≡ n → StateOk day (or_refuse k n (carry_out day k c)).state
        go zero e = carried_ok (passed day k c e)
        go (suc n) e = unfold answered in h

  pub step_ok : (s : List ℕ) → Octets s → StateOk day (step day k s).state
  step_ok s o = rw (step_on day k s (passes_of_ok day k h).tested) (go (opened s).answer refl)
    where
      go : (r : Read) → (opened s).answer ≡ r → StateOk day (step_opened day k r (opened s).list).state
      go (Err n) e = unfold answered in h
      go (Ok d) e = let b = opened_priority s d o e in carry_ok (call_with d (opened s).list) (omega arith)

pub step_passes : StepPasses
step_passes day is_day k p s o = passes_of_ok day _ (step_ok day is_day k (ok_of_passes day k p) s o)

-- A kernel with a wrong file stays as it is.
pub step_tested : StepTested
step_tested day is_day k t v s o =
    by_bool (filed k)
    (λ f. let p = step_passes day is_day k (record { tables = t; tested = taken day k v (filed_to k f) }) s o in (p.tables, taken_valid day _ p.tested))
    (λ f. rw (misfiled_refused day k s v (λ e. contra (filed_from k e) f)) (t, v))

pub carry_passes : CarryPasses
carry_passes day is_day k p c b =
    rw (carry_on_law day k c p.tested) (passes_of_ok day _ (carry_ok day is_day k (ok_of_passes day k p) c (omega arith)))
