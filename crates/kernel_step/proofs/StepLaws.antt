-- The step, by what refuses the kernel, by what the record is admitted as, and on a quiet tick.
use Rattle.std.specs.Prelude.{Err, None, Ok}
use mathlib.Core.Path.{◌≡◌, refl, sym, ap, ◌∙◌}
use mathlib.Core.Bool.{true}
use mathlib.Core.List.{List}
use Prim.Native.Nat.{ℕ, zero, suc, ◌<◌}
use lib.Dec.{ltb}
use lib.ListN.{length}
use borrow.Author.Tests.{ltb-true}
use Rattle.calendar.specs.Limits.{tick, last_instant}
use Rattle.calendar.specs.Times.{duration, plus}
use Rattle.calendar.specs.Moments.{earlier_than}
use Rattle.calendar.specs.declared.Instant.{Instant}
use Rattle.layout.specs.declared.Head.{Head}
use Rattle.record.specs.Reading.{call_with}
use Rattle.record.specs.declared.Reading.{Reading}
use Rattle.facts.proofs.Bools.{both}
use Rattle.machine.specs.NextEvent.{next_event}
use Rattle.machine.specs.Refusals.{admitted}
use Rattle.machine.specs.Running.{runner, Running}
use Rattle.machine.specs.Scripts.{one_tick}
use Rattle.machine.specs.State.{most_tasks, begun_at}
use Rattle.machine.specs.Step.{answered, settle, step}
use Rattle.machine.specs.Test.{kernel_refusal}
use Rattle.machine.specs.declared.State.{State}
use Rattle.machine.proofs.Filing.{taken_runner, taken_next}
use Rattle.machine.proofs.NextEvent.{next_is_next}
use Rattle.machine.proofs.Quiet.{quiet_step}
use Rattle.kernel_values.specs.Ticks.{is_quiet}

module _ (day : ℕ) (k : State) (s : List ℕ) where
  -- A kernel is turned away with n.
  pub step_away : {n : ℕ} → n ≡ kernel_refusal day k → (n ≡ 0 → ⊥) → answered k n None ≡ step day k s
  unfolding step
  step_away {n = zero} e z = absurd (z refl)
  step_away {n = suc n} e z = rw (← e)

  module _ (v : kernel_refusal day k ≡ 0) {r : Reading} (o : r ≡ admitted day k.counts k.begun s) where
    pub step_refused : {n : ℕ} {x : Running} → r.answer ≡ Err n → x ≡ runner k → answered k n x ≡ step day k s
    unfolding step
    step_refused a q = rw (v, ← o, a, q)

    pub step_admitted : {h : Head} → r.answer ≡ Ok h → settle day k (call_with h r.list) ≡ step day k s
    unfolding step
    step_admitted a = rw (v, ← o, a)

-- A quiet tick: n is what was said of the next instant.
pub quiet_tick_law : (day : ℕ) (k : State) → length k.tasks ≡ most_tasks → kernel_refusal day k ≡ 0 → is_quiet k.now k.file.next ≡ true
    → {n : Instant} → n ≡ plus k.now (duration 1)
    → answered (begun_at n k) 0 k.file.running ≡ step day k one_tick
unfolding answered is_quiet
quiet_tick_law day k room v q m =
    let p = both (ltb k.now.0 last_instant) (earlier_than (plus k.now (duration tick)) k.file.next) q in
    let e : earlier_than (plus k.now (duration tick)) (next_event k) ≡ true = rw (← taken_next day k v) p.1 in
    rw m
    (ap (λ (r : Running). answered (begun_at (plus k.now (duration 1)) k) 0 r) (taken_runner day k v)
    ∙ sym (quiet_step day k room v ((next_is_next k).quiet 1 e) (ltb-true k.now.0 last_instant p.0)))
