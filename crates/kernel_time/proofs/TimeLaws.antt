-- TI and SL by the refusals of the time alone.
use mathlib.Core.Path.{◌≡◌, refl, sym, ap, ◌∙◌}
use Prim.Native.Nat.{ℕ, zero, suc, ◌≤◌}
use Rattle.calendar.specs.Limits.{last_instant}
use Rattle.calendar.specs.Moments.{instant_or, Moment}
use Rattle.calendar.specs.Times.{duration, plus}
use Rattle.calendar.specs.declared.Instant.{Instant}
use mathlib.Core.Bool.{cond}
use Rattle.layout.specs.Marks.{is}
use Rattle.layout.specs.declared.Call.{Call}
use Rattle.layout.specs.declared.Mark.{Mark}
use Rattle.layout.specs.declared.Mark.TheVariants.{SL}
use Rattle.machine.specs.Running.{Running, runner}
use Rattle.machine.specs.declared.State.{State}
use Rattle.machine.specs.declared.Stepped.{Stepped}
use Rattle.machine.specs.declared.Sort.TheVariants.{EveryTask}
use Rattle.machine.specs.NextEvent.{next_event}
use Rattle.machine.specs.Sorts.{sort_of}
use Rattle.machine.specs.Refusals.{state_refusal}
use Rattle.machine.specs.Calls.{arrival}
use Rattle.machine.specs.Step.{answered, or_refuse}
use Rattle.machine.proofs.Done.{in_time}
use Rattle.machine.proofs.Passed.{unless_passed}
use Rattle.kernel_refusals.specs.Inner.{time_refusal}
use Rattle.kernel_refusals.proofs.RefusalLaws.{refusal_by_law}

module _ (k : State) (m : Mark) (q : sort_of m ≡ EveryTask) (e : k.file.next ≡ next_event k) where
  -- Where they arrive, read off the file.
  pub arrives : {n : Instant} → n ≡ cond (is m SL) (instant_or k.now k.file.next) (plus k.now (duration 1)) → n ≡ arrival m k
  unfolding arrival
  arrives p = p ∙ ap (λ (x : Moment). cond (is m SL) (instant_or k.now x) (plus k.now (duration 1))) e

  module _ {n : ℕ} (p : n ≡ time_refusal m k.now k.file.next) where
    by_time : (c : Call) → n ≡ state_refusal m k c
    by_time c =
        p ∙ ap (λ (x : Moment). time_refusal m k.now x) e ∙ refusal_by_law c (runner k) _ k.locks k.now (next_event k) m EveryTask q

    pub refused : (n ≡ 0 → ⊥) → (r : Running) → r ≡ runner k → (c : Call) (s : Stepped) → answered k n r ≡ or_refuse k (state_refusal m k c) s
    refused h r f c s = rw (← by_time c) (go n h)
      where
        go : (x : ℕ) → (x ≡ 0 → ⊥) → answered k x r ≡ or_refuse k x s
        go zero h = absurd (h refl)
        go (suc x) h = ap (answered k (suc x)) f

    module _ (z : n ≡ 0) where
      pub accepted : (c : Call) (s : Stepped) → s ≡ or_refuse k (state_refusal m k c) s
      accepted c s = rw (← by_time c, z)

      pub arrives_in_time : (arrival m k).0 ≤ last_instant
      unfolding time_refusal
      arrives_in_time =
          let a = unless_passed _ 14 _ (sym (p ∙ ap (λ (x : Moment). time_refusal m k.now x) e) ∙ z) in
          in_time k m q a.0 (unless_passed _ 16 0 a.1).0
