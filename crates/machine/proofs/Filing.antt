-- What refusals 1 and 16 say of a kernel.
use Rattle.std.specs.Prelude.{None, Some}
use mathlib.Core.Path.{◌≡◌, refl, ap}
use mathlib.Core.Logic.{◌≢◌}
use mathlib.Core.Bool.{Bool, true, false}
use Prim.Native.Nat.{ℕ}
use native.Mathlib.Omega.{arith}
use borrow.Author.Tests.{eqb-true, eq-eqb}
use Rattle.calendar.proofs.Moments.{same_moment_law, moment_same}
use Rattle.facts.proofs.Bools.{by_bool, contra, both, and_both}
use Rattle.record.specs.Refusals.{unless}
use Rattle.machine.specs.declared.OnFile.{OnFile}
use Rattle.machine.specs.declared.State.{State}
use Rattle.machine.specs.Running.{Running, same_running, runner}
use Rattle.machine.specs.NextEvent.{next_event, file_of}
use Rattle.machine.specs.Test.{valid, filed, kernel_refusal}

-- ---- the same task, or none both times

pub same_true : (a b : Running) → same_running a b ≡ true → a ≡ b
same_true None None e = refl
same_true None (Some j) e = contra e refl
same_true (Some i) None e = contra e refl
same_true (Some i) (Some j) e = ap Some (eqb-true i j e)

pub same_self : (a : Running) → same_running a a ≡ true
same_self None = refl
same_self (Some i) = eq-eqb i i refl

-- ---- on file

pub filed_from : (k : State) → k.file ≡ file_of k → filed k ≡ true
unfolding filed
filed_from k e = rw e (and_both (same_self (runner k)) (same_moment_law (next_event k)))

pub filed_to : (k : State) → filed k ≡ true → k.file ≡ file_of k
unfolding filed
filed_to k e =
    let p = both (same_running k.file.running (runner k)) _ e in
    let r = same_true k.file.running (runner k) p.0 in
    let n = moment_same k.file.next (next_event k) p.1 in
    λ i. record { running = r i; next = n i }

pub filed_not : (k : State) → k.file ≢ file_of k → filed k ≡ false
filed_not k m = by_bool (filed k) (λ e. absurd (m (filed_to k e))) (λ e. e)

-- ---- neither 1 nor 16

no_first : (v f : Bool) → unless v 1 (unless f 16 0) ≡ 0 → v ≡ true
no_first true f e = refl
no_first false f e = absurd (omega arith)

no_second : (v f : Bool) → unless v 1 (unless f 16 0) ≡ 0 → f ≡ true
no_second true true e = refl
no_second true false e = absurd (omega arith)
no_second false f e = absurd (omega arith)

module _ (day : ℕ) (k : State) where
  pub taken_valid : kernel_refusal day k ≡ 0 → valid day k ≡ true
  unfolding kernel_refusal
  taken_valid e = no_first (valid day k) (filed k) e

  pub taken_filed : kernel_refusal day k ≡ 0 → k.file ≡ file_of k
  unfolding kernel_refusal
  taken_filed e = filed_to k (no_second (valid day k) (filed k) e)

  pub taken_runner : kernel_refusal day k ≡ 0 → k.file.running ≡ runner k
  taken_runner e = ap (λ (f : OnFile). f.running) (taken_filed e)

  pub taken_next : kernel_refusal day k ≡ 0 → k.file.next ≡ next_event k
  taken_next e = ap (λ (f : OnFile). f.next) (taken_filed e)

  pub taken : valid day k ≡ true → k.file ≡ file_of k → kernel_refusal day k ≡ 0
  unfolding kernel_refusal
  taken v e = rw (v, filed_from k e)
