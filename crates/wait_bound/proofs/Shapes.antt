-- Every step of a kernel that passes the test is a refusal, a declaration, or a call's work that is served.
use mathlib.Core.Path.{◌≡◌, refl, ap, ◌∙◌}
use mathlib.Core.Logic.{◌≢◌}
use mathlib.Core.Bool.{true}
use mathlib.Core.List.{List}
use Prim.Native.Nat.{ℕ}
use native.Mathlib.Omega.{arith}
use Rattle.layout.specs.Fields.{Octets}
use Rattle.layout.specs.declared.Call.{Call}
use Rattle.record.specs.Reading.{accepted, opened}
use Rattle.facts.proofs.Bools.{by_bool, by_eq}
use Rattle.machine.specs.Sorts.{declares}
use Rattle.machine.specs.Calls.{declaration, work_of}
use Rattle.machine.specs.Step.{answered, finish, declared, carry_out, step}
use Rattle.machine.specs.Invariants.{IsDay, Passes}
use Rattle.machine.specs.Continuing.{Accepts}
use Rattle.machine.specs.declared.State.{State}
use Rattle.machine.proofs.Filing.{taken_valid}
use Rattle.machine.proofs.Opened.{opened_priority}
use Rattle.machine.proofs.Passed.{passed}
use Rattle.machine.proofs.Facts.{ok_of_passes}
use Rattle.machine.proofs.Cases.{opened_cases, step_on}
use Rattle.machine.proofs.Accepted.{no_refusal, step_out}
use Rattle.machine.proofs.Done.{Did, role, call_done}

pub data Shape (day : ℕ) (k : State) (s : List ℕ) : Type 0 where
  refuses : (step day k s).answer.number ≢ 0 → Shape day k s
  declares_one : (c : Call) → opened s ≡ accepted c → declares c.head.mark ≡ true
      → step day k s ≡ declared k (declaration c.head.mark c k) → Shape day k s
  carries_out : (c : Call) → opened s ≡ accepted c → Did day k c (role c.head.mark) (work_of day k c)
      → step day k s ≡ finish k (work_of day k c) → Shape day k s

module _ (day : ℕ) (is_day : IsDay day) (k : State) (p : Passes day k) (s : List ℕ) (o : Octets s) where
  accepted_shape : (c : Call) → Accepts day k s c → Shape day k s
  accepted_shape c a =
      let out = step_out day k s c a in
      let z = passed day k c (no_refusal day k s c a) in
      let byte = opened_priority s c.head o (ap (λ r. r.answer) a.opens) in
      by_bool (declares c.head.mark) (λ d. Shape.declares_one c a.opens d (out ∙ unfold carry_out in rw d))
      (λ d. Shape.carries_out c a.opens (call_done day is_day k (ok_of_passes day k p) c (omega arith) d z) (out ∙ unfold carry_out in rw d))

  pub shape : Shape day k s
  unfolding answered
  shape =
      by_eq (step day k s).answer.number 0
      (λ e. opened_cases s (λ r. opened s ≡ r → Shape day k s)
      (λ q. absurd (let z = rw (step_on day k s p.tested, q) at e in omega arith))
      (λ c q. accepted_shape c (record { tested = taken_valid day k p.tested; opens = q; number = e })) refl)
      (λ e. Shape.refuses e)
