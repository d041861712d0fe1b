-- Once a call was accepted, no declaration is.
use Rattle.std.specs.Prelude.{Err, Ok}
use mathlib.Core.Path.{◌≡◌, refl}
use mathlib.Core.Bool.{Bool, true, false, not, ◌&&◌}
use mathlib.Core.List.{List, [], ◌∷◌}
use Prim.Native.Nat.{ℕ, zero, suc}
use native.Mathlib.Omega.{arith}
use lib.Dec.{eqb}
use borrow.Author.Tests.{ne_eqb}
use Rattle.record.specs.Reading.{call_with, opened, Read}
use Rattle.layout.specs.declared.Call.{Call}
use Rattle.facts.proofs.Bools.{by_bool, contra, and_both}
use Rattle.machine.specs.declared.State.{State}
use Rattle.machine.specs.declared.Stepped.{Stepped}
use Rattle.machine.specs.Running.{runner}
use Rattle.machine.specs.Sorts.{declares}
use Rattle.machine.specs.Step.{answered, finish, or_refuse, carry_out, carry_on, step}
use Rattle.machine.specs.Log.{AllOctets, is_declaration, log}
use Rattle.machine.specs.Invariants.{IsDay}
use Rattle.machine.proofs.Facts.{StateOk, passes_of_ok}
use Rattle.machine.proofs.Passed.{refusal_of, passed}
use Rattle.machine.proofs.Opened.{opened_refused}
use Rattle.machine.proofs.Cases.{done_number, carried_by, step_opened, step_on}
use Rattle.machine.proofs.Invariants.{step_ok}
use Rattle.balance.specs.Counting.{is_accepted}
use Rattle.balance.specs.Fresh.{accepted_declaration, without}

-- What a step says of the first accepted call; d: its record is a declaration.
pub record Begins (k : State) (d : Bool) (s : Stepped) : Type 0 where
  -- an accepted call begins
  pub begins : (is_accepted s.answer && not d) ≡ true → s.state.begun ≡ true
  -- what has begun goes on, and no declaration is accepted
  pub goes_on_law : k.begun ≡ true → s.state.begun ≡ true
  pub late : k.begun ≡ true → not (is_accepted s.answer && d) ≡ true

refused_begins : (k : State) (d : Bool) (n : ℕ) → Begins k d (answered k (suc n) (runner k))
unfolding answered
refused_begins k d n =
    let no : eqb (suc n) 0 ≡ false = ne_eqb (suc n) 0 (λ z. omega arith) in
    record { begins = λ e. contra e (rw no); goes_on_law = λ b. b; late = λ b. rw no }

module _ (day : ℕ) (k : State) (h : StateOk day k) where
  module _ (c : Call) where
    carried_begins : Begins k (declares c.head.mark) (carry_on day k c)
    carried_begins = rw (carried_by day k c) (go (refusal_of day k c) refl)
      where
        go : (n : ℕ) → refusal_of day k c ≡ n → Begins k (declares c.head.mark) (or_refuse k n (carry_out day k c))
        go zero e =
            by_bool (declares c.head.mark)
            (λ d.
            let early : k.begun ≡ true → not true ≡ true = λ b. rw (b, d) at (passed day k c e).formal.timely in
            record { begins = λ z. contra z (rw (done_number day k c, d)); goes_on_law = λ b. contra (early b) refl; late = λ b. contra (early b) refl })
            (λ d.
            let begun : (carry_out day k c).state.begun ≡ true = unfold carry_out finish in rw d in
            record { begins = λ z. begun; goes_on_law = λ b. begun; late = λ b. rw (done_number day k c, d) })
        go (suc n) e = refused_begins k _ n

  pub step_begins : (s : List ℕ) → Begins k (is_declaration (opened s).answer) (step day k s)
  step_begins s = rw (step_on day k s (passes_of_ok day k h).tested) (go (opened s).answer refl)
    where
      go : (r : Read) → (opened s).answer ≡ r → Begins k (is_declaration r) (step_opened day k r (opened s).list)
      go (Err n) e = rw (opened_refused s n e) (refused_begins k false 1)
      go (Ok d) e = carried_begins (call_with d (opened s).list)

-- So it is over any list of records.
pub begun_declares_none : (day : ℕ) → IsDay day → (rs : List (List ℕ)) (k : State) → StateOk day k → AllOctets rs → k.begun ≡ true
    → without accepted_declaration (log day k rs) ≡ true
unfolding AllOctets without log
begun_declares_none day is_day [] k h o b = refl
begun_declares_none day is_day (r ∷ rs) k h o b =
    let s = step_begins day k h r in
    and_both (s.late b) (begun_declares_none day is_day rs (step day k r).state (step_ok day is_day k h r o.0) o.1 (s.goes_on_law b))
