-- Which answers have a line.
use mathlib.Core.Path.{◌≡◌, refl}
use mathlib.Core.Bool.{Bool, true, false, not, ◌&&◌, ◌||◌}
use mathlib.Core.List.{List}
use Prim.Native.Nat.{ℕ, zero, suc}
use native.Mathlib.Omega.{arith}
use lib.Dec.{eqb}
use borrow.Author.Tests.{ne_eqb}
use Rattle.layout.specs.declared.Call.{Call}
use Rattle.layout.specs.declared.Mark.{Mark}
use Rattle.machine.specs.Sorts.{declares}
use Rattle.machine.specs.Calls.{add_task, add_semaphore, add_bolt, add_interrupt, declaration}
use Rattle.machine.specs.Step.{answered, finish, declared, or_refuse, carry_out, carry_on, step}
use Rattle.machine.specs.Log.{is_declaration}
use Rattle.record.specs.Reading.{opened}
use Rattle.machine.specs.Test.{kernel_refusal}
use Rattle.machine.specs.declared.State.{State}
use Rattle.machine.specs.declared.Stepped.{Stepped}
use Rattle.machine.proofs.Passed.{refusal_of, passed}
use Rattle.machine.proofs.Cases.{opened_cases, out_cases, done_number, declaration_cases, carried_by, step_opened, step_on}
use Rattle.machine.proofs.Refused.{turned_away_law}
use Rattle.facts.proofs.Bools.{contra}
use Rattle.script.specs.Printed.{silent}

-- The code's test for a line.
abbrev pub says : Stepped → Bool
says z = not (eqb z.answer.number 0) || z.state.begun

-- A declaration leaves whether a call was accepted as it was.
begun_declared : (m : Mark) (c : Call) (k : State) → (declaration m c k).begun ≡ k.begun
begun_declared m c k =
    declaration_cases m c k (λ d. d.begun ≡ k.begun) (λ e. unfold add_task in refl) (λ e. unfold add_semaphore in refl) (λ e. unfold add_bolt in refl)
    (λ e. unfold add_interrupt in refl) (λ e. refl) refl

-- What is done is begun unless it declares.
begun_out : (day : ℕ) (k : State) (c : Call) → not (k.begun && declares c.head.mark) ≡ true → says (carry_out day k c) ≡ not (declares c.head.mark)
unfolding declared finish
begun_out day k c e =
    out_cases day k c (λ z. says z ≡ not (declares c.head.mark))
    (λ d. rw (d, begun_declared c.head.mark c k) (early k.begun (rw d at e))) (λ d. rw d)
  where
    early : (b : Bool) → not (b && true) ≡ true → b ≡ false
    early true e = contra e refl
    early false e = refl

-- A call or declaration that was read.
says_read : (day : ℕ) (k : State) (c : Call) → not (eqb (carry_on day k c).answer.number 0 && declares c.head.mark) ≡ says (carry_on day k c)
says_read day k c = rw (carried_by day k c) (go (refusal_of day k c) refl)
  where
    go : (n : ℕ) → refusal_of day k c ≡ n
        → not (eqb (or_refuse k n (carry_out day k c)).answer.number 0 && declares c.head.mark)
        ≡ says (or_refuse k n (carry_out day k c))
    go zero e = rw (begun_out day k c (passed day k c e).formal.timely, done_number day k c)
    go (suc n) e = unfold answered in rw (ne_eqb (suc n) 0 (λ q. omega arith))

-- A line is printed for all but accepted declarations, by whether the kernel after the step has begun.
pub says_line : (day : ℕ) (k : State) (s : List ℕ) → not (silent s (step day k s).answer) ≡ says (step day k s)
unfolding silent
says_line day k s = go (kernel_refusal day k) refl
  where
    go : (n : ℕ) → kernel_refusal day k ≡ n → not (eqb (step day k s).answer.number 0 && is_declaration (opened s).answer) ≡ says (step day k s)
    go zero v =
        rw (step_on day k s v)
        (opened_cases s (λ o. not (eqb (step_opened day k o.answer o.list).answer.number 0 && is_declaration o.answer) ≡ says (step_opened day k o.answer o.list))
        (unfold answered in refl) (says_read day k))
    go (suc n) v = rw (turned_away_law day n k s v, ne_eqb (suc n) 0 (λ q. omega arith))
