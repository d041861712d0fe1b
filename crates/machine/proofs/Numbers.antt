-- The step gives each number on its ground.
use mathlib.Core.Path.{◌≡◌, refl, sym, ap, ◌∙◌}
use mathlib.Core.Logic.{◌≢◌, ◌↔◌}
use mathlib.Core.Bool.{Bool, true, false, ◌&&◌}
use mathlib.Core.List.{List}
use Prim.Native.Nat.{ℕ, zero, suc}
use native.Mathlib.Omega.{arith}
use lib.Dec.{ltb}
use borrow.Author.Tests.{ltb-true, leb-true}
use Rattle.layout.specs.declared.Call.{Call}
use Rattle.layout.specs.declared.Mark.{Mark}
use Rattle.lists.specs.Lists.{every}
use Rattle.lists.proofs.EveryLaws.{every_at}
use Rattle.record.specs.Refusals.{named, unless, first_refusal, shape, times, refusal}
use Rattle.record.specs.Reading.{accepted, opened}
use Rattle.machine.specs.declared.Counts.{Counts}
use Rattle.machine.specs.declared.State.{State}
use Rattle.machine.specs.declared.Stepped.{Stepped}
use Rattle.machine.specs.Test.{valid, kernel_refusal}
use Rattle.machine.specs.Sorts.{declares}
use Rattle.machine.specs.Refusals.{declared_by, declared_in, room_for, formal_refusal, state_refusal}
use Rattle.machine.specs.Step.{answered, or_refuse, carry_out, step}
use Rattle.machine.specs.Grounds.{Undeclared, Full, Ground, RefusalsHaveGrounds}
use Rattle.machine.proofs.Below.{all_at}
use Rattle.machine.proofs.Passed.{unless_passed, before_passed, formal, refusal_of, counts_fit, Parts, parts}
use Rattle.machine.proofs.Cases.{carried_by, step_on, done_number}
use Rattle.machine.proofs.Order.{times_six}
use Rattle.machine.proofs.Grounds.{Far, far_by, Limited, number_ground, ground_number, no_room, after_shape, unknown_is, undeclared_is_5, full_is_7}

-- ---- the step

-- The chain of the tests for 5, 6 and 7 before the state's.
chain_five : (known room : Bool) (t state : ℕ) → (t ≢ 0 → t ≡ 6) → Far state
    → first_refusal (unless known 5 (first_refusal t (unless room 7 0))) state ≡ 5 → known ≡ false
chain_five false room t state f g e = refl
chain_five true false zero state f g e = absurd (omega arith)
chain_five true true zero state f g e = absurd (g.no5 e)
chain_five true room (suc t) state f g e = absurd (let z = f (λ x. omega arith) in omega arith)

chain_seven : (known room : Bool) (state : ℕ) → Far state → first_refusal (unless known 5 (unless room 7 0)) state ≡ 7 → room ≡ false
chain_seven known false state g e = refl
chain_seven true true state g e = absurd (g.no7 e)
chain_seven false true state g e = absurd (omega arith)

or_refuse_number : (k : State) (n : ℕ) (z : Stepped) → z.answer.number ≡ 0 → (or_refuse k n z).answer.number ≡ n
unfolding answered
or_refuse_number k zero z e = e
or_refuse_number k (suc n) z e = refl

passes_test : (day : ℕ) (k : State) → kernel_refusal day k ≡ 0 → valid day k ≡ true
unfolding kernel_refusal
passes_test day k e = (unless_passed (valid day k) 0 _ e).0

limited : (day : ℕ) (k : State) (c : Call) → Parts day k → declared_in c.head.mark k.counts c ≡ true → Limited k c c.head.mark
unfolding declared_by
limited day k c p d =
    record {
      instant = leb-true _ _ p.now;
      values = λ m x s.
          let known : every (λ y. ltb y k.counts.semaphores) (named c) ≡ true = rw m at d in
          let below = ltb-true x k.counts.semaphores (every_at (λ y. ltb y k.counts.semaphores) (named c) x known s) in
          leb-true _ _ (all_at k.counts.semaphores _ p.values x below);
    }

module _ (day : ℕ) (k : State) (s : List ℕ) (c : Call) (v : kernel_refusal day k ≡ 0) (o : opened s ≡ accepted c) where
  abbrev m : Mark
  m = c.head.mark

  tested : Parts day k
  tested = parts day k (passes_test day k v)

  far : Far (state_refusal m k c)
  far = far_by m c _ _ _ _ _

  stepped : step day k s ≡ or_refuse k (refusal_of day k c) (carry_out day k c)
  stepped = step_on day k s v ∙ rw o (carried_by day k c)

  number_is : (step day k s).answer.number ≡ refusal_of day k c
  number_is =
      ap (λ (z : Stepped). z.answer.number) stepped
      ∙ or_refuse_number k (refusal_of day k c) (carry_out day k c) (done_number day k c)

  module _ (l : (k.begun && declares m) ≡ false) (h : shape c ≡ 0) where
    abbrev n : Counts
    n = k.counts

    number_after : (step day k s).answer.number
        ≡ first_refusal (unless (declared_in m n c) 5 (first_refusal (times day c.head) (unless (room_for m n) 7 0))) (state_refusal m k c)
    unfolding refusal_of
    number_after = number_is ∙ rw (after_shape day n k.begun c l h)

    by_five : ((step day k s).answer.number ≡ 5) ↔ Undeclared m n c
    unfolding refusal_of
    by_five = (
      λ e. (unknown_is day n k.begun c l h).0
          (chain_five (declared_in m n c) (room_for m n) (times day c.head) (state_refusal m k c) (times_six day c) far (sym number_after ∙ e)),
      λ x. number_is ∙ rw (undeclared_is_5 day n k.begun c l h x),
    )

    module _ (q : times day c.head ≡ 0) where
      by_seven : ((step day k s).answer.number ≡ 7) ↔ Full n m
      unfolding refusal_of
      by_seven =
          let f = counts_fit n tested.counts in
          let after : (step day k s).answer.number ≡ first_refusal (unless (declared_in m n c) 5 (unless (room_for m n) 7 0)) (state_refusal m k c) = number_after ∙ rw q in (
            λ e. no_room n f.tasks f.semaphores f.bolts f.interrupts m
                (chain_seven (declared_in m n c) (room_for m n) (state_refusal m k c) far (sym after ∙ e)),
            λ x. number_is ∙ rw (full_is_7 day n k.begun c l h q x),
          )

  by_state : formal_refusal day k.counts k.begun c ≡ 0 → (n : ℕ) → n ≢ 0 → ((step day k s).answer.number ≡ n) ↔ Ground k c m n
  unfolding refusal_of
  by_state f n h =
      let is_state : (step day k s).answer.number ≡ state_refusal m k c = number_is ∙ rw f in
      let l = limited day k c tested (formal day k.counts k.begun c f).known in
      (λ e. number_ground k c n h m l (sym is_state ∙ e), λ g. is_state ∙ ground_number k c g)

pub refusals_have_grounds : RefusalsHaveGrounds
unfolding refusal
refusals_have_grounds day k s c v o =
    record {
      five = λ l h. by_five day k s c v o l h;
      seven = λ l h. let p = before_passed (shape c) (times day c.head) h in by_seven day k s c v o l p.0 p.1;
      further = by_state day k s c v o;
    }
