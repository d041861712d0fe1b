-- Whom the sets due, started and ended have.
use Rattle.std.specs.Prelude.{is_some, Err, None, Ok}
use mathlib.Core.Path.{◌≡◌, refl, sym, ap, ◌∙◌}
use mathlib.Core.Bool.{Bool, true, false, not, ◌&&◌, ◌||◌, and-false}
use mathlib.Core.List.{List}
use Prim.Native.Nat.{ℕ, zero, suc, ◌<◌}
use native.Mathlib.Omega.{arith}
use lib.Dec.{eqb}
use borrow.Author.Tests.{ne_eqb}
use Rattle.calendar.specs.declared.Instant.{Instant}
use Rattle.layout.specs.Marks.{is}
use Rattle.layout.specs.declared.Call.{Call}
use Rattle.layout.specs.declared.Mark.TheVariants.{AC, TE, EN, TG, TI, SL}
use Rattle.record.specs.Reading.{call_with, opened, Read}
use Rattle.facts.proofs.Bools.{contra}
use Rattle.lock.specs.Locks.{bit}
use Rattle.lock.proofs.Bits.{eqb_bit}
use Rattle.task.specs.declared.Task.{Task}
use Rattle.machine.specs.Running.{Running, runner}
use Rattle.machine.specs.declared.State.{State}
use Rattle.machine.specs.declared.Stepped.{Stepped}
use Rattle.machine.specs.Sets.{Due, Started, Ended, has, holds, mark}
use Rattle.machine.specs.State.{task_at}
use Rattle.machine.specs.Sorts.{sort_of, declaring, declares}
use Rattle.machine.specs.Work.{Work}
use Rattle.machine.specs.Test.{valid, kernel_refusal}
use Rattle.machine.specs.Calls.{declaration, work_of}
use Rattle.machine.specs.Step.{answered, finish, declared, or_refuse, carry_out, step}
use Rattle.machine.specs.Members.{activates, comes_due, comes_to_end, of_call, comes_to_start, Membership, SetsHave}
use Rattle.machine.proofs.Filing.{taken_valid}
use Rattle.machine.proofs.Passed.{refusal_of, passed}
use Rattle.machine.proofs.Sorts.{other_mark}
use Rattle.machine.proofs.SetLaws.{has_empty}
use Rattle.machine.proofs.Cases.{out_cases, done_number, carried_by, step_opened, step_on}
use Rattle.machine.proofs.Starting.{Got, call_got}

module _ (day : ℕ) (k : State) (i : ℕ) where
  abbrev t : Task
  t = task_at k.tasks i

  -- The sets of what was answered, where b and e say whether the task's start came due and whether it came to its end.
  record HasIn (b e : Bool) (z : Stepped) : Type 0 where
    due : has i z.answer.sets.due ≡ bit b
    started : has i z.answer.sets.started ≡ bit (comes_to_start k z.answer i)
    ended : has i z.answer.sets.ended ≡ bit e

  -- All sets are empty.
  has_none : (n : ℕ) (r : Running) → HasIn false false (answered k n r)
  unfolding answered
  has_none n r = record { due = has_empty i; started = rw has_empty; ended = has_empty i }

  has_when : (a b e : Bool) (z : Stepped) → a ≡ true → HasIn b e z → HasIn (a && b) (a && e) z
  has_when true b e z x h = h
  has_when false b e z x h = contra x refl

  has_unless : (a b e : Bool) (z : Stepped) → a ≡ false → HasIn false false z → HasIn (a && b) (a && e) z
  has_unless true b e z x h = contra refl x
  has_unless false b e z x h = h

  -- What was carried out of a call.
  abbrev Did : Call → Stepped → Type 0
  Did c z = HasIn (comes_due day k c z.state.now i) (comes_to_end k c i) z

  module _ (l : i < k.counts.tasks) (v : valid day k ≡ true) (c : Call) (r : refusal_of day k c ≡ 0) where
    call_has : (w : Work) → Got day k v c (passed day k c r) i l w → Did c (finish k w)
    unfolding finish
    call_has w g =
        let m = g.fits.marks in
        let due : has i w.sets.due ≡ bit (comes_due day k c w.now i) = g.sets Due ∙ ap bit m.is_due in
        let ended : has i w.sets.ended ≡ bit (comes_to_end k c i) = g.sets Ended ∙ ap bit m.is_ended in
        record {
          due = due;
          started =
              rw (due, ended, eqb_bit (comes_due day k c w.now i), eqb_bit (comes_to_end k c i))
              (g.sets Started ∙ ap bit m.is_started);
          ended = ended;
        }

    -- In a declaration nothing comes due and nothing ends.
    declared_has : declares c.head.mark ≡ true → Did c (declared k (declaration c.head.mark c k))
    unfolding declared declares
    declared_has d =
        record {
          due = rw no_due (has_empty i);
          started = rw has_empty;
          ended = rw no_end (has_empty i);
        }
      where
        no_due : (n : Instant) → comes_due day k c n i ≡ false
        no_due n = unfold comes_due in rw (other_mark (λ s. not (declaring s)) c.head.mark AC refl (rw d), other_mark (λ s. not (declaring s)) c.head.mark TG refl (rw d), other_mark (λ s. not (declaring s)) c.head.mark TI refl (rw d), other_mark (λ s. not (declaring s)) c.head.mark SL refl (rw d))

        no_end : comes_to_end k c i ≡ false
        no_end = unfold comes_to_end in rw (other_mark (λ s. not (declaring s)) c.head.mark TE refl (rw d), other_mark (λ s. not (declaring s)) c.head.mark EN refl (rw d))

    done_has : Did c (carry_out day k c)
    done_has =
        out_cases day k c (Did c) declared_has
        (λ d. call_has (work_of day k c) (call_got day k v c (passed day k c r) i l (sort_of c.head.mark) refl (unfold declares in d)))

  -- Bytes that open so: what holds of an accepted call.
  abbrev Opens : Read → List ℕ → Stepped → Type 0
  Opens r ls z =
      HasIn (eqb z.answer.number 0 && of_call (λ c. comes_due day k c z.state.now i) r ls)
      (eqb z.answer.number 0 && of_call (λ c. comes_to_end k c i) r ls) z

  module _ (l : i < k.counts.tasks) where
    carried_has : valid day k ≡ true → (c : Call) (n : ℕ) → refusal_of day k c ≡ n
        → let z = or_refuse k n (carry_out day k c) in
        HasIn (eqb z.answer.number 0 && comes_due day k c z.state.now i) (eqb z.answer.number 0 && comes_to_end k c i) z
    carried_has v c zero e = has_when _ _ _ _ (ap (λ (x : ℕ). eqb x 0) (done_number day k c)) (done_has l v c e)
    carried_has v c (suc n) e = unfold answered in has_unless _ _ _ _ (ne_eqb (suc n) 0 (λ z. omega arith)) (has_none (suc n) (runner k))

    opened_has : valid day k ≡ true → (r : Read) (ls : List ℕ) → Opens r ls (step_opened day k r ls)
    opened_has v (Err n) ls = unfold answered in rw and-false (has_none n (runner k))
    opened_has v (Ok h) ls = let c = call_with h ls in rw (carried_by day k c) (carried_has v c (refusal_of day k c) refl)

    -- A kernel turned away.
    away_has : (n : ℕ) → kernel_refusal day k ≡ suc n → (s : List ℕ) → Opens (opened s).answer (opened s).list (step day k s)
    unfolding step
    away_has n v s = rw v (unfold answered in has_unless _ _ _ _ (ne_eqb (suc n) 0 (λ z. omega arith)) (has_none (suc n) None))

    step_has : (s : List ℕ) (n : ℕ) → kernel_refusal day k ≡ n → Opens (opened s).answer (opened s).list (step day k s)
    step_has s zero e = rw (step_on day k s e) (opened_has (taken_valid day k e) (opened s).answer (opened s).list)
    step_has s (suc n) e = away_has n e s

pub sets_have : SetsHave
sets_have day k s i l =
    let h = step_has day k i l s (kernel_refusal day k) refl in
    record { due = h.due; started = h.started; ended = h.ended }
