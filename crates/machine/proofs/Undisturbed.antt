-- What touches no continuation leaves it as it is: one step, and a list of records.
use Rattle.std.specs.Prelude.{Err, Ok}
use mathlib.Core.Path.{◌≡◌, refl, ◌∙◌}
use mathlib.Core.Bool.{true, false, ◌&&◌, ◌||◌, and-true}
use mathlib.Core.List.{List, [], ◌∷◌}
use Prim.Native.Nat.{ℕ}
use native.Mathlib.Omega.{arith}
use lib.Dec.{eqb}
use borrow.Author.Tests.{eq-eqb, ltb-false}
use Rattle.calendar.specs.declared.Instant.{Instant}
use Rattle.layout.specs.Marks.{is}
use Rattle.layout.specs.declared.Call.{Call}
use Rattle.layout.specs.declared.Head.{Head}
use Rattle.layout.specs.declared.Mark.{Mark}
use Rattle.layout.specs.declared.Mark.TheVariants.{AC, TE, SU, PR, CO, RE, TG, TI, SL}
use Rattle.record.specs.Refusals.{scheduled, named}
use Rattle.record.specs.Reading.{opened, Read}
use Rattle.lock.specs.declared.Wait.{Wait}
use Rattle.facts.proofs.Bools.{by_bool, neither}
use Rattle.task.specs.State.{wait_for}
use Rattle.schedule.specs.Alarms.{falls, listens}
use Rattle.task.specs.Continuing.{SameContinuation}
use Rattle.task.specs.declared.Task.{Task}
use Rattle.task.proofs.Continuing.{has, same_then, left_alone}
use Rattle.machine.specs.declared.State.{State}
use Rattle.machine.specs.declared.Sort.TheVariants.{OneTask}
use Rattle.machine.specs.State.{task_at, enabled_at}
use Rattle.machine.specs.Running.{runner}
use Rattle.machine.specs.Sorts.{sort_of}
use Rattle.machine.specs.Activation.{activate_by, continue_by, resume_by}
use Rattle.machine.specs.Calls.{named_turn, runner_turn, arrival}
use Rattle.machine.specs.Step.{step}
use Rattle.machine.specs.Continuing.{is_runner, touches, touches_by, disturbs, NothingElse, undisturbed, StaysOverLists, met_by, meets, unmet}
use Rattle.machine.proofs.Sorts.{continue_mark, tick_mark}
use Rattle.machine.proofs.Untouched.{Left, step_stays, list_stays}

-- What touches task i's continuation, one after the other.
record Untouched (k : State) (c : Call) (i : ℕ) : Type 0 where
  continued : (is c.head.mark CO && scheduled c.head.kind && eqb c.head.number i) ≡ false
  prevented : (is c.head.mark PR && eqb c.head.number i) ≡ false
  resumed : (is c.head.mark RE && scheduled c.head.kind && is_runner (runner k) i) ≡ false
  triggered : (is c.head.mark TG && enabled_at k c.head.number && listens c.head.number (task_at k.tasks i).continuation) ≡ false
  ticked : ((is c.head.mark TI || is c.head.mark SL) && falls (arrival c.head.mark k) (task_at k.tasks i).continuation) ≡ false

untouched : (k : State) (c : Call) (i : ℕ) → touches k c i ≡ false → Untouched k c i
unfolding touches
untouched k c i e =
    let a = neither _ ((is c.head.mark TI || is c.head.mark SL) && falls (arrival c.head.mark k) (task_at k.tasks i).continuation) e in
    let b = neither _ (is c.head.mark TG && enabled_at k c.head.number && listens c.head.number (task_at k.tasks i).continuation) a.0 in
    let d = neither _ (is c.head.mark RE && scheduled c.head.kind && is_runner (runner k) i) b.0 in
    let f = neither (is c.head.mark CO && scheduled c.head.kind && eqb c.head.number i) (is c.head.mark PR && eqb c.head.number i) d.0 in
    record { continued = f.0; prevented = f.1; resumed = d.1; triggered = b.1; ticked = a.1 }

-- ---- one task's turn

pub at_once : (kind : ℕ) → scheduled kind ≡ false → eqb kind 0 ≡ true
at_once kind e = let l = ltb-false 0 kind e in eq-eqb kind 0 (omega arith)

module _ (day clock : ℕ) (n : Instant) (h : Head) (t : Task) where
  activate_same : SameContinuation t (activate_by day clock n h t).task
  unfolding activate_by
  activate_same = by_bool (eqb h.kind 0) (λ e. rw e (left_alone.due _ t)) (λ e. rw e (left_alone.schedule n _ t))

  -- AC, TE, SU, and CO at once.
  named_same : (m : Mark) → is m PR ≡ false → (is m CO ≡ true → scheduled h.kind ≡ false) → sort_of m ≡ OneTask
      → SameContinuation t (named_turn day clock n m h t).task
  unfolding named_turn continue_by
  named_same m pr co one =
      by_bool (is m AC) (λ ac. rw ac activate_same)
      (λ ac. rw ac (by_bool (is m TE) (λ te. rw te (left_alone.end t))
      (λ te. rw te (by_bool (is m SU) (λ su. rw su (left_alone.suspend t))
      (λ su. rw (su, pr, at_once h.kind (co (continue_mark m one ac te su pr))) (left_alone.continue h.priority t))))))

  -- EN, and RE at once.
  runner_same : (m : Mark) → (is m RE ≡ true → scheduled h.kind ≡ false) → SameContinuation t (runner_turn day clock n m h t).task
  unfolding runner_turn resume_by
  runner_same m re =
      by_bool (is m RE) (λ e. rw (e, at_once h.kind (re e)) (left_alone.resume _ t)) (λ e. rw e (left_alone.end t))

-- ---- a step, and a list of records

left : (day : ℕ) (k : State) (c : Call) (i : ℕ) → touches k c i ≡ false → Left SameContinuation day k c i
left day k c i e =
    let m = c.head.mark in
    let t = task_at k.tasks i in
    let u = untouched k c i e in
    record {
      named = λ q z. let n = eq-eqb c.head.number i z in
          named_same day k.clock k.now c.head t m (rw (n, and-true) at u.prevented) (λ co. rw (co, n, and-true) at u.continued) q;
      runs = λ r. runner_same day k.clock k.now c.head t m (λ re. rw (re, r, eq-eqb i i refl, and-true) at u.resumed);
      triggered = λ tg on. left_alone.trigger day k.clock k.now c.head.number t (rw (tg, on) at u.triggered);
      ticked = λ q. left_alone.tick (arrival m k) t (rw (tick_mark m q) at u.ticked);
    }

waits : (w : Wait) (n : ℕ) (l : List ℕ) (t : Task) → SameContinuation t (wait_for w n l t)
waits w n l t = has (wait_for w n l t)

-- What touches a continuation, as a test of calls.
touches_met : (k : State) (r : Read) (l : List ℕ) (i : ℕ) → met_by touches k r l i ≡ touches_by k r l i
touches_met k (Err n) l i = refl
touches_met k (Ok h) l i = refl

disturbs_meets : (day : ℕ) (k : State) (s : List ℕ) (i : ℕ) → meets touches day k s i ≡ disturbs day k s i
disturbs_meets day k s i = rw (touches_met k (opened s).answer (opened s).list i) refl

pub undisturbed_unmet : (day i : ℕ) (k : State) (rs : List (List ℕ)) → unmet touches day i k rs ≡ undisturbed day i k rs
unfolding unmet undisturbed
undisturbed_unmet day i k [] = refl
undisturbed_unmet day i k (r ∷ rs) = rw (disturbs_meets day k r i, undisturbed_unmet day i (step day k r).state rs) refl

pub nothing_else : NothingElse
nothing_else day k s i l e =
    step_stays SameContinuation same_then waits touches left day k i l s (disturbs_meets day k s i ∙ e)

pub stays_over_lists : StaysOverLists
stays_over_lists day k rs i l e =
    list_stays SameContinuation same_then waits touches left day k rs i l (undisturbed_unmet day i k rs ∙ e)
