-- Accepted declarations leave a fresh kernel.
use Rattle.std.specs.Prelude.{Err, Ok}
use mathlib.Core.Path.{◌≡◌, refl, ◌∙◌}
use mathlib.Core.Bool.{true, false, not, ◌&&◌}
use mathlib.Core.List.{List, [], ◌∷◌}
use Prim.Native.Nat.{ℕ, zero, suc, ◌<◌}
use native.Mathlib.Nat.{not-suc-le-zero}
use native.Mathlib.Omega.{arith}
use lib.Seq.{get_or-set_same, get_or-set_other}
use Rattle.layout.specs.declared.Mark.TheVariants.{DT, DB, IT}
use Rattle.layout.specs.declared.Head.{Head}
use Rattle.layout.specs.declared.Call.{Call}
use Rattle.record.specs.Reading.{call_with, opened, Read}
use Rattle.lock.specs.Locks.{empty_bolt, bolt_at}
use Rattle.facts.proofs.Bools.{by_bool, by_eq, contra, both}
use Rattle.lock.proofs.Levels.{bolt_same, bolt_other}
use Rattle.task.specs.State.{no_task}
use Rattle.machine.specs.declared.State.{State}
use Rattle.machine.specs.declared.OnFile.{OnFile}
use Rattle.machine.specs.declared.Stepped.{Stepped}
use Rattle.machine.specs.State.{task_at, enabled_at, fresh_task, nothing, with_clock, with_file}
use Rattle.machine.specs.Running.{runner}
use Rattle.machine.specs.NextEvent.{file_of}
use Rattle.machine.specs.Sorts.{declares}
use Rattle.machine.specs.Calls.{add_task, add_semaphore, add_bolt, add_interrupt, declaration as declaredAs}
use Rattle.machine.specs.Step.{answered, declared, or_refuse, carry_out, step}
use Rattle.machine.specs.Log.{AllOctets, is_declaration, final, log}
use Rattle.machine.specs.Invariants.{IsDay}
use Rattle.machine.proofs.Facts.{StateOk, passes_of_ok, ok_of_passes}
use Rattle.machine.proofs.Taking.{nothing_passes}
use Rattle.machine.proofs.Passed.{refusal_of, Passed, passed, as_mark, room_task, room_bolt, room_interrupt}
use Rattle.machine.proofs.Opened.{opened_refused}
use Rattle.machine.proofs.Cases.{done_number, declaration_cases, carried_by, step_opened, step_on}
use Rattle.machine.proofs.Invariants.{step_ok}
use Rattle.balance.specs.Counting.{is_accepted}
use Rattle.balance.specs.Fresh.{accepted_call, without, DeclaredIsFresh}

-- A kernel whose declared places are as their declarations left them.
record Young (k : State) : Type 0 where
  instant : k.now.0 ≡ 0
  unbegun : k.begun ≡ false
  tasks : (i : ℕ) → i < k.counts.tasks → task_at k.tasks i ≡ fresh_task (task_at k.tasks i).declared
  bolts : (b : ℕ) → b < k.counts.bolts → bolt_at k.locks b ≡ empty_bolt
  enabled : (i : ℕ) → i < k.counts.interrupts → enabled_at k i ≡ false

declared_is : (p : ℕ) → fresh_task p ≡ fresh_task (fresh_task p).declared
unfolding fresh_task
declared_is p = refl

module _ (day : ℕ) (k : State) (h : StateOk day k) (y : Young k) (c : Call) where
  young_DT : Passed day DT k c → Young (add_task c.head.priority k)
  unfolding add_task
  young_DT p =
      let n = k.counts.tasks in
      let room = room_task k.counts p.formal.room in
      let at_new = get_or-set_same k.tasks n (fresh_task c.head.priority) no_task (omega (arith, h.tables.tasks)) in
      record {
        instant = y.instant;
        unbegun = y.unbegun;
        tasks = λ i l. by_eq i n (λ z. rw (z, at_new) (declared_is c.head.priority))
            (λ z. rw (get_or-set_other k.tasks n i (fresh_task c.head.priority) no_task z) (y.tasks i (omega arith)));
        bolts = y.bolts;
        enabled = y.enabled;
      }

  young_DS : Young (add_semaphore c.head.first k)
  unfolding add_semaphore
  young_DS = record { instant = y.instant; unbegun = y.unbegun; tasks = y.tasks; bolts = y.bolts; enabled = y.enabled }

  young_DB : Passed day DB k c → Young (add_bolt k)
  unfolding add_bolt
  young_DB p =
      let n = k.counts.bolts in
      let room = room_bolt k.counts p.formal.room in
      record {
        instant = y.instant;
        unbegun = y.unbegun;
        tasks = y.tasks;
        bolts = λ b l. by_eq b n (λ z. rw (z, bolt_same k.locks n empty_bolt (omega (arith, h.tables.bolts))))
            (λ z. bolt_other k.locks n empty_bolt b z ∙ y.bolts b (omega arith));
        enabled = y.enabled;
      }

  young_IT : Passed day IT k c → Young (add_interrupt k)
  unfolding add_interrupt
  young_IT p =
      let n = k.counts.interrupts in
      let room = room_interrupt k.counts p.formal.room in
      record {
        instant = y.instant;
        unbegun = y.unbegun;
        tasks = y.tasks;
        bolts = y.bolts;
        enabled = λ i l. by_eq i n (λ z. rw (z, get_or-set_same k.enabled n false false (omega (arith, h.tables.enabled))))
            (λ z. get_or-set_other k.enabled n i false false z ∙ y.enabled i (omega arith));
      }

  young_DC : Young (with_clock c.head.first k)
  young_DC = record { instant = y.instant; unbegun = y.unbegun; tasks = y.tasks; bolts = y.bolts; enabled = y.enabled }

  young_declared : Passed day c.head.mark k c → Young (declaredAs c.head.mark c k)
  young_declared p =
      declaration_cases c.head.mark c k Young (λ e. young_DT (as_mark e p)) (λ e. young_DS) (λ e. young_DB (as_mark e p)) (λ e. young_IT (as_mark e p)) (λ e. young_DC) y

young_refiled : (d : State) (f : OnFile) → Young d → Young (with_file f d)
young_refiled d f y = record { instant = y.instant; unbegun = y.unbegun; tasks = y.tasks; bolts = y.bolts; enabled = y.enabled }

-- ---- a record that is no accepted call

-- It is refused, or an accepted declaration.
module _ (day : ℕ) (k : State) (h : StateOk day k) (s : List ℕ) (P : Read → Stepped → Type 0)
    (refused : (r : Read) (n : ℕ) → P r (answered k (suc n) (runner k)))
    (done : (d : Head) (l : List ℕ) → Passed day d.mark k (call_with d l) → P (Ok d) (declared k (declaredAs d.mark (call_with d l) k))) where
  pub no_call : not (is_accepted (step day k s).answer && not (is_declaration (opened s).answer)) ≡ true → P (opened s).answer (step day k s)
  no_call q = rw on (go (opened s).answer refl (rw on at q))
    where
      on : step day k s ≡ step_opened day k (opened s).answer (opened s).list
      on = step_on day k s (passes_of_ok day k h).tested

      carried : (d : Head) (n : ℕ) → let c = call_with d (opened s).list in
          refusal_of day k c ≡ n → not (is_accepted (or_refuse k n (carry_out day k c)).answer && not (declares d.mark)) ≡ true
          → P (Ok d) (or_refuse k n (carry_out day k c))
      carried d zero e z =
          let c = call_with d (opened s).list in
          by_bool (declares d.mark) (λ m. unfold carry_out in rw m (done d (opened s).list (passed day k c e))) (λ m. contra z (rw (done_number day k c, m)))
      carried d (suc n) e z = refused (Ok d) n

      go : (r : Read) → (opened s).answer ≡ r → not (is_accepted (step_opened day k r (opened s).list).answer && not (is_declaration r)) ≡ true → P r (step_opened day k r (opened s).list)
      go (Err n) e z = rw (opened_refused s n e) (refused (Err 2) 1)
      go (Ok d) e z = let by = carried_by day k (call_with d (opened s).list) in rw by (carried d _ refl (rw by at z))

module _ (day : ℕ) (is_day : IsDay day) where
  young_step : (k : State) → StateOk day k → Young k → (s : List ℕ) → not (is_accepted (step day k s).answer && not (is_declaration (opened s).answer)) ≡ true → Young (step day k s).state
  young_step k h y s =
      no_call day k h s (λ r z. Young z.state) (λ r n. unfold answered in y) (λ d l p. unfold declared in young_refiled _ (file_of k) (young_declared day k h y (call_with d l) p))

  young_all : (rs : List (List ℕ)) (k : State) → StateOk day k → Young k → AllOctets rs → without accepted_call (log day k rs) ≡ true → StateOk day (final day k rs) × Young (final day k rs)
  unfolding AllOctets without log final
  young_all [] k h y o q = (h, y)
  young_all (r ∷ rs) k h y o q =
      let p = both (not (is_accepted (step day k r).answer && not (is_declaration (opened r).answer))) _ q in
      young_all rs (step day k r).state (step_ok day is_day k h r o.0) (young_step k h y r p.0) o.1 p.1

  -- ---- nothing declared

  pub nothing_ok : StateOk day nothing
  nothing_ok = ok_of_passes day nothing (nothing_passes day is_day)

nothing_young : Young nothing
unfolding nothing
nothing_young =
    record {
      instant = refl;
      unbegun = refl;
      tasks = λ i l. absurd (not-suc-le-zero l);
      bolts = λ b l. absurd (not-suc-le-zero l);
      enabled = λ i l. absurd (not-suc-le-zero l);
    }

pub declared_is_fresh : DeclaredIsFresh
declared_is_fresh day is_day rs o q =
    let z = young_all day is_day rs nothing (nothing_ok day is_day) nothing_young o q in
    let p = passes_of_ok day (final day nothing rs) z.0 in
    record {
      tables = p.tables;
      tested = p.tested;
      instant = z.1.instant;
      unbegun = z.1.unbegun;
      tasks = z.1.tasks;
      bolts = z.1.bolts;
      enabled = z.1.enabled;
    }
