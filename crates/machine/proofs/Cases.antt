-- Every step is refusal 1 or 16, a refusal 2 to 15 or 17, or what an accepted declaration or call does.
use Rattle.std.specs.Prelude.{Option, Err, None, Ok, Some}
use mathlib.Core.Path.{◌≡◌, refl}
use mathlib.Core.Logic.{◌≢◌}
use mathlib.Core.Bool.{Bool, true, false, not, ◌&&◌, ◌||◌}
use mathlib.Core.List.{List}
use Prim.Native.Nat.{ℕ, zero, suc, ◌≤◌}
use native.Mathlib.Omega.{arith}
use lib.ListN.{length}
use lib.Dec.{ltb, eqb}
use Rattle.calendar.specs.Limits.{last_instant}
use Rattle.calendar.specs.Moments.{comes_by, Moment}
use Rattle.calendar.specs.declared.Instant.{Instant}
use Rattle.layout.specs.Marks.{is, mark_of, form}
use Rattle.layout.specs.Fields.{record_length, letters, call_of}
use Rattle.layout.proofs.MarksLaws.{is_mark}
use Rattle.record.specs.Refusals.{named, unless, first_refusal, formed, listed, timed, shape, times}
use Rattle.record.specs.Reading.{refused, accepted, call_with, with_mark, opened, or_refused, Read}
use Rattle.layout.specs.declared.Mark.{Mark}
use Rattle.layout.specs.declared.Mark.TheVariants.{DT, DS, DB, IT, DC, AC, TE, SU, TI, SL}
use Rattle.record.specs.declared.Reading.{Reading}
use Rattle.layout.specs.declared.Call.{Call}
use Rattle.lock.specs.Locks.{waiting, returnable}
use Rattle.lock.specs.declared.Locks.{Locks}
use Rattle.lock.specs.declared.Wait.{Wait}
use Rattle.lock.specs.declared.Wait.TheVariants.{Nothing, Request, Reserve, Enter}
use Rattle.facts.proofs.Bools.{by_bool, contra}
use Rattle.task.specs.State.{unheld, suspended}
use Rattle.task.specs.declared.Task.{Task}
use Rattle.machine.specs.declared.State.{State}
use Rattle.machine.specs.Running.{Running, runner, someone}
use Rattle.machine.specs.declared.Stepped.{Stepped}
use Rattle.machine.specs.State.{with_clock}
use Rattle.machine.specs.NextEvent.{file_of}
use Rattle.machine.specs.Test.{valid, filed, kernel_refusal}
use Rattle.machine.specs.Sorts.{sort_of, declares, needs_runner, given_kind}
use Rattle.machine.specs.Refusals.{declared_in, room_for, formal_refusal, admitted_if, admitted, unreturnable, is_continue, refusal_by, state_refusal}
use Rattle.machine.specs.Calls.{add_task, add_semaphore, add_bolt, add_interrupt, declaration, work_of}
use Rattle.machine.specs.Step.{answered, finish, declared, or_refuse, or_turn_away, carry_out, settle, carry_on, carry, step_read, step}
use Rattle.machine.proofs.Filing.{filed_from}
use Rattle.machine.proofs.Passed.{refusal_of}
use Rattle.lists.specs.Lists.{every}

-- ---- bytes

-- Bytes open as refusal 2 or as a call.
pub opened_cases : (s : List ℕ) (P : Reading → Type 0) → P (refused 2) → ((c : Call) → P (accepted c)) → P (opened s)
unfolding opened
opened_cases s P f g = by_bool (eqb (length s) record_length) (λ e. rw e (go (mark_of (letters s)))) (λ e. rw e f)
  where
    go : (m : Option Mark) → P (with_mark m s)
    go None = f
    go (Some m) = g (call_of m s)

-- ---- numbers

-- A number of a refusal 2 to 15 or 17, or 0.
pub record Late (n : ℕ) : Type 0 where
  pub most : n ≤ 17
  pub no1 : n ≢ 1
  pub no16 : n ≢ 16

late_unless : (b : Bool) (n rest : ℕ) → Late n → Late rest → Late (unless b n rest)
late_unless true n rest p q = q
late_unless false n rest p q = p

late_last : (b : Bool) (n : ℕ) → Late n → Late (unless b n 0)
late_last b n p = late_unless b n 0 p (omega arith)

late_before : (n rest : ℕ) → Late n → Late rest → Late (first_refusal n rest)
late_before zero rest p q = q
late_before (suc n) rest p q = p

late_shape : (c : Call) → Late (shape c)
unfolding shape
late_shape c = late_unless (formed c) 3 _ (omega arith) (late_last (listed (form c.head.mark) c) 4 (omega arith))

late_formal : (day : ℕ) (k : State) (c : Call) → Late (formal_refusal day k.counts k.begun c)
unfolding formal_refusal times
late_formal day k c =
    late_unless (not (k.begun && declares c.head.mark)) 2 _ (omega arith)
    (late_before (shape c) _ (late_shape c)
    (late_unless (declared_in c.head.mark k.counts c) 5 _ (omega arith)
    (late_before _ _ (late_last (timed day (form c.head.mark) c.head) 6 (omega arith))
    (late_last (room_for c.head.mark k.counts) 7 (omega arith)))))

late_unreturnable : (w : Wait) → Late (unreturnable w)
late_unreturnable Nothing = omega arith
late_unreturnable Request = omega arith
late_unreturnable Reserve = omega arith
late_unreturnable Enter = omega arith

late_state : (m : Mark) (c : Call) (r : Running) (t : Task) (l : Locks) (n : Instant) (e : Moment) → Late (refusal_by m c r t l n e)
unfolding refusal_by
late_state m c r t l n e =
    let w = given_kind (sort_of m) in
    late_unless (not (needs_runner (sort_of m)) || someone r) 8 _ (omega arith)
    (late_unless (not (is m AC && eqb c.head.kind 0) || not t.alive) 9 _ (omega arith)
    (late_unless (not (is m TE || is m SU || is_continue m c.head) || t.alive) 10 _ (omega arith)
    (late_unless (not (is m SU) || not (suspended t.hold)) 11 _ (omega arith)
    (late_unless (not (is_continue m c.head) || not (unheld t.hold)) 12 _ (omega arith)
    (late_unless (not (waiting w) || every (returnable w l) (named c)) (unreturnable w) _ (late_unreturnable w)
    (late_unless (not (is m TI) || ltb n.0 last_instant) 15 _ (omega arith)
    (late_last (not (is m SL) || comes_by last_instant e) 17 (omega arith))))))))

pub late_refusal : (day : ℕ) (k : State) (c : Call) → Late (refusal_of day k c)
unfolding refusal_of
late_refusal day k c = late_before _ _ (late_formal day k c) (late_state c.head.mark c _ _ _ _ _)

-- ---- the step

-- What is carried out is a declaration or a call.
pub out_cases : (day : ℕ) (k : State) (c : Call) (P : Stepped → Type 0)
    → (declares c.head.mark ≡ true → P (declared k (declaration c.head.mark c k)))
    → (declares c.head.mark ≡ false → P (finish k (work_of day k c)))
    → P (carry_out day k c)
unfolding carry_out
out_cases day k c P f g = by_bool (declares c.head.mark) (λ e. rw e (f e)) (λ e. rw e (g e))

-- It has number 0.
pub done_number : (day : ℕ) (k : State) (c : Call) → (carry_out day k c).answer.number ≡ 0
unfolding finish declared
done_number day k c = out_cases day k c (λ t. t.answer.number ≡ 0) (λ e. refl) (λ e. refl)

-- What a declaration leaves.
pub declaration_cases : (m : Mark) (c : Call) (k : State) (P : State → Type 0)
    → (m ≡ DT → P (add_task c.head.priority k)) → (m ≡ DS → P (add_semaphore c.head.first k)) → (m ≡ DB → P (add_bolt k))
    → (m ≡ IT → P (add_interrupt k)) → (m ≡ DC → P (with_clock c.head.first k)) → P k → P (declaration m c k)
unfolding declaration
declaration_cases m c k P dt ds db it dc none =
    by_bool (is m DT) (λ e. rw e (dt (is_mark m DT e)))
    (λ e. rw e (by_bool (is m DS) (λ e. rw e (ds (is_mark m DS e)))
    (λ e. rw e (by_bool (is m DB) (λ e. rw e (db (is_mark m DB e)))
    (λ e. rw e (by_bool (is m IT) (λ e. rw e (it (is_mark m IT e)))
    (λ e. rw e (by_bool (is m DC) (λ e. rw e (dc (is_mark m DC e))) (λ e. rw e none)))))))))

-- A call that was read is refused or carried out.
pub carried_by : (day : ℕ) (k : State) (c : Call) → carry_on day k c ≡ or_refuse k (refusal_of day k c) (carry_out day k c)
unfolding carry_on settle refusal_of
carried_by day k c = go (formal_refusal day k.counts k.begun c)
  where
    go : (n : ℕ) → or_refuse k n (or_refuse k (state_refusal c.head.mark k c) (carry_out day k c))
        ≡ or_refuse k (first_refusal n (state_refusal c.head.mark k c)) (carry_out day k c)
    go zero = refl
    go (suc n) = refl

-- The step on bytes that open so.
abbrev pub step_opened : ℕ → State → Read → List ℕ → Stepped
step_opened day k (Err n) l = answered k n (runner k)
step_opened day k (Ok h) l = carry_on day k (call_with h l)

pub read_opened : (day : ℕ) (k : State) (s : List ℕ) → let r = admitted day k.counts k.begun s in
    step_read day k r.answer r.list ≡ step_opened day k (opened s).answer (opened s).list
unfolding admitted_if carry_on
read_opened day k s =
    opened_cases s
    (λ o. let r = admitted_if day k.counts k.begun o.answer o in
    step_read day k r.answer r.list ≡ step_opened day k o.answer o.list)
    refl (λ c. go c (formal_refusal day k.counts k.begun c))
  where
    go : (c : Call) (n : ℕ) → let r = or_refused n (accepted c) in
        step_read day k r.answer r.list ≡ or_refuse k n (settle day k c)
    go c zero = refl
    go c (suc n) = refl

pub step_on : (day : ℕ) (k : State) (s : List ℕ) → kernel_refusal day k ≡ 0 → step day k s ≡ step_opened day k (opened s).answer (opened s).list
unfolding step
step_on day k s e = rw e (read_opened day k s)

-- A kernel is refused with 1, with 16, or with neither.
pub kernel_cases : (day : ℕ) (k : State) (P : ℕ → Type 0)
    → (valid day k ≡ false → P 1) → (valid day k ≡ true → k.file ≢ file_of k → P 16) → (kernel_refusal day k ≡ 0 → P 0)
    → P (kernel_refusal day k)
unfolding kernel_refusal
kernel_cases day k P failed misfiled returnable =
    by_bool (valid day k)
    (λ v. rw v (by_bool (filed k)
    (λ f. rw f (returnable (rw (v, f))))
    (λ f. rw f (misfiled v (λ e. contra (filed_from k e) f)))))
    (λ v. rw v (failed v))

module _ (day : ℕ) (k : State) (P : Stepped → Type 0)
    (failed : valid day k ≡ false → P (answered k 1 None))
    (misfiled : valid day k ≡ true → k.file ≢ file_of k → P (answered k 16 None))
    (turned_away : kernel_refusal day k ≡ 0 → (n : ℕ) → 2 ≤ n → Late n → P (answered k n (runner k)))
    (done : kernel_refusal day k ≡ 0 → (c : Call) → refusal_of day k c ≡ 0 → P (carry_out day k c)) where
  on_cases : kernel_refusal day k ≡ 0 → (c : Call) → P (carry_on day k c)
  on_cases v c = rw (carried_by day k c) (go (refusal_of day k c) refl)
    where
      go : (n : ℕ) → refusal_of day k c ≡ n → P (or_refuse k n (carry_out day k c))
      go zero e = done v c e
      go (suc n) e = let h : Late (suc n) = rw e at (late_refusal day k c) in turned_away v (suc n) (omega arith) h

  pub carry_cases : (c : Call) → P (carry day k c)
  unfolding carry
  carry_cases c = kernel_cases day k (λ n. P (or_turn_away k n (carry_on day k c))) failed misfiled (λ v. on_cases v c)

  pub step_cases : (s : List ℕ) → P (step day k s)
  unfolding step
  step_cases s =
      rw (read_opened day k s)
      (kernel_cases day k (λ n. P (or_turn_away k n (step_opened day k (opened s).answer (opened s).list))) failed misfiled
      (λ v. opened_cases s (λ r. P (step_opened day k r.answer r.list)) (turned_away v 2 (omega arith) (omega arith)) (on_cases v)))
