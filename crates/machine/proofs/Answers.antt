-- The running task of every answer is that of the kernel handed back.
use mathlib.Core.Path.{◌≡◌, refl, sym}
use mathlib.Core.Bool.{true, false}
use mathlib.Core.List.{List, ◌++◌}
use Prim.Native.Nat.{ℕ, ◌≤◌, ◌<◌}
use native.Mathlib.Numerals.{add-one}
use native.Mathlib.Omega.{arith}
use lib.Dec.{ltb}
use lib.ListN.{length, set, get_or-eq_default}
use lib.Seq.{get_or-set_same, get_or-set_other, set_out}
use borrow.Author.Tests.{ltb-true, ltb-false}
use Rattle.layout.specs.declared.Mark.{Mark}
use Rattle.layout.specs.declared.Call.{Call}
use Rattle.calendar.specs.Moments.{first_after, Moment}
use Rattle.calendar.specs.declared.Instant.{Instant}
use Rattle.facts.proofs.Bools.{by_bool, contra, by_eq}
use Rattle.task.specs.Coming.{pendings}
use Rattle.task.specs.State.{no_task, runnable}
use Rattle.task.specs.declared.Task.{Task}
use Rattle.machine.specs.declared.State.{State}
use Rattle.machine.specs.declared.Stepped.{Stepped}
use Rattle.machine.specs.State.{most_tasks, task_at, fresh_task, place_at}
use Rattle.machine.specs.Running.{urgency, most_urgent, running_of, runner, most_places}
use Rattle.machine.specs.NextEvent.{all_pending, next_among, next_event, file_of}
use Rattle.machine.specs.Test.{valid, kernel_refusal}
use Rattle.machine.specs.Refusals.{room_for}
use Rattle.machine.specs.Calls.{add_task, add_semaphore, add_bolt, add_interrupt, declaration}
use Rattle.machine.specs.Work.{Work}
use Rattle.machine.specs.Step.{answered, finish, declared, carry_out, step}
use Rattle.machine.specs.Promises.{AnswersRunner, AnswersFirst, AreBytes}
use Rattle.machine.proofs.Urgency.{runner_first, scan_same}
use Rattle.machine.proofs.NextEvent.{pending_same}
use Rattle.machine.proofs.Passed.{passed, room_task, tested, parts}
use Rattle.machine.proofs.Cases.{out_cases, declaration_cases, step_cases}
use Rattle.machine.proofs.Filing.{taken_valid, taken_filed}
use Rattle.machine.proofs.Places.{apart_of, moved_below_law}

-- A task that was just declared isn't runnable, nor is one beyond the table.
fresh_rests : (ts : List Task) (n p : ℕ) → runnable (task_at (set ts n (fresh_task p)) n) ≡ false
unfolding fresh_task
fresh_rests ts n p =
    by_bool (ltb n (length ts)) (λ e. rw (get_or-set_same ts n _ no_task (ltb-true n (length ts) e)))
    (λ e. let l = ltb-false n (length ts) e in rw (set_out ts n _ l, get_or-eq_default ts no_task l))

pub runner_added : (k : State) (p : ℕ) → runner (add_task p k) ≡ runner k
unfolding add_task running_of most_urgent urgency
runner_added k p =
    let n = k.counts.tasks in
    rw (add-one, fresh_rests k.tasks n p)
    (scan_same n _ _ _ _ (λ i l. rw (get_or-set_other k.tasks n i (fresh_task p) no_task (λ q. omega arith)))
    (λ i l. rw (get_or-set_other k.tasks n i (fresh_task p) no_task (λ q. omega arith), get_or-set_other k.places n i n 0 (λ q. omega arith))))

-- Nothing pends for a task that was just declared.
fresh_pends : (x : Instant) (ts : List Task) (n p : ℕ) → (ms : List Moment) → first_after x (pendings (task_at (set ts n (fresh_task p)) n) ++ ms) ≡ first_after x ms
unfolding fresh_task first_after
fresh_pends x ts n p ms =
    by_bool (ltb n (length ts)) (λ e. rw (get_or-set_same ts n _ no_task (ltb-true n (length ts) e)))
    (λ e. let l = ltb-false n (length ts) e in rw (set_out ts n _ l, get_or-eq_default ts no_task l))

next_added : (k : State) (p : ℕ) → next_event (add_task p k) ≡ next_event k
unfolding add_task next_among all_pending
next_added k p =
    let n = k.counts.tasks in
    rw (
      add-one,
      fresh_pends k.now k.tasks n p (all_pending n (set k.tasks n (fresh_task p))),
      pending_same (set k.tasks n (fresh_task p)) k.tasks n (λ i l. get_or-set_other k.tasks n i (fresh_task p) no_task (λ q. omega arith)),
    )

pub file_added : (k : State) (p : ℕ) → file_of (add_task p k) ≡ file_of k
file_added k p = let r = runner_added k p in let n = next_added k p in λ i. record { running = r i; next = n i }

-- An answer's running task, and the places.
record Right (s : Stepped) : Type 0 where
  runs : s.answer.running ≡ runner s.state
  bytes : AreBytes s.state.counts.tasks s.state.places

module _ (day : ℕ) (k : State) (l : k.counts.tasks ≤ most_tasks) (b : AreBytes k.counts.tasks k.places) where
  right_finish : (w : Work) → Right (finish k w)
  unfolding finish
  right_finish w = record { runs = refl; bytes = λ i h. moved_below_law k.counts.tasks most_places _ k.counts.tasks k.places (omega arith) i (b i h) }

  right_refuse : (n : ℕ) → Right (answered k n (runner k))
  unfolding answered
  right_refuse n = record { runs = refl; bytes = b }

  right_declared : (d : State) → runner d ≡ runner k → AreBytes d.counts.tasks d.places → Right (declared k d)
  unfolding declared
  right_declared d e m = record { runs = sym e; bytes = m }

  added_byte : {i : ℕ} → k.counts.tasks < most_tasks → i ≡ k.counts.tasks → place_at (set k.places k.counts.tasks k.counts.tasks) i < most_places
  added_byte {i} r z =
      let n = k.counts.tasks in
      by_bool (ltb n (length k.places)) (λ e. rw (z, get_or-set_same k.places n n 0 (ltb-true _ _ e)) (omega arith))
      (λ e. rw (z, set_out k.places n n (ltb-false _ _ e), get_or-eq_default k.places 0 (ltb-false _ _ e)) (omega arith))

  right_declaration : (m : Mark) (c : Call) → room_for m k.counts ≡ true → Right (declared k (declaration m c k))
  right_declaration m c r =
      declaration_cases m c k (λ d. Right (declared k d))
      (λ e. right_declared _ (runner_added k _) (unfold add_task in λ i h. by_eq i k.counts.tasks (λ z. added_byte (room_task k.counts (rw e at r)) z) (λ z. rw (get_or-set_other k.places k.counts.tasks i _ 0 z) (b i (omega arith)))))
      (λ e. right_declared _ (unfold add_semaphore in refl) (unfold add_semaphore in b))
      (λ e. right_declared _ (unfold add_bolt in refl) (unfold add_bolt in b))
      (λ e. right_declared _ (unfold add_interrupt in refl) (unfold add_interrupt in b))
      (λ e. right_declared _ refl b) (right_declared k refl b)

  right_out : (c : Call) → room_for c.head.mark k.counts ≡ true → Right (carry_out day k c)
  right_out c r = out_cases day k c Right (λ e. right_declaration c.head.mark c r) (λ e. right_finish _)

-- The places of a kernel that passes the kernel test.
pub tested_bytes : (day : ℕ) (k : State) → valid day k ≡ true → AreBytes k.counts.tasks k.places
tested_bytes day k v i h =
    let l = (tested day k v).fits.tasks in
    let z = (apart_of _ _ (parts day k v).places).range i h in omega arith

right_step : (day : ℕ) (k : State) (s : List ℕ) → kernel_refusal day k ≡ 0 → Right (step day k s)
right_step day k s t =
    let v = taken_valid day k t in
    let l = (tested day k v).fits.tasks in
    let b = tested_bytes day k v in
    step_cases day k Right (λ e. contra v e) (λ e m. absurd (m (taken_filed day k t))) (λ e n p q. right_refuse day k l b n)
    (λ e c r. right_out day k l b c (passed day k c r).formal.room) s

pub answers_runner : AnswersRunner
answers_runner day k s v = (right_step day k s v).runs

pub answers_first : AnswersFirst
answers_first day k s v = let r = right_step day k s v in rw r.runs (runner_first (step day k s).state r.bytes)
