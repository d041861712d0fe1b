-- What a step does to the wait of each task: it goes on, is granted, ends with its task, or begins.
use Rattle.std.specs.Prelude.{Some}
use mathlib.Core.Path.{◌≡◌, refl, ◌∙◌}
use mathlib.Core.Bool.{true, false, not, ◌&&◌, ◌||◌}
use mathlib.Core.List.{List}
use Prim.Native.Nat.{ℕ, ◌≤◌, ◌<◌}
use native.Mathlib.Omega.{arith}
use lib.Dec.{ltb}
use lib.ListN.{length, get_or-eq_default}
use lib.Seq.{get_or-set_same, get_or-set_other, set_out}
use borrow.Author.Tests.{ltb-true, ltb-false}
use Rattle.layout.specs.Fields.{Octets}
use Rattle.layout.specs.Marks.{is}
use Rattle.layout.specs.declared.Call.{Call}
use Rattle.layout.specs.declared.Mark.{Mark}
use Rattle.layout.specs.declared.Mark.TheVariants.{RQ}
use Rattle.layout.proofs.MarksLaws.{all_marks, every_mark}
use Rattle.lists.specs.Lists.{names}
use Rattle.record.specs.Reading.{accepted, opened}
use Rattle.lock.specs.Locks.{waiting, same_kind}
use Rattle.lock.specs.declared.Wait.TheVariants.{Request}
use Rattle.facts.proofs.Bools.{by_bool, contra, both, or_then}
use Rattle.lock.proofs.Levels.{same_kind_law}
use Rattle.task.specs.State.{no_task, wanted}
use Rattle.task.specs.declared.Task.{Task}
use Rattle.machine.specs.Sets.{Ended, holds}
use Rattle.machine.specs.State.{task_at, fresh_task}
use Rattle.machine.specs.Sorts.{sort_of, asked_kind, staying}
use Rattle.machine.specs.Running.{runner}
use Rattle.machine.specs.Work.{Work}
use Rattle.machine.specs.Calls.{add_task, add_semaphore, add_bolt, add_interrupt, declaration, work_of}
use Rattle.machine.specs.Step.{finish, declared, step}
use Rattle.machine.specs.OnePass.{unserved}
use Rattle.machine.specs.Turns.{waits_in}
use Rattle.machine.specs.Invariants.{IsDay, Passes}
use Rattle.machine.specs.declared.State.{State}
use Rattle.machine.specs.declared.Stepped.{Stepped}
use Rattle.machine.proofs.SetLaws.{has_empty}
use Rattle.machine.proofs.Facts.{ok_of_passes}
use Rattle.machine.proofs.Cases.{declaration_cases}
use Rattle.machine.proofs.Refused.{refused_untouched}
use Rattle.machine.proofs.Done.{role}
use Rattle.wait_bound.specs.Queue.{queues}
use Rattle.wait_bound.specs.Waiting.{call_on}
use Rattle.wait_bound.proofs.Shapes.{Shape, refuses, declares_one, carries_out, shape}
use Rattle.wait_bound.proofs.Works.{SameWait, Waited, work_waited}
use Rattle.wait_bound.proofs.Served.{served_part}

-- Task i, the running one, issued an accepted REQUEST that names s.
pub record Newcomer (k : State) (b : List ℕ) (z : Stepped) (s i : ℕ) : Type 0 where
  pub runs : runner k ≡ Some i
  pub number : z.answer.number ≡ 0
  pub call : call_on RQ s (opened b).answer (opened b).list ≡ true

-- Task i, declared in k, in the step z from k on the bytes b.
pub record Stays (k : State) (b : List ℕ) (z : Stepped) (i : ℕ) : Type 0 where
  pub goes_on_law : waits_in k i ≡ true → holds i z.answer.sets.ended ≡ false → holds i z.answer.sets.granted ≡ false → waits_in z.state i ≡ true
  pub same : waits_in k i ≡ true → waits_in z.state i ≡ true → SameWait (task_at k.tasks i) (task_at z.state.tasks i) × (holds i z.answer.sets.ended ≡ false)
  pub begins : waits_in k i ≡ false → (s : ℕ) → queues s (task_at z.state.tasks i) ≡ true
      → Newcomer k b z s i × ((task_at z.state.tasks i).current ≡ (task_at k.tasks i).current)

-- Who queues waits.
pub queues_waits : (s : ℕ) (t : Task) → queues s t ≡ true → waiting t.wait ≡ true
queues_waits s t e = let q = same_kind_law t.wait Request (both _ (names (wanted t) s) e).0 in rw q

-- A REQUEST is the one call that asks for semaphores and stays.
request_mark : (m : Mark) → asked_kind (sort_of m) ≡ Request → staying (sort_of m) ≡ true → is m RQ ≡ true
unfolding all_marks
request_mark m a b =
    or_then (same_kind (asked_kind (sort_of m)) Request && staying (sort_of m)) (is m RQ) (every_mark (λ x. not (same_kind (asked_kind (sort_of x)) Request && staying (sort_of x)) || is x RQ) refl refl m) (rw (a, b))

-- ---- each shape

-- Nothing happens to task i.
rests : (k : State) (b : List ℕ) (z : Stepped) (i : ℕ) → task_at z.state.tasks i ≡ task_at k.tasks i → z.answer.sets.ended ≡ 0 → Stays k b z i
rests k b z i t e =
    record {
      goes_on_law = λ w n g. rw t w;
      same = λ w v. (rw t (record { kind = refl; list = refl }), rw (e, has_empty i));
      begins = λ w s q. contra (rw t at (queues_waits s (task_at z.state.tasks i) q)) w;
    }

pub declared_task : (k : State) (m : Mark) (c : Call) (i : ℕ) → i < k.counts.tasks → task_at (declaration m c k).tasks i ≡ task_at k.tasks i
unfolding add_task add_semaphore add_bolt add_interrupt
declared_task k m c i l =
    declaration_cases m c k (λ d. task_at d.tasks i ≡ task_at k.tasks i)
    (λ e. get_or-set_other k.tasks k.counts.tasks i (fresh_task c.head.priority) no_task (λ z. omega arith))
    (λ e. refl) (λ e. refl) (λ e. refl) (λ e. refl) refl

-- A task that was just declared doesn't wait.
added_rests : (k : State) (m : Mark) (c : Call) (i : ℕ) → k.counts.tasks ≤ i → i < (declaration m c k).counts.tasks → waits_in (declaration m c k) i ≡ false
unfolding add_task add_semaphore add_bolt add_interrupt fresh_task
added_rests k m c i =
    declaration_cases m c k (λ d. k.counts.tasks ≤ i → i < d.counts.tasks → waits_in d i ≡ false)
    (λ e a l.
    let q : i ≡ k.counts.tasks = omega arith in
    by_bool (ltb i (length k.tasks)) (λ r. rw (← q, get_or-set_same k.tasks i (fresh_task c.head.priority) no_task (ltb-true i _ r)))
    (λ r. rw (← q, set_out k.tasks i (fresh_task c.head.priority) (ltb-false i _ r), get_or-eq_default k.tasks no_task (ltb-false i _ r))))
    (λ e a l. absurd (omega arith)) (λ e a l. absurd (omega arith)) (λ e a l. absurd (omega arith)) (λ e a l. absurd (omega arith)) (λ a l. absurd (omega arith))

module _ (day : ℕ) (k : State) (b : List ℕ) (c : Call) (opens : opened b ≡ accepted c) (i : ℕ) where
  called : (w : Work) → Waited k c (role c.head.mark) i (holds i w.sets.ended) (task_at w.tasks i) → Stays k b (finish k w) i
  unfolding finish
  called w h =
      let n = k.counts.tasks in
      let p = served_part n k.places (unserved w) i n in
      record {
        goes_on_law = λ a e g. by_bool (waits_in (finish k w).state i) (λ v. v) (λ v. contra (p.marked (h.goes_on_law a e) v) g);
        same = λ a v. let t = p.same v in
            let q = h.same a (rw t at v) in
            (record { kind = rw t q.0.kind; list = rw t q.0.list }, q.1);
        begins = λ a s q.
            let t = p.same (queues_waits s (task_at (finish k w).state.tasks i) q) in
            let r = both (same_kind (task_at w.tasks i).wait Request) (names (wanted (task_at w.tasks i)) s) (rw t at q) in
            let g = h.begins a (queues_waits s (task_at w.tasks i) (rw t at q)) in
            let m = request_mark c.head.mark (g.kind ∙ same_kind_law (task_at w.tasks i).wait Request r.0) g.stays in
            (record { runs = g.runs; number = refl; call = rw (opens, m) (rw g.list at r.1) }, rw t g.current);
      }

module _ (day : ℕ) (is_day : IsDay day) (k : State) (p : Passes day k) (b : List ℕ) (o : Octets b) where
  pub stays : (i : ℕ) → i < k.counts.tasks → Stays k b (step day k b) i
  stays i l = go (shape day is_day k p b o)
    where
      go : Shape day k b → Stays k b (step day k b) i
      go (refuses ne) = let u = refused_untouched day k b ne in rests k b (step day k b) i (rw u.state) (u.sets Ended)
      go (declares_one c q d e) = rw e (unfold declared in rests k b _ i (declared_task k c.head.mark c i l) refl)
      go (carries_out c q did e) = rw e (called day k b c q i (work_of day k c) (work_waited day k (ok_of_passes day k p) c did i l))

  pub new_rests : (i : ℕ) → k.counts.tasks ≤ i → i < (step day k b).state.counts.tasks → waits_in (step day k b).state i ≡ false
  new_rests i = go (shape day is_day k p b o)
    where
      go : Shape day k b → k.counts.tasks ≤ i → i < (step day k b).state.counts.tasks → waits_in (step day k b).state i ≡ false
      go (refuses ne) = let u = refused_untouched day k b ne in rw u.state (λ a l. absurd (omega arith))
      go (declares_one c q d e) = rw e (unfold declared in added_rests k c.head.mark c i)
      go (carries_out c q did e) = rw e (unfold finish in λ a l. absurd (omega arith))
