-- A change of the task that a call is about: what it comes to, and that the waits stay in order.
use Rattle.std.specs.Prelude.{None, Some}
use mathlib.Core.Path.{◌≡◌, refl, sym, ap, ◌∙◌}
use mathlib.Core.Bool.{Bool, true, false, not, ◌||◌}
use mathlib.Core.List.{List}
use Prim.Native.Nat.{ℕ, ◌^◌, ◌<◌}
use lib.Bits.{or_zero_l}
use lib.Dec.{ltb}
use lib.ListN.{set}
use borrow.Author.Tests.{ltb-true}
use Rattle.layout.specs.declared.Call.{Call}
use Rattle.layout.specs.declared.Head.{Head}
use Rattle.layout.specs.declared.Mark.{Mark}
use Rattle.record.specs.Reading.{call_with}
use Rattle.record.specs.Refusals.{named}
use Rattle.lock.specs.declared.Wait.{Wait}
use Rattle.lock.specs.Locks.{waiting, returnable}
use Rattle.lock.specs.declared.Locks.{Locks}
use Rattle.facts.proofs.Bools.{by_bool, contra, both, or_then}
use Rattle.task.specs.declared.Task.{Task}
use Rattle.task.proofs.Waits.{NoNewWait}
use Rattle.task.specs.declared.Marks.{Marks}
use Rattle.machine.specs.declared.Change.{Change}
use Rattle.machine.specs.declared.State.{State}
use Rattle.machine.specs.Running.{Running, runner, someone}
use Rattle.machine.specs.declared.Sort.{Sort}
use Rattle.machine.specs.declared.Sort.TheVariants.{Declaration, OneTask, TheRunner, ListAsked, ListGiven, AnInterrupt, EveryTask}
use Rattle.machine.specs.State.{task_at, with_state}
use Rattle.machine.specs.Granting.{could_be_granted}
use Rattle.machine.specs.Sorts.{sort_of, declaring, declares, needs_runner, task_of, runner_at}
use Rattle.machine.specs.Work.{changed}
use Rattle.machine.specs.Refusals.{declared_by, formal_refusal, state_refusal}
use Rattle.machine.specs.Calls.{ask_for, change_of, change_in, work_by}
use Rattle.machine.specs.Step.{finish, settle}
use Rattle.machine.specs.Test.{wait_ok, valid}
use Rattle.machine.proofs.Urgency.{Below, runner_below}
use Rattle.machine.proofs.Passed.{unrefused}
use Rattle.machine.proofs.Sorts.{given_waits}
use Rattle.machine.proofs.WorkPairs.{no_wait_named, no_wait_runner}
use Rattle.machine.specs.Sets.{only, mark, no_sets, only_in}
use Rattle.machine.specs.declared.Sets.{Sets}
use Rattle.machine.proofs.SetLaws.{members_each, each_same}
use Rattle.kernel_sets.specs.Puts.{put_if, put_marks}
use Rattle.kernel_test.specs.Looks.{waits_ok}
use Rattle.kernel_finish.specs.Ends.{as_before, work_here, next_filed}
use Rattle.kernel_finish.proofs.EndLaws.{next_of_work}
use Rattle.machine.specs.NextEvent.{next_among}
use Rattle.calendar.specs.Moments.{Moment}
use Rattle.kernel_test.proofs.AskLaws.{wait_begins}
use Rattle.kernel_test.proofs.SoundLaws.{wait_stays, wait_at, waits_changed, sound}
use Rattle.kernel_values.specs.Sorts.{about_one}
use Rattle.kernel_changes.specs.Inner.{Returnable}
use Rattle.kernel_changes.proofs.CallLaws.{past, named_once, settled_call}
use Rattle.lists.specs.Lists.{every}

-- ---- the first task in the sets

put_first_if : (i : ℕ) (b : Bool) → put_if i b 0 ≡ only i b
put_first_if i true = or_zero_l (2 ^ i)
put_first_if i false = refl

put_first : (i : ℕ) (m : Marks) → put_marks i m no_sets ≡ only_in i m
put_first i m =
    each_same _ _ (λ x. ap (put_if i (mark x m)) (members_each x (λ y. 0)) ∙ put_first_if i (mark x m))

-- ---- sorts

-- What is about one task isn't a declaration.
undeclaring : (s : Sort) → about_one s ≡ true → declaring s ≡ false
undeclaring Declaration e = contra e refl
undeclaring OneTask e = refl
undeclaring TheRunner e = refl
undeclaring (ListAsked w b) e = refl
undeclaring (ListGiven w) e = refl
undeclaring AnInterrupt e = refl
undeclaring EveryTask e = refl

abbrev pub with_change : State → ℕ → Change → State
with_change k i d = with_state (set k.tasks i d.task) d.locks k.enabled k

module _ (day : ℕ) (k : State) (h : Head) (l : List ℕ) (v : valid day k ≡ true) (f : formal_refusal day k.counts k.begun (call_with h l) ≡ 0)
    (z : state_refusal h.mark k (call_with h l) ≡ 0) where
  abbrev call : Call
  call = call_with h l

  abbrev does : Sort → ℕ → Change
  does s i = change_of k.counts.tasks k.tasks day s call k.clock k.now (task_at k.tasks i) k.locks

  pub can_give_back : {s : Sort} → s ≡ sort_of h.mark → Returnable s k.locks call
  can_give_back q = rw q (unrefused h.mark call (runner k) _ k.locks k.now _ z).returnable

  -- ---- the waits stay in order

  abbrev Waits : Task → Type 0
  Waits t = wait_ok k.counts t ≡ true

  stays : (i : ℕ) → i < k.counts.tasks → (t : Task) → NoNewWait (task_at k.tasks i) t → Waits t
  stays i b t n = wait_stays k.counts (task_at k.tasks i) t n (wait_at k (sound day k v).waits i b)

  asks_kept : (w : Wait) (b : Bool) → sort_of h.mark ≡ ListAsked w b → (i : ℕ) → i < k.counts.tasks
      → Waits (ask_for k.counts.tasks k.tasks w b call (task_at k.tasks i) k.locks).task
  unfolding ask_for declared_by
  asks_kept w b q i a =
      let was = wait_at k (sound day k v).waits i a in
      let o = named_once day k h l f (rw q) in
      by_bool (could_be_granted k.counts.tasks k.tasks k.locks (task_at k.tasks i).current w (named call)) (λ g. rw g was)
      (λ g. rw g (by_bool b
      (λ e. rw e (wait_begins k.counts w call (task_at k.tasks i) o.0 o.1 o.2 (rw q at (past day k h l f).known)))
      (λ e. rw e was)))

  at_runner : (P : ℕ → Type 0) → ((i : ℕ) → i < k.counts.tasks → P i) → someone (runner k) ≡ true → P (runner_at (runner k))
  at_runner P g = go (runner k) (runner_below k)
    where
      go : (r : Running) → Below k.counts.tasks r → someone r ≡ true → P (runner_at r)
      go None b e = contra e refl
      go (Some i) b e = g i b

  waits_kept : (s : Sort) → sort_of h.mark ≡ s → about_one s ≡ true → (not (needs_runner s) || someone (runner k)) ≡ true
      → Waits (does s (task_of s h (runner k))).task
  unfolding change_of declared_by
  waits_kept Declaration q a e = contra a refl
  waits_kept OneTask q a e =
      stays h.number (ltb-true _ _ (both (ltb h.number k.counts.tasks) _ (rw q at (past day k h l f).known)).0) (does OneTask h.number).task
      (no_wait_named day k.clock k.now h.mark h (task_at k.tasks h.number))
  waits_kept TheRunner q a e = at_runner (λ i. Waits (does TheRunner i).task) (λ i b. stays i b (does TheRunner i).task (no_wait_runner day k.clock k.now h.mark h (task_at k.tasks i))) e
  waits_kept (ListAsked w b) q a e = at_runner (λ i. Waits (does (ListAsked w b) i).task) (asks_kept w b q) e
  waits_kept (ListGiven w) q a e = at_runner (λ i. Waits (does (ListGiven w) i).task) (λ i b. stays i b (does (ListGiven w) i).task (λ x. (refl, refl, refl))) e
  waits_kept AnInterrupt q a e = contra a refl
  waits_kept EveryTask q a e = contra a refl

  -- ---- what it comes to: i is whom it is about, d what was done

  work_one : (s : Sort) → about_one s ≡ true → change_in day s k call ≡ work_by day s k call
  unfolding work_by
  work_one Declaration e = contra e refl
  work_one OneTask e = refl
  work_one TheRunner e = refl
  work_one (ListAsked w b) e = refl
  work_one (ListGiven w) e = refl
  work_one AnInterrupt e = contra e refl
  work_one EveryTask e = contra e refl

  module _ {s : Sort} (q : s ≡ sort_of h.mark) (a : about_one s ≡ true) {i : ℕ} (e : i ≡ task_of s h (runner k)) {d : Change} (g : d ≡ does s i) where
    done : d ≡ does s (task_of s h (runner k))
    done = g ∙ ap (does s) e

    pub change_waits : waits_ok (with_change k i d) ≡ true
    change_waits =
        waits_changed k (sound day k v).waits i d.task d.locks
        (rw done (waits_kept s (sym q) a (rw q (unrefused h.mark call (runner k) _ k.locks k.now _ z).runs)))

    finish_change : finish (as_before k.tasks (with_change k i d)) (work_here (with_change k i d) (only_in i d.marks)) ≡ finish k (changed k i d)
    unfolding finish changed
    finish_change = refl

    called : declares h.mark ≡ false
    unfolding declares
    called = ap declaring (sym q) ∙ undeclaring s a

    pub change_done : {e : Sets} → e ≡ no_sets → {s : Sets} → s ≡ put_marks i d.marks e
        → {next : Moment} → next ≡ next_among k.now k.counts.tasks (set k.tasks i d.task)
        → next_filed next (finish (as_before k.tasks (with_change k i d)) (work_here (with_change k i d) s)) ≡ settle day k call
    change_done n m o =
        next_of_work (as_before k.tasks (with_change k i d)) (work_here (with_change k i d) _) o
        ∙ ap (λ x. finish (as_before k.tasks (with_change k i d)) (work_here (with_change k i d) x)) (m ∙ ap (put_marks i d.marks) n ∙ put_first i d.marks) ∙ finish_change
        ∙ ap (λ x. finish k (changed k x d)) e ∙ ap (λ x. finish k (changed k (task_of s h (runner k)) x)) done
        ∙ ap (finish k) (work_one s a) ∙ settled_call day k h l called z q
