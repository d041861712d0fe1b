-- What each accepted call does, in the few shapes that there are.
use Rattle.std.specs.Prelude.{None, Some}
use mathlib.Core.Path.{◌≡◌, refl, sym, ap, ◌∙◌}
use mathlib.Core.Bool.{Bool, true, false, not, ◌&&◌, ◌||◌, or-true, or-false}
use mathlib.Core.List.{List}
use Prim.Native.Nat.{ℕ, ◌^◌, ◌≤◌, ◌<◌}
use native.Mathlib.Omega.{arith}
use lib.Dec.{ltb}
use lib.ListN.{length, length-set}
use borrow.Author.Tests.{ltb-true, not-true}
use Rattle.calendar.specs.Limits.{last_instant}
use Rattle.calendar.specs.Moments.{comes_by}
use Rattle.calendar.specs.declared.Instant.{Instant}
use Rattle.layout.specs.Marks.{is, form}
use Rattle.record.specs.Refusals.{uses, clean_names, clean_start, ranged, start_formed, formed_as, named, timed}
use Rattle.layout.specs.declared.Mark.{Mark}
use Rattle.layout.specs.declared.Mark.TheVariants.{AC, TE, SU, PR, CO, RE, TG, TI, SL}
use Rattle.layout.specs.declared.Form.{Form}
use Rattle.layout.specs.declared.Form.TheVariants.{Activation, Continuation, Resumption}
use Rattle.layout.proofs.MarksLaws.{is_mark}
use Rattle.layout.specs.declared.Call.{Call}
use Rattle.lock.specs.Locks.{waiting, returnable, all_free, take_all, give_all}
use Rattle.lock.specs.declared.Wait.{Wait}
use Rattle.lock.specs.declared.Wait.TheVariants.{Nothing}
use Rattle.facts.proofs.Bools.{by_bool, contra, both, or_then}
use Rattle.task.specs.State.{unheld, runnable, wait_for}
use Rattle.task.specs.Turns.{unmarked}
use Rattle.task.specs.declared.Task.{Task}
use Rattle.task.specs.declared.Turn.{Turn}
use Rattle.machine.specs.declared.State.{State}
use Rattle.machine.specs.Running.{Running, running_of, runner, someone}
use Rattle.machine.specs.declared.Sort.{Sort}
use Rattle.machine.specs.declared.Sort.TheVariants.{Declaration, OneTask, TheRunner, ListAsked, ListGiven, AnInterrupt, EveryTask}
use Rattle.machine.specs.State.{task_at, enabled_at, count_of}
use Rattle.machine.specs.Granting.{could_be_granted}
use Rattle.machine.specs.Sorts.{sort_of, declaring, declares, asked_kind, staying, given_kind, naming, runner_at}
use Rattle.machine.specs.Work.{Work, by_turn, changed, every_turn}
use Rattle.machine.specs.Refusals.{start_declared, declared_by, is_continue}
use Rattle.machine.specs.NextEvent.{next_event}
use Rattle.machine.specs.Calls.{named_turn, runner_turn, ask_for, change_of, trigger_in, interrupt_by, arrive, arrival, work_by, work_of}
use Rattle.machine.specs.Invariants.{IsDay}
use Rattle.machine.proofs.Below.{most_urgent_at}
use Rattle.machine.proofs.Facts.{Listed, TaskOk, StateOk}
use Rattle.machine.proofs.Turns.{Good, good_end, good_prevent, good_suspend, good_tick, good_trigger, good_activate, good_go_on, good_resume_by}
use Rattle.machine.proofs.Passed.{Formal, formal_as, Passed, unrefused}
use Rattle.machine.proofs.NextEvent.{instant_by}
use Rattle.machine.proofs.Sorts.{listing, other_mark, asked_waits, given_waits, continue_mark, tick_mark, list_mark, list_shape}
use Rattle.machine.proofs.Works.{one_turn, only_locks, locks_alone, enabled_alone}
use Rattle.machine.proofs.Granting.{could_free}
use Rattle.lists.specs.Lists.{every}

-- What a mark asks for, whether it waits for that, what it gives back, whether it prevents.
pub record Role : Type 0 where
  pub asks : Wait
  pub stays : Bool
  pub gives : Wait
  pub prevents : Bool

abbrev pub role_of : Sort → Bool → Role
role_of s p = record { asks = asked_kind s; stays = staying s; gives = given_kind s; prevents = p }

abbrev pub role : Mark → Role
role m = role_of (sort_of m) (is m PR)

abbrev pub asking : Wait → Bool → Role
asking w s = record { asks = w; stays = s; gives = Nothing; prevents = false }

abbrev pub plain_role : Bool → Role
plain_role p = record { asks = Nothing; stays = true; gives = Nothing; prevents = p }

abbrev pub giving : Wait → Role
giving w = record { asks = Nothing; stays = true; gives = w; prevents = false }

-- TI and SL arrive in time.
pub in_time : (k : State) (m : Mark) → sort_of m ≡ EveryTask → (not (is m TI) || ltb k.now.0 last_instant) ≡ true
    → (not (is m SL) || comes_by last_instant (next_event k)) ≡ true → (arrival m k).0 ≤ last_instant
unfolding arrival
in_time k m q goes wakes =
    by_bool (is m SL) (λ e. rw e (instant_by last_instant k.now (next_event k) (or_then (is m SL) _ wakes e)))
    (λ e. let t : is m TI ≡ true = rw (e, or-false) at (tick_mark m q) in
    let l = ltb-true k.now.0 last_instant (or_then (is m TI) _ goes t) in
    rw e (omega arith))

module _ (day : ℕ) (k : State) (c : Call) where
  abbrev pub Lists : Wait → Type 0
  Lists w = Listed k.counts w c.head.len (named c)

  pub data Did : Role → Work → Type 0 where
    -- one task has its turn
    turned : (p : Bool) (i : ℕ) (u : Turn) → i < k.counts.tasks → (p ≡ true → c.head.number ≡ i)
        → Good day k.counts p (task_at k.tasks i) u → Did (plain_role p) (one_turn k i u)
    -- every task has its turn
    everyone : (n : Instant) (f : Task → Turn) → n.0 ≤ last_instant
        → ((i : ℕ) → i < k.counts.tasks → Good day k.counts false (task_at k.tasks i) (f (task_at k.tasks i)))
        → Did (plain_role false) (every_turn k n f)
    -- no task has a turn and no lock changes
    quiet : (es : List Bool) → length es ≡ length k.enabled → Did (plain_role false) (only_locks k k.locks es 0)
    -- a list is given back
    gave : (w : Wait) → Lists w → every (returnable w k.locks) (named c) ≡ true
        → Did (giving w) (only_locks k (give_all w k.locks (named c)) k.enabled 0)
    -- the runner's list is granted
    got : (w : Wait) (s : Bool) (i : ℕ) → waiting w ≡ true → runner k ≡ Some i → Lists w → all_free w k.locks (named c) ≡ true
        → Did (asking w s) (only_locks k (take_all w k.locks (named c)) k.enabled (2 ^ i))
    -- the runner waits for its list
    waits : (w : Wait) (i : ℕ) → waiting w ≡ true → runner k ≡ Some i → Lists w
        → Did (asking w true) (one_turn k i (unmarked (wait_for w c.head.len c.list (task_at k.tasks i))))
    -- the runner tried its list and does not wait
    tried : (w : Wait) (i : ℕ) → waiting w ≡ true → runner k ≡ Some i → Did (asking w false) (only_locks k k.locks k.enabled 0)

-- The running task.
pub runs : (k : State) (i : ℕ) → runner k ≡ Some i → (i < k.counts.tasks) × ((task_at k.tasks i).alive ≡ true) × (waiting (task_at k.tasks i).wait ≡ false)
unfolding running_of
runs k i e =
    let u = most_urgent_at k.counts.tasks (λ (i : ℕ). runnable (task_at k.tasks i)) _ i e in
    let a = both ((task_at k.tasks i).alive && unheld (task_at k.tasks i).hold) _ u.1 in
    let b = both (task_at k.tasks i).alive _ a.0 in
    (u.0, b.0, not-true _ a.1)

module _ (day : ℕ) (is_day : IsDay day) (k : State) (h : StateOk day k) (c : Call) (byte : c.head.priority ≤ 255) where
  abbrev Does : Role → Work → Type 0
  Does r w = Did day k c r w

  abbrev m : Mark
  m = c.head.mark

  does_turn : (i : ℕ) (u : Turn) → i < k.counts.tasks → Good day k.counts false (task_at k.tasks i) u → Does (plain_role false) (one_turn k i u)
  does_turn i u l g = turned false i u l (λ e. contra e refl) g

  -- What a form doesn't use of a start is zero.
  clean : (f : Form) → formed_as f c ≡ true → clean_start (uses f c.head) c.head ≡ true
  clean f e =
      let u = uses f c.head in
      (both (clean_start u c.head) (ranged f c.head) (both (clean_names u c) (clean_start u c.head && ranged f c.head) e).1).0

  -- ---- a task that is named

  good_named : (t : Task) → TaskOk day k.counts t → Formal day m k.counts k.begun c → start_declared k.counts c.head ≡ true
      → (not (is m TE || is m SU || is_continue m c.head) || t.alive) ≡ true → sort_of m ≡ OneTask
      → Good day k.counts (is m PR) t (named_turn day k.clock k.now m c.head t)
  unfolding named_turn uses timed
  good_named t o p s a one =
      let unprevented : (x : Mark) → is x PR ≡ false → is m x ≡ true → is m PR ≡ false = λ x z e. ap (λ (y : Mark). is y PR) (is_mark m x e) ∙ z in
      by_bool (is m AC)
      (λ ac. let q = formal_as (is_mark m AC ac) p in
      let f = both (clean_names (uses Activation c.head) c) (start_formed c.head) q.formed in
      rw (ac, unprevented AC refl ac) (good_activate day k.counts is_day k.clock k.now h.now_ok c.head t byte f.1 q.timed s o))
      (λ ac. rw ac (by_bool (is m TE)
      (λ te. rw (te, unprevented TE refl te) (good_end day k.counts t (rw te at a) o))
      (λ te. rw te (by_bool (is m SU)
      (λ su. rw (su, unprevented SU refl su) (good_suspend day k.counts t (rw (su, or-true) at a) o))
      (λ su. rw su (by_bool (is m PR) (λ pr. rw pr (good_prevent day k.counts t o))
      (λ pr. let q = formal_as (is_mark m CO (continue_mark m one ac te su pr)) p in
      rw pr (good_go_on day k.counts is_day k.clock k.now h.now_ok c.head t byte (clean Continuation q.formed) q.timed s o))))))))

  does_named : Passed day m k c → sort_of m ≡ OneTask → Does (role_of OneTask (is m PR)) (work_by day OneTask k c)
  unfolding work_by change_of declared_by
  does_named p q =
      let a = both (ltb c.head.number k.counts.tasks) (start_declared k.counts c.head) (rw q at p.formal.known) in
      let l = ltb-true _ _ a.0 in
      let u = unrefused m c (runner k) _ k.locks k.now _ p.state in
      turned (is m PR) c.head.number _ l (λ e. refl)
      (good_named (task_at k.tasks c.head.number) (h.tasks_ok_law c.head.number l) p.formal a.1 (rw q at u.lives) q)

  -- ---- the running task

  good_runner : (t : Task) → t.alive ≡ true → TaskOk day k.counts t → Formal day m k.counts k.begun c
      → start_declared k.counts c.head ≡ true
      → Good day k.counts false t (runner_turn day k.clock k.now m c.head t)
  unfolding runner_turn
  good_runner t a o p s =
      by_bool (is m RE)
      (λ e. let q = formal_as (is_mark m RE e) p in
      rw e (good_resume_by day k.counts is_day k.clock k.now h.now_ok c.head t a (clean Resumption q.formed) q.timed s o))
      (λ e. rw e (good_end day k.counts t a o))

  does_runner : Passed day m k c → sort_of m ≡ TheRunner → Does (role_of TheRunner false) (work_by day TheRunner k c)
  unfolding work_by change_of declared_by
  does_runner p q = go (runner k) refl (rw q at (unrefused m c (runner k) _ k.locks k.now _ p.state).runs)
    where
      go : (r : Running) → runner k ≡ r → someone r ≡ true
          → Does (plain_role false) (changed k (runner_at r) (by_turn k.locks (runner_turn day k.clock k.now m c.head (task_at k.tasks (runner_at r)))))
      go None e z = contra z refl
      go (Some i) e z =
          let u = runs k i e in
          does_turn i _ u.0 (good_runner (task_at k.tasks i) u.1 (h.tasks_ok_law i u.0) p.formal (unfold declared_by in rw q at p.formal.known))

  -- ---- lists

  lists : (w : Wait) → Passed day m k c → listing (sort_of m) ≡ true → every (λ x. ltb x (count_of k.counts w)) (named c) ≡ true → Lists day k c w
  lists w p q d =
      let s = list_shape (form m) c (sym (list_mark m c.head) ∙ q) p.formal.formed p.formal.listed in
      record { size = s.0; once = s.1; below = d }

  does_ask : (w : Wait) (s : Bool) → waiting w ≡ true → Passed day m k c → sort_of m ≡ ListAsked w s → Does (role_of (ListAsked w s) false) (work_by day (ListAsked w s) k c)
  unfolding work_by change_of ask_for declared_by
  does_ask w s z p q = go (runner k) refl (rw q at (unrefused m c (runner k) _ k.locks k.now _ p.state).runs)
    where
      l : Lists day k c w
      l = lists w p (rw q) (unfold declared_by in rw q at p.formal.known)

      go : (r : Running) → runner k ≡ r → someone r ≡ true → Does (asking w s) (changed k (runner_at r) (ask_for k.counts.tasks k.tasks w s c (task_at k.tasks (runner_at r)) k.locks))
      go None e y = contra y refl
      go (Some i) e y =
          let t = task_at k.tasks i in
          by_bool (could_be_granted k.counts.tasks k.tasks k.locks t.current w (named c))
          (λ g. rw (g, locks_alone k i (take_all w k.locks (named c)) true) (got w s i z e l (could_free _ _ _ _ w (named c) g)))
          (λ g. rw g (by_bool s (λ b. rw b (waits w i z e l)) (λ b. rw (b, locks_alone k i k.locks false) (tried w i z e))))

  does_give : (w : Wait) → waiting w ≡ true → Passed day m k c → sort_of m ≡ ListGiven w → Does (role_of (ListGiven w) false) (work_by day (ListGiven w) k c)
  unfolding work_by change_of declared_by
  does_give w z p q =
      let u = unrefused m c (runner k) _ k.locks k.now _ p.state in
      rw (locks_alone k (runner_at (runner k)) (give_all w k.locks (named c)) false)
      (gave w (lists w p (rw q) (rw q at p.formal.known)) (or_then (waiting w) _ (rw q at u.returnable) z))

  -- ---- interrupts and time

  does_trigger : (i : ℕ) → Does (plain_role false) (trigger_in day k i)
  unfolding trigger_in
  does_trigger i =
      by_bool (enabled_at k i)
      (λ e. rw e (everyone k.now _ h.now_ok (λ j l. good_trigger day k.counts is_day k.clock k.now h.now_ok i (task_at k.tasks j) (h.tasks_ok_law j l))))
      (λ e. rw (e, enabled_alone k k.enabled) (quiet k.enabled refl))

  does_interrupt : Does (plain_role false) (work_by day AnInterrupt k c)
  unfolding work_by interrupt_by
  does_interrupt =
      let i = c.head.number in
      by_bool (is m TG) (λ e. rw e (does_trigger i))
      (λ e. rw (e, enabled_alone) (quiet _ (length-set k.enabled i _)))

  does_arrive : (x : Instant) → x.0 ≤ last_instant → Does (plain_role false) (arrive k x)
  unfolding arrive
  does_arrive x l = everyone x _ l (λ j q. good_tick day k.counts x (task_at k.tasks j) (omega arith) (h.tasks_ok_law j q))

  -- ---- all sorts

  pub call_done : declares m ≡ false → Passed day m k c → Does (role m) (work_of day k c)
  unfolding declares
  call_done d p = go (sort_of m) refl d
    where
      unprevented : naming (sort_of m) ≡ false → is m PR ≡ false
      unprevented e = other_mark naming m PR refl e

      go : (s : Sort) → sort_of m ≡ s → declaring s ≡ false → Does (role_of s (is m PR)) (work_by day s k c)
      go Declaration q e = contra refl e
      go OneTask q e = does_named p q
      go TheRunner q e = rw (unprevented (rw q)) (does_runner p q)
      go (ListAsked w s) q e = rw (unprevented (rw q)) (does_ask w s (asked_waits m q) p q)
      go (ListGiven w) q e = rw (unprevented (rw q)) (does_give w (given_waits m q) p q)
      go AnInterrupt q e = rw (unprevented (rw q)) does_interrupt
      go EveryTask q e = rw (unprevented (rw q)) (let u = unrefused m c (runner k) _ k.locks k.now _ p.state in unfold work_by in does_arrive (arrival m k) (in_time k m q u.goes u.wakes))
