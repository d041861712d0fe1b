-- What some turns leave of a task: a step leaves it that has none of the others, and so does a list of such records.
use Rattle.std.specs.Prelude.{Err, None, Ok, Some}
use mathlib.Core.Path.{◌≡◌, refl, sym, ap, subst, ◌∙◌}
use mathlib.Core.Bool.{Bool, true, false, not, ◌&&◌}
use mathlib.Core.List.{List, [], ◌∷◌}
use Prim.Native.Nat.{ℕ, zero, suc, ◌<◌}
use native.Mathlib.Omega.{arith}
use lib.Dec.{eqb}
use lib.Seq.{get_or-set_other}
use borrow.Author.Tests.{not-true}
use Rattle.calendar.specs.declared.Instant.{Instant}
use Rattle.layout.specs.Marks.{is}
use Rattle.layout.specs.declared.Call.{Call}
use Rattle.layout.specs.declared.Mark.{Mark}
use Rattle.layout.specs.declared.Mark.TheVariants.{TG}
use Rattle.record.specs.Refusals.{named}
use Rattle.record.specs.Reading.{call_with, opened, Read}
use Rattle.lock.specs.declared.Locks.{Locks}
use Rattle.lock.specs.declared.Wait.{Wait}
use Rattle.facts.proofs.Bools.{by_bool, by_eq, contra, both}
use Rattle.task.specs.State.{no_task, wait_for}
use Rattle.task.specs.Turns.{tick_turn, trigger_turn}
use Rattle.task.specs.declared.Task.{Task}
use Rattle.task.specs.declared.Turn.{Turn}
use Rattle.machine.specs.declared.Change.{Change}
use Rattle.machine.specs.declared.State.{State}
use Rattle.machine.specs.Running.{Running, runner, someone}
use Rattle.machine.specs.declared.Stepped.{Stepped}
use Rattle.machine.specs.declared.Sort.{Sort}
use Rattle.machine.specs.declared.Sort.TheVariants.{Declaration, OneTask, TheRunner, ListAsked, ListGiven, AnInterrupt, EveryTask}
use Rattle.machine.specs.State.{task_at, enabled_at, fresh_task}
use Rattle.machine.specs.Granting.{could_be_granted}
use Rattle.machine.specs.Sorts.{sort_of, runner_at}
use Rattle.machine.specs.Work.{by_turn, changed, only_enabled, every_turn}
use Rattle.machine.specs.Test.{valid, kernel_refusal}
use Rattle.machine.specs.Calls.{add_task, add_semaphore, add_bolt, add_interrupt, declaration, named_turn, runner_turn, ask_for, change_of, trigger_in, interrupt_by, arrive, arrival, work_by, work_of}
use Rattle.machine.specs.Step.{answered, finish, declared, or_refuse, carry_out, step}
use Rattle.machine.specs.Log.{final}
use Rattle.machine.specs.Continuing.{Touch, SameButWait, met_by, meets, unmet, task_after}
use Rattle.machine.proofs.Filing.{taken_valid}
use Rattle.machine.proofs.Passed.{refusal_of, Passed, passed, unrefused}
use Rattle.machine.proofs.Cases.{out_cases, done_number, declaration_cases, carried_by, step_opened, step_on, step_cases}
use Rattle.machine.proofs.Accepted.{finish_keeps, in_table, table, one_at, every_at}

-- A declared task stays declared.
pub still_declared : (day : ℕ) (k : State) (i : ℕ) → i < k.counts.tasks → (s : List ℕ) → i < (step day k s).state.counts.tasks
unfolding answered declared finish add_task add_semaphore add_bolt add_interrupt
still_declared day k i l s =
    step_cases day k (λ z. i < z.state.counts.tasks) (λ v. l) (λ v m. l) (λ v n a b. l)
    (λ v c e. out_cases day k c (λ z. i < z.state.counts.tasks)
    (λ d. declaration_cases c.head.mark c k (λ z. i < z.counts.tasks) (λ q. omega arith) (λ q. l) (λ q. l) (λ q. l) (λ q. l) l)
    (λ d. l)) s

-- The turns of task i that a call can have leave it so.
pub record Left (R : Task → Task → Type 0) (day : ℕ) (k : State) (c : Call) (i : ℕ) : Type 0 where
  pub named : sort_of c.head.mark ≡ OneTask → c.head.number ≡ i
      → R (task_at k.tasks i) (named_turn day k.clock k.now c.head.mark c.head (task_at k.tasks i)).task
  pub runs : runner k ≡ Some i
      → R (task_at k.tasks i) (runner_turn day k.clock k.now c.head.mark c.head (task_at k.tasks i)).task
  pub triggered : is c.head.mark TG ≡ true → enabled_at k c.head.number ≡ true
      → R (task_at k.tasks i) (trigger_turn day k.clock k.now c.head.number (task_at k.tasks i)).task
  pub ticked : sort_of c.head.mark ≡ EveryTask
      → R (task_at k.tasks i) (tick_turn (arrival c.head.mark k) (task_at k.tasks i)).task

-- R: what is left of a task, whatever it waits for.
module _ (R : Task → Task → Type 0) (next : (t u v : Task) → R t u → R u v → R t v)
    (waits : (w : Wait) (n : ℕ) (l : List ℕ) (t : Task) → R t (wait_for w n l t)) where
  own : (t : Task) → R t t
  own t = waits t.wait t.len t.list t

  served : (t u : Task) → SameButWait t u → R t u
  served t u h = subst (λ (v : Task). R t v) (sym h.1) (waits h.0 t.len t.list t)

  asks_same : (count : ℕ) (ts : List Task) (w : Wait) (b : Bool) (c : Call) (t : Task) (l : Locks) → R t (ask_for count ts w b c t l).task
  unfolding ask_for
  asks_same count ts w b c t l =
      by_bool (could_be_granted count ts l t.current w (named c)) (λ e. rw e (own t))
      (λ e. rw e (by_bool b (λ z. rw z (waits w c.head.len c.list t)) (λ z. rw z (own t))))

  -- ---- a call's work

  module _ (day : ℕ) (k : State) (v : valid day k ≡ true) (c : Call) (p : Passed day c.head.mark k c)
      (i : ℕ) (l : i < k.counts.tasks) (u : Left R day k c i) where
    abbrev Same : List Task → Type 0
    Same ts = R (task_at k.tasks i) (task_at ts i)

    abbrev m : Mark
    m = c.head.mark

    one_same : (j : ℕ) (x : Change) → (j ≡ i → R (task_at k.tasks i) x.task) → Same (changed k j x).tasks
    unfolding changed
    one_same j x f =
        by_eq i j (λ z. let own : task_at (changed k j x).tasks i ≡ x.task = rw z (one_at k j x (in_table day k v j (rw z at l))) in rw own (f (sym z)))
        (λ z. rw (get_or-set_other k.tasks j i x.task no_task z) (own (task_at k.tasks i)))

    every_same : (n : Instant) (f : Task → Turn) → R (task_at k.tasks i) (f (task_at k.tasks i)).task → Same (every_turn k n f).tasks
    every_same n f s = rw (every_at k n f (table day k v) i l) s

    none_same : (es : List Bool) → Same (only_enabled k es).tasks
    unfolding only_enabled
    none_same es = own (task_at k.tasks i)

    named_work : sort_of m ≡ OneTask → Same (work_by day OneTask k c).tasks
    unfolding work_by change_of
    named_work q =
        one_same c.head.number _ (λ z.
        subst (λ (t : Task). R (task_at k.tasks i) (named_turn day k.clock k.now m c.head t).task)
        (ap (task_at k.tasks) (sym z)) (u.named q z))

    runner_work : sort_of m ≡ TheRunner → Same (work_by day TheRunner k c).tasks
    unfolding work_by change_of
    runner_work q = go (runner k) refl (rw q at (unrefused m c (runner k) _ k.locks k.now _ p.state).runs)
      where
        go : (r : Running) → runner k ≡ r → someone r ≡ true
            → Same (changed k (runner_at r) (by_turn k.locks (runner_turn day k.clock k.now m c.head (task_at k.tasks (runner_at r))))).tasks
        go None e z = contra z refl
        go (Some j) e z = one_same j _ (λ y. rw y (u.runs (rw y at e)))

    list_work : (w : Wait) (b : Bool) → Same (work_by day (ListAsked w b) k c).tasks
    unfolding work_by change_of
    list_work w b =
        one_same (runner_at (runner k)) _ (λ z. rw z (asks_same k.counts.tasks k.tasks w b c (task_at k.tasks i) k.locks))

    given_work : (w : Wait) → Same (work_by day (ListGiven w) k c).tasks
    unfolding work_by change_of
    given_work w = one_same (runner_at (runner k)) _ (λ z. rw z (own (task_at k.tasks i)))

    interrupt_work : Same (work_by day AnInterrupt k c).tasks
    unfolding work_by interrupt_by trigger_in
    interrupt_work =
        by_bool (is m TG)
        (λ e. rw e (by_bool (enabled_at k c.head.number)
        (λ on. rw on (every_same k.now _ (u.triggered e on)))
        (λ on. rw on (none_same k.enabled))))
        (λ e. rw e (none_same _))

    tick_work : sort_of m ≡ EveryTask → Same (work_by day EveryTask k c).tasks
    unfolding work_by arrive
    tick_work q = every_same (arrival m k) (tick_turn (arrival m k)) (u.ticked q)

    work_same : (x : Sort) → sort_of m ≡ x → Same (work_by day x k c).tasks
    work_same Declaration q = unfold work_by in none_same k.enabled
    work_same OneTask q = named_work q
    work_same TheRunner q = runner_work q
    work_same (ListAsked w b) q = list_work w b
    work_same (ListGiven w) q = given_work w
    work_same AnInterrupt q = interrupt_work
    work_same EveryTask q = tick_work q

  -- ---- a step

  module _ (touch : Touch) (left : (day : ℕ) (k : State) (c : Call) (i : ℕ) → touch k c i ≡ false → Left R day k c i) where
    module _ (day : ℕ) (k : State) (i : ℕ) (l : i < k.counts.tasks) where
      abbrev Stays : State → Type 0
      Stays z = R (task_at k.tasks i) (task_at z.tasks i)

      -- A declaration fills a place beyond the declared tasks.
      declared_stays : (c : Call) → Stays (declaration c.head.mark c k)
      unfolding add_task add_semaphore add_bolt add_interrupt
      declared_stays c =
          let same = own (task_at k.tasks i) in
          declaration_cases c.head.mark c k Stays
          (λ e. rw (get_or-set_other k.tasks k.counts.tasks i (fresh_task c.head.priority) no_task (λ z. omega arith)) same)
          (λ e. same) (λ e. same) (λ e. same) (λ e. same) same

      carried_stays : valid day k ≡ true → (c : Call) → refusal_of day k c ≡ 0 → touch k c i ≡ false → Stays (carry_out day k c).state
      carried_stays v c z e =
          out_cases day k c (λ s. Stays s.state) (λ d. unfold declared in declared_stays c)
          (λ d. let w = work_of day k c in
          next (task_at k.tasks i) (task_at w.tasks i) _ (work_same day k v c (passed day k c z) i l (left day k c i e) (sort_of c.head.mark) refl)
          (served (task_at w.tasks i) (task_at (finish k w).state.tasks i) (finish_keeps k w i)))

      -- A call that was read is refused or carried out.
      read_stays : valid day k ≡ true → (c : Call)
          → (eqb (or_refuse k (refusal_of day k c) (carry_out day k c)).answer.number 0 && touch k c i) ≡ false
          → Stays (or_refuse k (refusal_of day k c) (carry_out day k c)).state
      unfolding answered
      read_stays v c = go (refusal_of day k c) refl
        where
          go : (n : ℕ) → refusal_of day k c ≡ n → (eqb (or_refuse k n (carry_out day k c)).answer.number 0 && touch k c i) ≡ false
              → Stays (or_refuse k n (carry_out day k c)).state
          go zero z e = carried_stays v c z (rw (done_number day k c) at e)
          go (suc n) z e = own (task_at k.tasks i)

      -- So are bytes.
      opened_stays : valid day k ≡ true → (r : Read) (ls : List ℕ) (z : Stepped) → z ≡ step_opened day k r ls
          → (eqb z.answer.number 0 && met_by touch k r ls i) ≡ false → Stays z.state
      opened_stays v (Err n) ls z q e = rw q (unfold answered in own (task_at k.tasks i))
      opened_stays v (Ok h) ls z q e =
          let c = call_with h ls in
          let o = q ∙ carried_by day k c in
          rw o (read_stays v c (rw o at e))

      -- A kernel turned away stays.
      away_stays : (n : ℕ) → kernel_refusal day k ≡ suc n → (s : List ℕ) → Stays (step day k s).state
      unfolding step answered
      away_stays n v s = rw v (own (task_at k.tasks i))

      pub step_stays : (s : List ℕ) → meets touch day k s i ≡ false → R (task_at k.tasks i) (task_after day k s i)
      step_stays s e = go (kernel_refusal day k) refl
        where
          go : (n : ℕ) → kernel_refusal day k ≡ n → R (task_at k.tasks i) (task_after day k s i)
          go zero t = opened_stays (taken_valid day k t) (opened s).answer (opened s).list (step day k s) (step_on day k s t) e
          go (suc n) t = away_stays n t s

    -- ---- a list of records

    pub list_stays : (day : ℕ) (k : State) (rs : List (List ℕ)) (i : ℕ) → i < k.counts.tasks → unmet touch day i k rs ≡ true
        → R (task_at k.tasks i) (task_at (final day k rs).tasks i)
    unfolding unmet final
    list_stays day k [] i l e = own (task_at k.tasks i)
    list_stays day k (r ∷ rs) i l e =
        let a = both (not (meets touch day k r i)) _ e in
        next (task_at k.tasks i) (task_after day k r i) _ (step_stays day k i l r (not-true _ a.0))
        (list_stays day (step day k r).state rs i (still_declared day k i l r) a.1)
