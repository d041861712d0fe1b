-- What single calls and declarations leave.
use Rattle.std.specs.Prelude.{None, Option, Some}
use mathlib.Core.Path.{◌≡◌, refl, sym, ap, subst, ◌∙◌}
use mathlib.Core.Logic.{◌≢◌, ◌⊎◌, ⊎_elim, inl, inr}
use mathlib.Core.Bool.{Bool, true, false}
use mathlib.Core.List.{List}
use Prim.Native.Nat.{ℕ, ◌+◌, ◌<◌}
use native.Mathlib.Omega.{arith}
use lib.ListN.{length, get_or, set}
use lib.Seq.{get_or-set_same, get_or-set_other}
use borrow.Author.Tests.{eq-eqb, ltb-true, not-true}
use Rattle.calendar.specs.Times.{instant}
use Rattle.calendar.specs.declared.Instant.{Instant}
use Rattle.layout.specs.Marks.{code, is}
use Rattle.layout.specs.declared.Call.{Call}
use Rattle.layout.specs.declared.Head.{Head}
use Rattle.layout.specs.declared.Mark.{Mark}
use Rattle.layout.specs.declared.Mark.TheVariants.{DT, DS, DB, IT, DC, AC, TE, SU, CO, EN, RE, TG, EI, XI}
use Rattle.layout.proofs.MarksLaws.{is_mark}
use Rattle.facts.proofs.Bools.{by_bool, by_eq, contra, both}
use Rattle.lock.specs.Locks.{waiting, value_at, bolt_at, empty_bolt}
use Rattle.lock.specs.declared.Bolt.{Bolt}
use Rattle.lock.specs.declared.Wait.{Wait}
use Rattle.lock.specs.declared.Wait.TheVariants.{Nothing, Request, Reserve, Enter}
use Rattle.lock.proofs.Levels.{value_same, value_other, bolt_same, bolt_other}
use Rattle.task.specs.State.{no_task, with_hold}
use Rattle.task.specs.Continuations.{or_else, goes_on}
use Rattle.task.specs.Turns.{started, terminated, due_if, end_if, end_turn, suspend_turn, go_on_turn, delay_turn}
use Rattle.task.specs.declared.Hold.{Hold}
use Rattle.task.specs.declared.Hold.TheVariants.{Suspended, Delayed}
use Rattle.task.specs.declared.Task.{Task}
use Rattle.task.specs.declared.Turn.{Turn}
use Rattle.task.proofs.Continuing.{has, same_then}
use Rattle.task.proofs.Laws.{given_taken}
use Rattle.machine.specs.declared.State.{State}
use Rattle.machine.specs.declared.OnFile.{OnFile}
use Rattle.machine.specs.declared.Stepped.{Stepped}
use Rattle.machine.specs.declared.Sort.{Sort}
use Rattle.machine.specs.declared.Sort.TheVariants.{Declaration, OneTask, TheRunner, ListAsked, ListGiven, AnInterrupt, EveryTask}
use Rattle.machine.specs.State.{most_tasks, task_at, enabled_at, begun_at, fresh_task, with_file}
use Rattle.machine.specs.Running.{runner}
use Rattle.machine.specs.NextEvent.{file_of}
use Rattle.machine.specs.Granting.{servable}
use Rattle.machine.specs.Work.{Work, changed, only_enabled, every_turn}
use Rattle.machine.specs.Places.{event}
use Rattle.machine.specs.Test.{kernel_refusal}
use Rattle.machine.specs.Sorts.{sort_of, declaring, declares}
use Rattle.machine.specs.Refusals.{declared_by}
use Rattle.machine.specs.Activation.{activate_by, continue_by, resume_by}
use Rattle.machine.specs.Calls.{add_task, add_semaphore, add_bolt, add_interrupt, declaration, named_turn, runner_turn, change_of, trigger_in, interrupt_by, arrive, work_by, work_of}
use Rattle.machine.specs.Step.{plain_answer, finish, declared, carry_out, step}
use Rattle.machine.specs.Invariants.{Tables}
use Rattle.machine.specs.Continuing.{SameButWait, Accepts, task_after}
use Rattle.machine.specs.Making.{Clear, SamePlans, LivesOn, TaskEnds, Suspends, CallsLeave, CallsEnable, DisabledIsIdle, IsFresh, KeepsDeclared, Declares, DeclarationsFill}
use Rattle.machine.proofs.Filing.{taken_filed}
use Rattle.machine.proofs.Passed.{Passed, passed, as_mark, parts, tested, unrefused, room_task, room_semaphore, room_bolt, room_interrupt}
use Rattle.machine.proofs.Facts.{nobody_untest}
use Rattle.machine.proofs.Granting.{WaitsAlike, servable_alike}
use Rattle.machine.proofs.Sorts.{interrupt_mark}
use Rattle.machine.proofs.Cases.{declaration_cases}
use Rattle.machine.proofs.Places.{moved_nobody, no_event}
use Rattle.machine.proofs.Serving.{serve_keeps, serve_none, grant_at, grant_other}
use Rattle.machine.proofs.Done.{runs}
use Rattle.machine.proofs.Quiet.{nobody_served}
use Rattle.machine.proofs.Accepted.{same_on, in_table, accepts_taken, no_refusal, step_out, step_work, one_at}
use Rattle.machine.proofs.Continuing.{named_turn_law, runner_turn_law}

-- ---- waits after serving

-- A wait goes on or is over.
served_wait : (k : State) (w : Work) (i : ℕ)
    → ((task_at (finish k w).state.tasks i).wait ≡ (task_at w.tasks i).wait) ⊎ ((task_at (finish k w).state.tasks i).wait ≡ Nothing)
unfolding finish
served_wait k w i =
    let n = k.counts.tasks in
    serve_keeps n k.places (λ q. ((task_at q.tasks i).wait ≡ (task_at w.tasks i).wait) ⊎ ((task_at q.tasks i).wait ≡ Nothing))
    (λ q j l e h. by_eq i j (λ z. inr (rw (z, grant_at n q j e))) (λ z. rw (grant_other q j i z) h))
    n (record { tasks = w.tasks; locks = w.locks; granted = w.sets.granted }) (inl refl)

-- Who waits for nothing goes on so.
served_nothing : (k : State) (w : Work) (i : ℕ) → (task_at w.tasks i).wait ≡ Nothing → (task_at (finish k w).state.tasks i).wait ≡ Nothing
served_nothing k w i e = ⊎_elim (λ z. z ∙ e) (λ z. z) (served_wait k w i)

-- ---- the turns

plans : (t u v : Task) → SameButWait u v → SamePlans t u → SamePlans t v
plans t u v w p =
    record { schedule = ap (λ (y : Task). y.schedule) w.1 ∙ p.schedule; continuation = same_then t u v p.continuation (same_on u v w) }

lives : (t u v : Task) → SameButWait u v → LivesOn t u → LivesOn t v
lives t u v w p =
    record { alive = ap (λ (y : Task). y.alive) w.1 ∙ p.alive; kept = ap (λ (y : Task). y.kept) w.1 ∙ p.kept; plans = plans t u v w p.plans }

clear : (b : Bool) (u v : Task) → SameButWait u v → v.wait ≡ Nothing → Clear b u → Clear b v
clear b u v w n p =
    record { alive = ap (λ (y : Task). y.alive) w.1 ∙ p.alive; hold = ap (λ (y : Task). y.hold) w.1 ∙ p.hold; wait = n; kept = ap (λ (y : Task). y.kept) w.1 ∙ p.kept }

started_clear : (p : ℕ) (t : Task) → Clear true (started p t)
started_clear p t = record { alive = refl; hold = refl; wait = refl; kept = refl }

ended_clear : (t : Task) → Clear false (terminated t)
ended_clear t = record { alive = refl; hold = refl; wait = refl; kept = refl }

-- A task that has ended, or started anew.
end_wait : (k : Option ℕ) (t : Task) → (end_if k t).task.wait ≡ Nothing
unfolding end_if
end_wait None t = refl
end_wait (Some p) t = refl

end_plans : (k : Option ℕ) (t : Task) → SamePlans t (end_if k t).task
unfolding end_if
end_plans None t = record { schedule = refl; continuation = has (terminated t) }
end_plans (Some p) t = record { schedule = refl; continuation = has (started p t) }

ends : (t v : Task) → SameButWait (end_turn t).task v → v.wait ≡ Nothing → TaskEnds t v
unfolding end_if
ends t v w n =
    record {
      plans = plans t (end_turn t).task v w (end_plans t.kept t);
      ended = λ e. let q : SameButWait (terminated t) v = rw e at w in
          (clear false (terminated t) v q n (ended_clear t), ap (λ (y : Task). y.current) q.1);
      again = λ p e. let q : SameButWait (started p t) v = rw e at w in
          (clear true (started p t) v q n (started_clear p t), ap (λ (y : Task). y.current) q.1);
    }

-- ---- the step

module _ (day : ℕ) (k : State) (s : List ℕ) (c : Call) (h : Accepts day k s c) where
  abbrev i : ℕ
  i = c.head.number

  abbrev t : Task
  t = task_at k.tasks i

  -- The task named stands in the table,
  named_in : sort_of c.head.mark ≡ OneTask → i < k.counts.tasks
  unfolding declared_by
  named_in q = ltb-true i k.counts.tasks (both _ _ (rw q at (passed day k c (no_refusal day k s c h)).formal.known)).0

  -- and has its turn.
  named_work : sort_of c.head.mark ≡ OneTask
      → task_at (work_by day OneTask k c).tasks i ≡ (named_turn day k.clock k.now c.head.mark c.head t).task
  unfolding work_by change_of
  named_work q = one_at k i _ (in_table day k h.tested i (named_in q))

  runner_work : (j : ℕ) → runner k ≡ Some j
      → task_at (work_by day TheRunner k c).tasks j ≡ (runner_turn day k.clock k.now c.head.mark c.head (task_at k.tasks j)).task
  unfolding work_by change_of
  runner_work j r = rw r (one_at k j _ (in_table day k h.tested j (runs k j r).0))

  -- Its wait after the step is that after its turn, or over.
  work_wait : (x : Sort) → sort_of c.head.mark ≡ x → declaring x ≡ false → (j : ℕ)
      → ((task_after day k s j).wait ≡ (task_at (work_by day x k c).tasks j).wait) ⊎ ((task_after day k s j).wait ≡ Nothing)
  work_wait x q e j = rw (step_work day k s c h x q e) (served_wait k (work_by day x k c) j)

  no_wait : (x : Sort) → sort_of c.head.mark ≡ x → declaring x ≡ false → (j : ℕ) → (task_at (work_by day x k c).tasks j).wait ≡ Nothing
      → (task_after day k s j).wait ≡ Nothing
  no_wait x q e j z = ⊎_elim (λ y. y ∙ z) (λ y. y) (work_wait x q e j)

idle_wait : (w : Wait) → waiting w ≡ false → w ≡ Nothing
idle_wait Nothing e = refl
idle_wait Request e = contra refl e
idle_wait Reserve e = contra refl e
idle_wait Enter e = contra refl e

-- ---- the turns of the calls

module _ (day clock : ℕ) (n : Instant) (m : Mark) (h : Head) (t : Task) where
  activate_now : m ≡ AC → h.kind ≡ 0 → t.alive ≡ false → (named_turn day clock n m h t).task ≡ started (or_else h.priority t.declared) t
  unfolding named_turn activate_by due_if
  activate_now e z a = rw (e, z, a)

  terminate_turn : m ≡ TE → named_turn day clock n m h t ≡ end_turn t
  unfolding named_turn
  terminate_turn e = rw e

  end_turn_law : m ≡ EN → runner_turn day clock n m h t ≡ end_turn t
  unfolding runner_turn
  end_turn_law e = rw e

  suspend_turn_law : m ≡ SU → (named_turn day clock n m h t).task ≡ with_hold Suspended t
  unfolding named_turn suspend_turn
  suspend_turn_law e = rw e

  continue_now : m ≡ CO → h.kind ≡ 0 → (named_turn day clock n m h t).task ≡ goes_on h.priority t
  unfolding named_turn continue_by go_on_turn
  continue_now e z = rw (e, z)

  resume_now : m ≡ RE → h.kind ≡ 0 → (runner_turn day clock n m h t).task ≡ with_hold (Delayed (instant (n.0 + h.first))) t
  unfolding runner_turn resume_by delay_turn
  resume_now e z = rw (e, z)

lives_hold : (x : Hold) (t : Task) → LivesOn t (with_hold x t)
lives_hold x t = record { alive = refl; kept = refl; plans = record { schedule = refl; continuation = has (with_hold x t) } }

goes_priority : (p : ℕ) (t : Task) → p ≢ 0 → (goes_on p t).current ≡ p
goes_priority p t ne = sym (given_taken p t.current ne)

-- ---- SUSPEND leaves all waits

finish_none : (k : State) (w : Work) → ((j : ℕ) → j < k.counts.tasks → servable k.counts.tasks w.tasks w.locks j ≡ false)
    → (finish k w).state.tasks ≡ w.tasks
unfolding finish
finish_none k w f = rw (serve_none k.counts.tasks k.places k.counts.tasks (record { tasks = w.tasks; locks = w.locks; granted = w.sets.granted }) f)

module _ (day : ℕ) (k : State) (s : List ℕ) (c : Call) (h : Accepts day k s c) (e : c.head.mark ≡ SU) where
  held : task_at (work_by day OneTask k c).tasks c.head.number ≡ with_hold Suspended (task_at k.tasks c.head.number)
  held = named_work day k s c h (ap sort_of e) ∙ suspend_turn_law day k.clock k.now c.head.mark c.head (task_at k.tasks c.head.number) e

  others : (j : ℕ) → j ≢ c.head.number → task_at (work_by day OneTask k c).tasks j ≡ task_at k.tasks j
  unfolding work_by change_of changed
  others j ne = get_or-set_other k.tasks c.head.number j _ no_task ne

  locks_stay : (work_by day OneTask k c).locks ≡ k.locks
  unfolding work_by change_of changed
  locks_stay = refl

  alike : (j : ℕ) → WaitsAlike (task_at k.tasks j) (task_at (work_by day OneTask k c).tasks j)
  alike j =
      by_eq j c.head.number
      (λ z. rw (z, held) (record { idle = λ q. q; same = λ q. (refl, refl, refl, refl) }))
      (λ z. rw (others j z) (record { idle = λ q. q; same = λ q. (refl, refl, refl, refl) }))

  nobody : (j : ℕ) → j < k.counts.tasks → servable k.counts.tasks (work_by day OneTask k c).tasks (work_by day OneTask k c).locks j ≡ false
  nobody j l =
      rw locks_stay
      (sym (servable_alike k.counts.tasks k.tasks (work_by day OneTask k c).tasks k.locks (λ x q. alike x) j l)
      ∙ nobody_untest k (parts day k h.tested).stuck j l)

  suspended_task : task_after day k s c.head.number ≡ with_hold Suspended (task_at k.tasks c.head.number)
  suspended_task =
      ap (λ (z : Stepped). task_at z.state.tasks c.head.number) (step_work day k s c h OneTask (ap sort_of e) refl)
      ∙ ap (λ (ts : List Task). task_at ts c.head.number) (finish_none k (work_by day OneTask k c) nobody) ∙ held

suspends : (t u : Task) → u ≡ with_hold Suspended t → Suspends t u
suspends t u e =
    rw e (record { hold = refl; undelayed = λ n. refl; current = refl; wait = (refl, refl, refl); rest = lives_hold Suspended t })

pub calls_leave : CallsLeave
calls_leave =
    record {
      activate = λ day k s c h e z.
          let i = c.head.number in
          let t = task_at k.tasks i in
          let one = ap sort_of e in
          let p = as_mark e (passed day k c (no_refusal day k s c h)) in
          let r = unrefused AC c (runner k) t k.locks k.now _ p.state in
          let a : t.alive ≡ false = not-true _ (rw z at r.ended) in
          let x = started (or_else c.head.priority t.declared) t in
          let q = activate_now day k.clock k.now c.head.mark c.head t e z a in
          let w : SameButWait x (task_after day k s i) = subst (λ (y : Task). SameButWait y (task_after day k s i)) q (named_turn_law day k s c h one) in
          let n = no_wait day k s c h OneTask one refl i (ap (λ (y : Task). y.wait) (named_work day k s c h one ∙ q)) in
          (a, clear true x _ w n (started_clear _ t), plans t x _ w (record { schedule = refl; continuation = has x }));
      terminate = λ day k s c h e.
          let i = c.head.number in
          let t = task_at k.tasks i in
          let one = ap sort_of e in
          let q = terminate_turn day k.clock k.now c.head.mark c.head t e in
          let w = subst (λ (y : Turn). SameButWait y.task (task_after day k s i)) q (named_turn_law day k s c h one) in
          ends t _ w (no_wait day k s c h OneTask one refl i (ap (λ (y : Task). y.wait) (named_work day k s c h one) ∙ ap (λ (y : Turn). y.task.wait) q ∙ end_wait t.kept t));
      end = λ day k s c i h e r.
          let t = task_at k.tasks i in
          let about = ap sort_of e in
          let q = end_turn_law day k.clock k.now c.head.mark c.head t e in
          let w = subst (λ (y : Turn). SameButWait y.task (task_after day k s i)) q (runner_turn_law day k s c i h about r) in
          ends t _ w (no_wait day k s c h TheRunner about refl i (ap (λ (y : Task). y.wait) (runner_work day k s c h i r) ∙ ap (λ (y : Turn). y.task.wait) q ∙ end_wait t.kept t));
      suspend = λ day k s c h e. suspends _ _ (suspended_task day k s c h e);
      continue = λ day k s c h e z.
          let i = c.head.number in
          let t = task_at k.tasks i in
          let one = ap sort_of e in
          let x = goes_on c.head.priority t in
          let q = continue_now day k.clock k.now c.head.mark c.head t e z in
          let w : SameButWait x (task_after day k s i) = subst (λ (y : Task). SameButWait y (task_after day k s i)) q (named_turn_law day k s c h one) in
          let current = ap (λ (y : Task). y.current) w.1 in
          record {
            hold = ap (λ (y : Task). y.hold) w.1;
            current = λ p. current ∙ rw p;
            given = λ ne. current ∙ goes_priority c.head.priority t ne;
            wait = ⊎_elim (λ y. inl (y ∙ ap (λ (y : Task). y.wait) (named_work day k s c h one ∙ q))) (λ y. inr y) (work_wait day k s c h OneTask one refl i);
            rest = lives t x _ w (record { alive = refl; kept = refl; plans = record { schedule = refl; continuation = has x } });
          };
      resume = λ day k s c i h e z r.
          let t = task_at k.tasks i in
          let about = ap sort_of e in
          let x = with_hold (Delayed (instant (k.now.0 + c.head.first))) t in
          let q = resume_now day k.clock k.now c.head.mark c.head t e z in
          let w : SameButWait x (task_after day k s i) = subst (λ (y : Task). SameButWait y (task_after day k s i)) q (runner_turn_law day k s c i h about r) in
          record {
            hold = ap (λ (y : Task). y.hold) w.1;
            current = ap (λ (y : Task). y.current) w.1;
            wait = no_wait day k s c h TheRunner about refl i (ap (λ (y : Task). y.wait) (runner_work day k s c h i r ∙ q) ∙ idle_wait t.wait (runs k i r).2);
            rest = lives t x _ w (lives_hold (Delayed (instant (k.now.0 + c.head.first))) t);
          };
    }

-- ---- interrupts

clash_is : {X : Type 0} {m : Mark} (a : Mark) → m ≡ a → is m a ≡ false → X
clash_is a e f = contra (ap (λ (x : Mark). is x a) e ∙ eq-eqb (code a) (code a) refl) f

-- A sort that isn't about an interrupt.
no_interrupt : Sort → Bool
no_interrupt Declaration = true
no_interrupt OneTask = true
no_interrupt TheRunner = true
no_interrupt (ListAsked w b) = true
no_interrupt (ListGiven w) = true
no_interrupt AnInterrupt = false
no_interrupt EveryTask = true

-- Only EI and XI touch them.
work_enabled : (day : ℕ) (k : State) (c : Call) (x : Sort) → no_interrupt x ≡ true → (work_by day x k c).enabled ≡ k.enabled
unfolding work_by change_of changed only_enabled arrive every_turn no_interrupt
work_enabled day k c Declaration ne = refl
work_enabled day k c OneTask ne = refl
work_enabled day k c TheRunner ne = refl
work_enabled day k c (ListAsked w b) ne = refl
work_enabled day k c (ListGiven w) ne = refl
work_enabled day k c AnInterrupt ne = contra ne refl
work_enabled day k c EveryTask ne = refl

module _ (day : ℕ) (m : Mark) (k : State) (j : ℕ) where
  enables : m ≡ EI → (interrupt_by day m k j).enabled ≡ set k.enabled j true
  unfolding interrupt_by only_enabled
  enables e = rw e

  disables : m ≡ XI → (interrupt_by day m k j).enabled ≡ set k.enabled j false
  unfolding interrupt_by only_enabled
  disables e = rw e

  triggers : m ≡ TG → (interrupt_by day m k j).enabled ≡ k.enabled
  unfolding interrupt_by trigger_in every_turn only_enabled
  triggers e = rw e (by_bool (enabled_at k j) (λ on. rw on) (λ on. rw on))

interrupt_work : (day : ℕ) (k : State) (c : Call) → sort_of c.head.mark ≡ AnInterrupt
    → work_of day k c ≡ interrupt_by day c.head.mark k c.head.number
unfolding work_by
interrupt_work day k c q = rw q

-- Which of the three it is.
one_of : (m : Mark) → sort_of m ≡ AnInterrupt → m ≢ EI → m ≢ XI → m ≡ TG
one_of m q ei xi =
    by_bool (is m TG) (λ e. is_mark m TG e)
    (λ e. by_bool (is m EI) (λ z. absurd (ei (is_mark m EI z)))
    (λ z. absurd (xi (is_mark m XI (rw (e, z) at (interrupt_mark m q))))))

other_enabled : (day : ℕ) (k : State) (c : Call) → c.head.mark ≢ EI → c.head.mark ≢ XI → (work_of day k c).enabled ≡ k.enabled
unfolding work_by no_interrupt
other_enabled day k c ei xi = go (sort_of c.head.mark) refl
  where
    go : (x : Sort) → sort_of c.head.mark ≡ x → (work_by day x k c).enabled ≡ k.enabled
    go Declaration q = work_enabled day k c Declaration refl
    go OneTask q = work_enabled day k c OneTask refl
    go TheRunner q = work_enabled day k c TheRunner refl
    go (ListAsked w b) q = work_enabled day k c (ListAsked w b) refl
    go (ListGiven w) q = work_enabled day k c (ListGiven w) refl
    go AnInterrupt q =
        triggers day c.head.mark k c.head.number (one_of c.head.mark q ei xi)
    go EveryTask q = work_enabled day k c EveryTask refl

interrupt_in : (day : ℕ) (k : State) (s : List ℕ) (c : Call) → Accepts day k s c → sort_of c.head.mark ≡ AnInterrupt → c.head.number < k.counts.interrupts
unfolding declared_by
interrupt_in day k s c h q = ltb-true _ _ (rw q at (passed day k c (no_refusal day k s c h)).formal.known)

enabled_after : (day : ℕ) (k : State) (s : List ℕ) (c : Call) → Accepts day k s c → declares c.head.mark ≡ false
    → (step day k s).state.enabled ≡ (work_of day k c).enabled
unfolding declares finish
enabled_after day k s c h d = ap (λ (z : Stepped). z.state.enabled) (step_work day k s c h (sort_of c.head.mark) refl d)

pub calls_enable : CallsEnable
calls_enable day k s c tables h d =
    record { enable = enable; disable = disable; others = others; else = λ ei xi j. ap (λ (es : List Bool). get_or es j false) (else ei xi) }
  where
    i : ℕ
    i = c.head.number

    by : sort_of c.head.mark ≡ AnInterrupt → (step day k s).state.enabled ≡ (interrupt_by day c.head.mark k i).enabled
    by q = enabled_after day k s c h d ∙ ap (λ (w : Work). w.enabled) (interrupt_work day k c q)

    room : sort_of c.head.mark ≡ AnInterrupt → i < length k.enabled
    room q =
        let l = interrupt_in day k s c h q in
        omega (arith, tables.enabled, (tested day k h.tested).fits.interrupts)

    enable : c.head.mark ≡ EI → get_or (step day k s).state.enabled i false ≡ true
    enable e = ap (λ (es : List Bool). get_or es i false) (by (ap sort_of e) ∙ enables day c.head.mark k i e) ∙ get_or-set_same k.enabled i true false (room (ap sort_of e))

    disable : c.head.mark ≡ XI → get_or (step day k s).state.enabled i false ≡ false
    disable e = ap (λ (es : List Bool). get_or es i false) (by (ap sort_of e) ∙ disables day c.head.mark k i e) ∙ get_or-set_same k.enabled i false false (room (ap sort_of e))

    else : c.head.mark ≢ EI → c.head.mark ≢ XI → (step day k s).state.enabled ≡ k.enabled
    else ei xi = enabled_after day k s c h d ∙ other_enabled day k c ei xi

    others : (j : ℕ) → j ≢ i → get_or (step day k s).state.enabled j false ≡ get_or k.enabled j false
    others j ne =
        by_bool (is c.head.mark EI)
        (λ z. let e = is_mark c.head.mark EI z in
        ap (λ (es : List Bool). get_or es j false) (by (ap sort_of e) ∙ enables day c.head.mark k i e) ∙ get_or-set_other k.enabled i j true false ne)
        (λ y. by_bool (is c.head.mark XI)
        (λ z. let e = is_mark c.head.mark XI z in
        ap (λ (es : List Bool). get_or es j false) (by (ap sort_of e) ∙ disables day c.head.mark k i e) ∙ get_or-set_other k.enabled i j false false ne)
        (λ z. ap (λ (es : List Bool). get_or es j false) (else (λ e. clash_is EI e y) (λ e. clash_is XI e z))))

-- Nobody has a turn.
idle_work : (day : ℕ) (k : State) → length k.tasks ≡ most_tasks → kernel_refusal day k ≡ 0
    → finish k (only_enabled k k.enabled) ≡ record { state = begun_at k.now k; answer = plain_answer 0 (runner k) }
unfolding finish only_enabled
idle_work day k room v =
    let n = k.counts.tasks in
    let f : k.file ≡ file_of (begun_at k.now k) = taken_filed day k v in
    rw (nobody_served day k room v 0 n, moved_nobody n (event k.tasks k.tasks 0) n k.places (λ i l. no_event k.tasks i), ← f)

disabled_work : (day : ℕ) (m : Mark) (k : State) (j : ℕ) → m ≡ TG → enabled_at k j ≡ false → interrupt_by day m k j ≡ only_enabled k k.enabled
unfolding interrupt_by trigger_in
disabled_work day m k j e off = rw (e, off)

pub disabled_is_idle : DisabledIsIdle
unfolding work_by
disabled_is_idle day k s c tables h e off =
    step_work day k s c h AnInterrupt (ap sort_of e) refl
    ∙ ap (finish k) (disabled_work day c.head.mark k c.head.number e off)
    ∙ idle_work day k tables.tasks (accepts_taken day k s c h)

-- ---- declarations

fresh : (p : ℕ) → IsFresh p (fresh_task p)
unfolding fresh_task
fresh p =
    record {
      clear = record { alive = refl; hold = refl; wait = refl; kept = refl };
      declared = refl;
      current = refl;
      schedule = refl;
      continuation = record { alarm = refl; given = refl; resumed = refl };
    }

module _ (day : ℕ) (k : State) (c : Call) (tables : Tables k) (p : Passed day c.head.mark k c) (f : OnFile) where
  abbrev m : Mark
  m = c.head.mark

  abbrev z : State
  z = with_file f (declaration m c k)

  module _ (e : m ≡ DT) where
    is_task : declaration m c k ≡ add_task c.head.priority k
    unfolding declaration
    is_task = rw e

    fills_task : (z.counts.tasks ≡ k.counts.tasks + 1) × IsFresh c.head.priority (task_at z.tasks k.counts.tasks)
    unfolding add_task
    fills_task =
        let q = fresh_task c.head.priority in
        let l = room_task k.counts (as_mark e p).formal.room in
        rw is_task (refl, rw (get_or-set_same k.tasks k.counts.tasks q no_task (omega (arith, tables.tasks))) (fresh c.head.priority))

  module _ (e : m ≡ DS) where
    is_semaphore : declaration m c k ≡ add_semaphore c.head.first k
    unfolding declaration
    is_semaphore = rw e

    fills_semaphore : (z.counts.semaphores ≡ k.counts.semaphores + 1) × (value_at z.locks k.counts.semaphores ≡ c.head.first)
    unfolding add_semaphore
    fills_semaphore =
        let l = room_semaphore k.counts (as_mark e p).formal.room in
        rw is_semaphore (refl, value_same k.locks k.counts.semaphores c.head.first (omega (arith, tables.semaphores)))

  module _ (e : m ≡ DB) where
    is_bolt : declaration m c k ≡ add_bolt k
    unfolding declaration
    is_bolt = rw e

    fills_bolt : let b = bolt_at z.locks k.counts.bolts in
        (z.counts.bolts ≡ k.counts.bolts + 1) × (b.writer ≡ false) × (b.readers ≡ 0)
    unfolding add_bolt
    fills_bolt =
        let l = room_bolt k.counts (as_mark e p).formal.room in
        let q = bolt_same k.locks k.counts.bolts empty_bolt (omega (arith, tables.bolts)) in
        rw is_bolt (refl, ap (λ (b : Bolt). b.writer) q, ap (λ (b : Bolt). b.readers) q)

  module _ (e : m ≡ IT) where
    is_interrupt : declaration m c k ≡ add_interrupt k
    unfolding declaration
    is_interrupt = rw e

    fills_interrupt : (z.counts.interrupts ≡ k.counts.interrupts + 1) × (enabled_at z k.counts.interrupts ≡ false)
    unfolding add_interrupt
    fills_interrupt =
        let l = room_interrupt k.counts (as_mark e p).formal.room in
        rw is_interrupt (refl, get_or-set_same k.enabled k.counts.interrupts false false (omega (arith, tables.enabled)))

  sets_clock : m ≡ DC → z.clock ≡ c.head.first
  unfolding declaration
  sets_clock e = rw e

  keeps : KeepsDeclared k z
  unfolding add_task add_semaphore add_bolt add_interrupt
  keeps =
      let n = k.counts in
      declaration_cases m c k (λ y. KeepsDeclared k (with_file f y))
      (λ e. record {
        tasks = λ i l. get_or-set_other k.tasks n.tasks i (fresh_task c.head.priority) no_task (λ q. omega arith);
        places = λ i l. get_or-set_other k.places n.tasks i n.tasks 0 (λ q. omega arith);
        semaphores = λ x l. refl;
        bolts = λ x l. refl;
        interrupts = λ i l. refl;
        now = refl;
        begun = refl;
      })
      (λ e. record { tasks = λ i l. refl; places = λ i l. refl; semaphores = λ x l. value_other k.locks n.semaphores c.head.first x (λ q. omega arith); bolts = λ x l. refl; interrupts = λ i l. refl; now = refl; begun = refl })
      (λ e. record { tasks = λ i l. refl; places = λ i l. refl; semaphores = λ x l. refl; bolts = λ x l. bolt_other k.locks n.bolts empty_bolt x (λ q. omega arith); interrupts = λ i l. refl; now = refl; begun = refl })
      (λ e. record { tasks = λ i l. refl; places = λ i l. refl; semaphores = λ x l. refl; bolts = λ x l. refl; interrupts = λ i l. get_or-set_other k.enabled n.interrupts i false false (λ q. omega arith); now = refl; begun = refl })
      (λ e. record { tasks = λ i l. refl; places = λ i l. refl; semaphores = λ x l. refl; bolts = λ x l. refl; interrupts = λ i l. refl; now = refl; begun = refl })
      (record { tasks = λ i l. refl; places = λ i l. refl; semaphores = λ x l. refl; bolts = λ x l. refl; interrupts = λ i l. refl; now = refl; begun = refl })

  fills : Declares k z c.head
  unfolding add_task add_semaphore add_bolt add_interrupt
  fills =
      record {
        task = fills_task;
        semaphore = fills_semaphore;
        bolt = fills_bolt;
        interrupt = fills_interrupt;
        clock = sets_clock;
        tasks = λ ne. declaration_cases m c k (λ y. y.counts.tasks ≡ k.counts.tasks) (λ e. absurd (ne e)) (λ e. refl) (λ e. refl) (λ e. refl) (λ e. refl) refl;
        semaphores = λ ne. declaration_cases m c k (λ y. y.counts.semaphores ≡ k.counts.semaphores) (λ e. refl) (λ e. absurd (ne e)) (λ e. refl) (λ e. refl) (λ e. refl) refl;
        bolts = λ ne. declaration_cases m c k (λ y. y.counts.bolts ≡ k.counts.bolts) (λ e. refl) (λ e. refl) (λ e. absurd (ne e)) (λ e. refl) (λ e. refl) refl;
        interrupts = λ ne. declaration_cases m c k (λ y. y.counts.interrupts ≡ k.counts.interrupts) (λ e. refl) (λ e. refl) (λ e. refl) (λ e. absurd (ne e)) (λ e. refl) refl;
        unset = λ ne. declaration_cases m c k (λ y. y.clock ≡ k.clock) (λ e. refl) (λ e. refl) (λ e. refl) (λ e. refl) (λ e. absurd (ne e)) refl;
        keeps = keeps;
      }

carry_declared : (day : ℕ) (k : State) (c : Call) → declares c.head.mark ≡ true → (carry_out day k c).state ≡ with_file (file_of k) (declaration c.head.mark c k)
unfolding carry_out declared
carry_declared day k c d = rw d

pub declarations_fill : DeclarationsFill
declarations_fill day k s c tables h d =
    let e = ap (λ (y : Stepped). y.state) (step_out day k s c h) ∙ carry_declared day k c d in
    subst (λ (y : State). Declares k y c.head) (sym e) (fills day k c tables (passed day k c (no_refusal day k s c h)) (file_of k))
