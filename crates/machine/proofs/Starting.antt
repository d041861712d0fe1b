-- The turn that each declared task has in an accepted call: the priority that its start takes, and the marks that it has.
use Rattle.std.specs.Prelude.{None, Some}
use mathlib.Core.Path.{◌≡◌, refl, sym, ap, subst, ◌∙◌}
use mathlib.Core.Logic.{◌≢◌}
use mathlib.Core.Bool.{Bool, true, false, not, cond, ◌&&◌, ◌||◌, and-false, or-false}
use mathlib.Core.List.{List}
use Prim.Native.Nat.{ℕ, ◌<◌}
use native.Mathlib.Omega.{arith}
use lib.Dec.{eqb}
use lib.Seq.{get_or-set_other}
use borrow.Author.Tests.{eq-eqb, ne_eqb}
use Rattle.calendar.specs.Moments.{is_at}
use Rattle.calendar.specs.declared.Instant.{Instant}
use Rattle.layout.specs.Marks.{is}
use Rattle.layout.specs.declared.Call.{Call}
use Rattle.layout.specs.declared.Head.{Head}
use Rattle.layout.specs.declared.Mark.{Mark}
use Rattle.layout.specs.declared.Mark.TheVariants.{AC, TE, SU, PR, CO, EN, RE, TG, TI, SL}
use Rattle.layout.proofs.MarksLaws.{is_mark}
use Rattle.record.specs.Refusals.{scheduled, on_interrupt, named}
use Rattle.facts.proofs.Bools.{tests, by_bool, by_eq, contra, both}
use Rattle.lock.specs.Locks.{bit, give_all}
use Rattle.lock.specs.declared.Wait.{Wait}
use Rattle.lock.specs.declared.Wait.TheVariants.{Nothing}
use Rattle.lock.proofs.Bits.{eqb_bit}
use Rattle.schedule.specs.Alarms.{alarm_of, planned, falls, listens}
use Rattle.schedule.specs.Coming.{next_of}
use Rattle.schedule.specs.declared.Schedule.{Schedule}
use Rattle.schedule.proofs.Coming.{falls_at_next}
use Rattle.task.specs.State.{no_task, wait_for}
use Rattle.task.specs.Continuations.{or_else}
use Rattle.task.specs.Continuing.{SameHold}
use Rattle.task.specs.Starting.{Clear, Takes, TakesIn, MarkedAs, Plans}
use Rattle.task.specs.Turns.{unmarked, prevent_turn, tick_turn, plan_turn}
use Rattle.task.specs.declared.Marks.{Marks}
use Rattle.task.specs.declared.Task.{Task}
use Rattle.task.specs.declared.Turn.{Turn}
use Rattle.task.proofs.Laws.{given_taken}
use Rattle.task.proofs.Starting.{takes_none, turns_take, turns_mark, living_goes_on, schedules_keep}
use Rattle.machine.specs.declared.Change.{Change}
use Rattle.machine.specs.Running.{Running, runner, someone}
use Rattle.machine.specs.declared.Sets.{Sets}
use Rattle.machine.specs.declared.Sort.{Sort}
use Rattle.machine.specs.declared.Sort.TheVariants.{Declaration, OneTask, TheRunner, ListAsked, ListGiven, AnInterrupt, EveryTask}
use Rattle.machine.specs.declared.State.{State}
use Rattle.machine.specs.declared.Stepped.{Stepped}
use Rattle.machine.specs.Sets.{Set, Due, Started, Ended, Lost, has, holds, mark, members, marks_of}
use Rattle.machine.specs.State.{task_at, enabled_at, fresh_task}
use Rattle.machine.specs.Granting.{could_be_granted}
use Rattle.machine.specs.Sorts.{sort_of, declaring, declares, needs_runner, naming, runner_at}
use Rattle.machine.specs.Work.{Work, by_turn, by_locks, changed, only_enabled, every_turn}
use Rattle.machine.specs.Test.{valid}
use Rattle.machine.specs.Activation.{alarm_by, schedule_of, activate_by, continue_by, resume_by}
use Rattle.machine.specs.Calls.{add_task, add_semaphore, add_bolt, add_interrupt, declaration, named_turn, runner_turn, ask_for, change_of, trigger_in, interrupt_by, arrive, arrival, work_by, work_of}
use Rattle.machine.specs.Step.{finish, declared, carry_out, step}
use Rattle.machine.specs.Continuing.{SameButWait, Accepts, task_after, first_of, is_runner}
use Rattle.machine.specs.Members.{activates, comes_due, comes_to_end}
use Rattle.machine.specs.Starting.{TakesAt, StartsTake, SchedulesTake}
use Rattle.machine.proofs.Passed.{refusal_of, Passed, passed, unrefused}
use Rattle.machine.proofs.Sorts.{listing, other_mark, continue_mark, end_mark, tick_mark}
use Rattle.machine.proofs.SetLaws.{no_members, unmarked_none, has_empty}
use Rattle.machine.proofs.Cases.{out_cases, declaration_cases}
use Rattle.machine.proofs.Rules.{turns_mark_sets}
use Rattle.machine.proofs.Serving.{grant_at, grant_other, serve_keeps}
use Rattle.machine.proofs.Accepted.{hold_on, finish_keeps, in_table, table, no_refusal, step_out, one_at, every_at}
use Rattle.machine.proofs.Continuing.{sched}
use Rattle.machine.proofs.Undisturbed.{at_once}

-- ---- the marks of a call

-- TI and SL.
abbrev timely : Sort → Bool
timely Declaration = false
timely OneTask = false
timely TheRunner = false
timely (ListAsked w b) = false
timely (ListGiven w) = false
timely AnInterrupt = false
timely EveryTask = true

-- None of the marks that make a start come due without naming a task.
record NoEvent (m : Mark) : Type 0 where
  trigger : is m TG ≡ false
  time : (is m TI || is m SL) ≡ false

no_event : (p : Sort → Bool) (m : Mark) → p AnInterrupt ≡ true → p EveryTask ≡ true → p (sort_of m) ≡ false → NoEvent m
no_event p m a b e =
    record {
      trigger = other_mark p m TG a e;
      time = rw (other_mark p m TI b e, other_mark p m SL b e);
    }

-- ---- ACTIVATE

module _ (day : ℕ) (k : State) (h : Head) (t : Task) where
  abbrev given : ℕ
  given = or_else h.priority t.declared

  abbrev by : Turn
  by = activate_by day k.clock k.now h t

  activate_takes : TakesIn given t by
  unfolding activate_by schedule_of
  activate_takes =
      by_bool (eqb h.kind 0) (λ e. rw e (turns_take.due given t))
      (λ e. rw e (turns_take.schedule k.now (schedule_of day k.clock k.now h given) t))

  activate_due : falls k.now (schedule_of day k.clock k.now h given).alarm ≡ (not (on_interrupt h.kind) && eqb (first_of day k h).0 k.now.0)
  unfolding schedule_of alarm_of
  activate_due = by_bool (on_interrupt h.kind) (λ e. rw e) (λ e. rw e)

  activate_marks : MarkedAs (eqb h.kind 0 || (not (on_interrupt h.kind) && eqb (first_of day k h).0 k.now.0)) false t by.marks
  unfolding activate_by
  activate_marks =
      by_bool (eqb h.kind 0) (λ e. rw e (turns_mark.due given t))
      (λ e. let s = schedule_of day k.clock k.now h given in
      rw e (subst (λ (b : Bool). MarkedAs b false t (plan_turn k.now s t).marks) (falls_at_next k.now s.alarm ∙ activate_due) (turns_mark.schedule k.now s t)))

  activate_holds : t.alive ≡ true → SameHold t by.task
  unfolding activate_by
  activate_holds a =
      by_bool (eqb h.kind 0) (λ e. rw e (living_goes_on.due given t a))
      (λ e. rw e (living_goes_on.schedule k.now (schedule_of day k.clock k.now h given) t a))

  activate_plans : scheduled h.kind ≡ true → Plans given by.task
  unfolding activate_by schedule_of
  activate_plans e = rw (sched h.kind e) (schedules_keep.schedule k.now (schedule_of day k.clock k.now h given) t)

  activate_leaves : scheduled h.kind ≡ false → by.task.schedule ≡ t.schedule
  unfolding activate_by
  activate_leaves e = rw (at_once h.kind e) (schedules_keep.due given t)

-- ---- one task's turn

takes_as : {p q : ℕ} {t u : Task} {m : Marks} → p ≡ q → Takes p t m u → Takes q t m u
takes_as {t = t} {u = u} {m = m} e x = subst (λ (y : ℕ). Takes y t m u) e x

priority_of : {s r : Schedule} → s ≡ r → s.priority ≡ r.priority
priority_of e = ap (λ (x : Schedule). x.priority) e

module _ (day : ℕ) (k : State) (v : valid day k ≡ true) (c : Call) (p : Passed day c.head.mark k c)
    (i : ℕ) (l : i < k.counts.tasks) where
  abbrev t : Task
  t = task_at k.tasks i

  abbrev m : Mark
  m = c.head.mark

  -- The priority of a start that comes due, and that of the schedule after the call.
  abbrev pub of_start : ℕ
  of_start = cond (activates c i) (or_else c.head.priority t.declared) t.schedule.priority

  abbrev pub of_plan : ℕ
  of_plan = cond (activates c i && scheduled c.head.kind) (or_else c.head.priority t.declared) t.schedule.priority

  pub record Fits (n : Instant) (x : Turn) : Type 0 where
    pub takes : TakesIn of_start t x
    pub plans : Plans of_plan x.task
    pub living : activates c i ≡ true → t.alive ≡ true → SameHold t x.task
    pub marks : MarkedAs (comes_due day k c n i) (comes_to_end k c i) t x.marks

  pub record Got (w : Work) : Type 0 where
    pub turn : Turn
    pub at : task_at w.tasks i ≡ turn.task
    pub sets : (y : Set) → has i (members y w.sets) ≡ bit (mark y turn.marks)
    pub fits : Fits w.now turn

  -- A turn in which nothing comes due and no schedule is given.
  fits_by : (n : Instant) (x : Turn) (e : Bool) → ((q : ℕ) → TakesIn q t x) → Plans t.schedule.priority x.task
      → MarkedAs false e t x.marks → comes_due day k c n i ≡ false → comes_to_end k c i ≡ e → activates c i ≡ false → Fits n x
  fits_by n x e f s g a b z =
      record {
        takes = f of_start;
        plans = λ y. s y ∙ sym (rw z);
        living = λ y w. contra y z;
        marks = rw (a, b) g;
      }

  -- No turn: neither the declared priority nor the schedule changes.
  fits_idle : (n : Instant) (u : Task) (g : Bool) → u.declared ≡ t.declared → u.kept ≡ t.kept → u.schedule ≡ t.schedule
      → comes_due day k c n i ≡ false → comes_to_end k c i ≡ false → activates c i ≡ false
      → Fits n (record { task = u; marks = record { due = false; started = false; ended = false; lost = false; granted = g } })
  fits_idle n u g d x s a b z =
      fits_by n _ false (λ q. takes_none q t u g d x) (λ y. priority_of s) (record { is_due = refl; is_ended = refl; is_started = refl }) a b z

  -- ---- whether it comes due or ends

  no_due : (n : Instant) → activates c i ≡ false → NoEvent m → comes_due day k c n i ≡ false
  unfolding comes_due
  no_due n a e = rw (a, e.trigger, e.time)

  -- ---- works

  -- Task j is changed, as x says.
  got_one : (j : ℕ) (x : Task → Change) → (i ≡ j → (n : Instant) → Fits n (record { task = (x t).task; marks = (x t).marks }))
      → (i ≢ j → (n : Instant) → Fits n (unmarked t)) → Got (changed k j (x (task_at k.tasks j)))
  got_one j x f g =
      let w = changed k j (x (task_at k.tasks j)) in
      by_eq i j
      (λ z. record {
        turn = record { task = (x t).task; marks = (x t).marks };
        at = rw z (one_at k j (x (task_at k.tasks j)) (in_table day k v j (rw z at l)));
        sets = λ y. rw z (turns_mark_sets.one k j (x (task_at k.tasks j)) y);
        fits = f z w.now;
      })
      (λ z. record {
        turn = unmarked t;
        at = unfold changed in get_or-set_other k.tasks j i (x (task_at k.tasks j)).task no_task z;
        sets = λ y. rw (unmarked_none y t) (turns_mark_sets.others k j (x (task_at k.tasks j)) y i z);
        fits = g z w.now;
      })

  got_none : (es : List Bool) → ((n : Instant) → Fits n (unmarked t)) → Got (only_enabled k es)
  got_none es f =
      record {
        turn = unmarked t;
        at = unfold only_enabled in refl;
        sets = λ y. unfold only_enabled in rw (no_members y, unmarked_none y t) (has_empty i);
        fits = f (only_enabled k es).now;
      }

  got_every : (n : Instant) (f : Task → Turn) → Fits n (f t) → Got (every_turn k n f)
  got_every n f x =
      record {
        turn = f t;
        at = every_at k n f (table day k v) i l;
        sets = λ y. turns_mark_sets.each k n f y i (table day k v) l;
        fits = unfold every_turn in x;
      }

  -- ---- a task that is named

  activated : (n : Instant) → m ≡ AC → eqb c.head.number i ≡ true → Fits n (activate_by day k.clock k.now c.head t)
  activated n e q =
      let a : activates c i ≡ true = rw (e, q) in
      record {
        takes = takes_as (sym (rw a)) (activate_takes day k c.head t);
        plans =
            by_bool (scheduled c.head.kind) (λ s y. activate_plans day k c.head t s y ∙ sym (rw (a, s)))
            (λ s y. priority_of (activate_leaves day k c.head t s) ∙ sym (rw (a, s)));
        living = λ y w. activate_holds day k c.head t w;
        marks = rw (due_now, no_end) (activate_marks day k c.head t);
      }
    where
      due_now : comes_due day k c n i
          ≡ (eqb c.head.kind 0 || (not (on_interrupt c.head.kind) && eqb (first_of day k c.head).0 k.now.0))
      due_now = unfold comes_due in rw (e, q) (simp tests)

      no_end : comes_to_end k c i ≡ false
      no_end = unfold comes_to_end in rw e

  -- The other marks that name a task.
  unactivated : (x : Mark) → m ≡ x → is x AC ≡ false → activates c i ≡ false
  unactivated x e z = rw (e, z)

  no_event_at : (x : Mark) → m ≡ x → NoEvent x → NoEvent m
  no_event_at x e h = rw e h

  ended : (n : Instant) (e : Bool) (x : Mark) (u : Turn) → m ≡ x → is x AC ≡ false → NoEvent x → comes_to_end k c i ≡ e
      → ((q : ℕ) → TakesIn q t u) → Plans t.schedule.priority u.task → MarkedAs false e t u.marks → Fits n u
  ended n e x u y z none b f s g =
      let a = unactivated x y z in
      fits_by n u e f s g (no_due n a (no_event_at x y none)) b a

  continue_fits : (n : Instant) → m ≡ CO → Fits n (continue_by day k.clock k.now c.head t)
  unfolding continue_by
  continue_fits n e =
      let a = alarm_by day k.clock k.now c.head in
      by_bool (eqb c.head.kind 0)
      (λ z. rw z (ended n false CO _ e refl (record { trigger = refl; time = refl }) (unfold comes_to_end in rw e)
      (λ q. turns_take.continue q _ t) (λ y. priority_of (schedules_keep.continue _ t)) (turns_mark.continue _ t)))
      (λ z. rw z (ended n false CO _ e refl (record { trigger = refl; time = refl }) (unfold comes_to_end in rw e)
      (λ q. turns_take.later q k.now a c.head.priority false t)
      (λ y. priority_of (schedules_keep.later k.now a c.head.priority false t)) (turns_mark.later k.now a c.head.priority false t)))

  prevent_plans : Plans t.schedule.priority (prevent_turn t).task
  prevent_plans e = contra e (schedules_keep.prevent t)

  named_fits : sort_of m ≡ OneTask → eqb c.head.number i ≡ true → (n : Instant)
      → Fits n (named_turn day k.clock k.now m c.head t)
  unfolding named_turn
  named_fits one q n =
      by_bool (is m AC) (λ ac. rw ac (activated n (is_mark m AC ac) q))
      (λ ac. rw ac (by_bool (is m TE)
      (λ te. let e = is_mark m TE te in
      rw te (ended n true TE _ e refl (record { trigger = refl; time = refl }) (unfold comes_to_end in rw (e, q))
      (λ x. turns_take.end x t) (λ y. priority_of (schedules_keep.end t)) (turns_mark.end t)))
      (λ te. rw te (by_bool (is m SU)
      (λ su. let e = is_mark m SU su in
      rw su (ended n false SU _ e refl (record { trigger = refl; time = refl }) (unfold comes_to_end in rw e)
      (λ x. turns_take.suspend x t) (λ y. priority_of (schedules_keep.suspend t)) (turns_mark.suspend t)))
      (λ su. rw su (by_bool (is m PR)
      (λ pr. let e = is_mark m PR pr in
      rw pr (ended n false PR _ e refl (record { trigger = refl; time = refl }) (unfold comes_to_end in rw e)
      (λ x. turns_take.prevent x t) prevent_plans (turns_mark.prevent t)))
      (λ pr. rw pr (continue_fits n (is_mark m CO (continue_mark m one ac te su pr))))))))))

  -- Another task is named.
  other_fits : sort_of m ≡ OneTask → eqb c.head.number i ≡ false → (n : Instant) → Fits n (unmarked t)
  other_fits one q n =
      let a : activates c i ≡ false = rw (q, and-false) in
      fits_idle n t false refl refl refl (no_due n a (no_event (λ s. not (naming s)) m refl refl (rw one)))
      (unfold comes_to_end in rw (q, and-false, other_mark (λ s. not (naming s)) m EN refl (rw one))) a

  named_got : sort_of m ≡ OneTask → Got (work_by day OneTask k c)
  unfolding work_by change_of
  named_got one =
      got_one c.head.number (λ u. by_turn k.locks (named_turn day k.clock k.now m c.head u))
      (λ z n. named_fits one (eq-eqb c.head.number i (sym z)) n)
      (λ z n. other_fits one (ne_eqb c.head.number i (λ y. z (sym y))) n)

  -- ---- the running task

  resume_fits : (n : Instant) → m ≡ RE → Fits n (resume_by day k.clock k.now c.head t)
  unfolding resume_by
  resume_fits n e =
      let a = alarm_by day k.clock k.now c.head in
      by_bool (eqb c.head.kind 0)
      (λ z. rw z (ended n false RE _ e refl (record { trigger = refl; time = refl }) (unfold comes_to_end in rw e)
      (λ q. turns_take.resume q _ t) (λ y. priority_of (schedules_keep.resume _ t)) (turns_mark.resume _ t)))
      (λ z. rw z (ended n false RE _ e refl (record { trigger = refl; time = refl }) (unfold comes_to_end in rw e)
      (λ q. turns_take.rest q k.now a t) (λ y. priority_of (schedules_keep.rest k.now a t)) (turns_mark.rest k.now a t)))

  runner_fits : sort_of m ≡ TheRunner → is_runner (runner k) i ≡ true → (n : Instant)
      → Fits n (runner_turn day k.clock k.now m c.head t)
  unfolding runner_turn
  runner_fits q r n =
      by_bool (is m RE) (λ re. rw re (resume_fits n (is_mark m RE re)))
      (λ re. let e = is_mark m EN (end_mark m q re) in
      rw re (ended n true EN _ e refl (record { trigger = refl; time = refl }) (unfold comes_to_end in rw (e, r))
      (λ x. turns_take.end x t) (λ y. priority_of (schedules_keep.end t)) (turns_mark.end t)))

  -- A call that needs a running task, for another one; and a list for the running one.
  unnamed : needs_runner (sort_of m) ≡ true → activates c i ≡ false
  unnamed z = rw (other_mark (λ s. not (needs_runner s)) m AC refl (rw z))

  without : needs_runner (sort_of m) ≡ true → (n : Instant) → comes_due day k c n i ≡ false
  without z n = no_due n (unnamed z) (no_event (λ s. not (needs_runner s)) m refl refl (rw z))

  runner_got : sort_of m ≡ TheRunner → Got (work_by day TheRunner k c)
  unfolding work_by change_of
  runner_got q = go (runner k) refl (rw q at (unrefused m c (runner k) _ k.locks k.now _ p.state).runs)
    where
      z : needs_runner (sort_of m) ≡ true
      z = rw q

      go : (r : Running) → runner k ≡ r → someone r ≡ true
          → Got (changed k (runner_at r) (by_turn k.locks (runner_turn day k.clock k.now m c.head (task_at k.tasks (runner_at r)))))
      go None e y = contra y refl
      go (Some j) e y =
          got_one j (λ u. by_turn k.locks (runner_turn day k.clock k.now m c.head u))
          (λ x n. runner_fits q (rw (e, eq-eqb j i (sym x))) n)
          (λ x n. fits_idle n t false refl refl refl (without z n)
          (unfold comes_to_end in rw (other_mark (λ s. not (needs_runner s)) m TE refl (rw z), e, ne_eqb j i (λ a. x (sym a)), and-false)) (unnamed z))

  -- ---- lists

  no_end : listing (sort_of m) ≡ true → comes_to_end k c i ≡ false
  unfolding comes_to_end
  no_end e = rw (other_mark (λ s. not (listing s)) m TE refl (rw e), other_mark (λ s. not (listing s)) m EN refl (rw e))

  list_idle : needs_runner (sort_of m) ≡ true → listing (sort_of m) ≡ true → (n : Instant) (u : Task) (g : Bool) → u.declared ≡ t.declared → u.kept ≡ t.kept → u.schedule ≡ t.schedule
      → Fits n (record { task = u; marks = record { due = false; started = false; ended = false; lost = false; granted = g } })
  list_idle z e n u g d x s = fits_idle n u g d x s (without z n) (no_end e) (unnamed z)

  asked_got : (w : Wait) (b : Bool) → sort_of m ≡ ListAsked w b → Got (work_by day (ListAsked w b) k c)
  unfolding work_by change_of ask_for
  asked_got w b q =
      got_one (runner_at (runner k)) (λ u. ask_for k.counts.tasks k.tasks w b c u k.locks)
      (λ z n. by_bool (could_be_granted k.counts.tasks k.tasks k.locks t.current w (named c))
      (λ e. rw e (list_idle (rw q) (rw q) n t true refl refl refl))
      (λ e. rw e (by_bool b (λ y. rw y (list_idle (rw q) (rw q) n (wait_for w c.head.len c.list t) false refl refl refl))
      (λ y. rw y (list_idle (rw q) (rw q) n t false refl refl refl)))))
      (λ z n. list_idle (rw q) (rw q) n t false refl refl refl)

  given_got : (w : Wait) → sort_of m ≡ ListGiven w → Got (work_by day (ListGiven w) k c)
  unfolding work_by change_of
  given_got w q =
      got_one (runner_at (runner k)) (λ u. by_locks u (give_all w k.locks (named c)) false)
      (λ z n. list_idle (rw q) (rw q) n t false refl refl refl)
      (λ z n. list_idle (rw q) (rw q) n t false refl refl refl)

  -- ---- interrupts and time

  interrupt_got : sort_of m ≡ AnInterrupt → Got (work_by day AnInterrupt k c)
  unfolding work_by interrupt_by trigger_in
  interrupt_got q =
      by_bool (is m TG)
      (λ e. let y = is_mark m TG e in
      rw e (by_bool (enabled_at k c.head.number)
      (λ on. rw on (got_every k.now _ (record {
        takes = takes_as (sym (rw y)) (turns_take.trigger day k.clock k.now c.head.number t);
        plans = λ z. schedules_keep.trigger day k.clock k.now c.head.number t z ∙ sym (rw y);
        living = λ a w. contra a unnamed_here;
        marks = rw (due_by k.now y on, quiet) (turns_mark.trigger day k.clock k.now c.head.number t);
      })))
      (λ on. rw on (got_none k.enabled (λ n. fits_idle n t false refl refl refl (unfold comes_due in rw (y, on)) quiet (rw y))))))
      (λ e. rw e (got_none _ (λ n. fits_idle n t false refl refl refl (no_due n unnamed_here (record { trigger = e; time = untimed })) quiet unnamed_here)))
    where
      unnamed_here : activates c i ≡ false
      unnamed_here = rw (other_mark naming m AC refl (rw q))

      untimed : (is m TI || is m SL) ≡ false
      untimed = rw (other_mark timely m TI refl (rw q), other_mark timely m SL refl (rw q))

      quiet : comes_to_end k c i ≡ false
      quiet = unfold comes_to_end in rw (other_mark naming m TE refl (rw q), other_mark needs_runner m EN refl (rw q))

      due_by : (n : Instant) → m ≡ TG → enabled_at k c.head.number ≡ true
          → comes_due day k c n i ≡ (listens c.head.number t.schedule.alarm && eqb t.schedule.alarm.delay.0 0)
      due_by n y on = unfold comes_due in rw (y, on) (simp tests)

  time_got : sort_of m ≡ EveryTask → Got (work_by day EveryTask k c)
  unfolding work_by arrive
  time_got q =
      got_every n (tick_turn n)
      (record {
        takes = takes_as (sym (rw unnamed_here)) (turns_take.tick n t);
        plans = λ z. schedules_keep.tick n t z ∙ sym (rw unnamed_here);
        living = λ a w. contra a unnamed_here;
        marks = rw (due_then, quiet) (turns_mark.tick n t);
      })
    where
      n : Instant
      n = arrival m k

      unnamed_here : activates c i ≡ false
      unnamed_here = rw (other_mark naming m AC refl (rw q))

      quiet : comes_to_end k c i ≡ false
      quiet = unfold comes_to_end in rw (other_mark naming m TE refl (rw q), other_mark needs_runner m EN refl (rw q))

      due_then : comes_due day k c n i ≡ is_at n (next_of t.schedule.alarm)
      due_then = unfold comes_due in rw (unnamed_here, other_mark (λ s. not (timely s)) m TG refl (rw q), tick_mark m q)

  pub call_got : (x : Sort) → sort_of m ≡ x → declaring x ≡ false → Got (work_by day x k c)
  call_got Declaration q e = contra refl e
  call_got OneTask q e = named_got q
  call_got TheRunner q e = runner_got q
  call_got (ListAsked w b) q e = asked_got w b q
  call_got (ListGiven w) q e = given_got w q
  call_got AnInterrupt q e = interrupt_got q
  call_got EveryTask q e = time_got q

-- ---- serving

-- Who waits for nothing goes on so.
finish_clear : (k : State) (w : Work) (i : ℕ) → (task_at w.tasks i).wait ≡ Nothing → (task_at (finish k w).state.tasks i).wait ≡ Nothing
unfolding finish
finish_clear k w i h =
    serve_keeps k.counts.tasks k.places (λ q. (task_at q.tasks i).wait ≡ Nothing)
    (λ q j l e x. by_eq i j (λ z. rw (z, grant_at k.counts.tasks q j e)) (λ z. rw (grant_other q j i z) x))
    k.counts.tasks _ h

module _ (v u : Task) (h : SameButWait v u) (waits : v.wait ≡ Nothing → u.wait ≡ Nothing) where
  clear_on : {b : Bool} → Clear b v → Clear b u
  clear_on x =
      record {
        lives = ap (λ (t : Task). t.alive) h.1 ∙ x.lives;
        hold = ap (λ (t : Task). t.hold) h.1 ∙ x.hold;
        wait = waits x.wait;
        kept = ap (λ (t : Task). t.kept) h.1 ∙ x.kept;
      }

  -- Marks that say the same, and what serving leaves.
  takes_on : (p : ℕ) (t : Task) (m n : Marks) → n.due ≡ m.due → n.started ≡ m.started → n.ended ≡ m.ended → n.lost ≡ m.lost
      → Takes p t m v → Takes p t n u
  takes_on p t m n d s e o x =
      let kept = ap (λ (t : Task). t.kept) h.1 in
      let current = ap (λ (t : Task). t.current) h.1 in
      record {
        made = λ a b. current ∙ x.made (sym d ∙ a) (sym s ∙ b);
        kept = λ a b f. kept ∙ x.kept (sym d ∙ a) (sym s ∙ b) (sym o ∙ f);
        lost = λ a b. kept ∙ x.lost (sym d ∙ a) (sym o ∙ b);
        back = λ q a b. let y = x.back q (sym e ∙ a) b in (s ∙ y.0, current ∙ y.1);
        again = λ a b. current ∙ x.again (sym e ∙ a) (sym s ∙ b);
        begins = λ a. clear_on (x.begins (sym s ∙ a));
        ends = λ a b. clear_on (x.ends (sym e ∙ a) (sym s ∙ b));
        stays = λ a b f. kept ∙ x.stays (sym d ∙ a) (sym e ∙ b) (sym o ∙ f);
        declared = ap (λ (t : Task). t.declared) h.1 ∙ x.declared;
      }

  plans_on : (p : ℕ) → Plans p v → Plans p u
  plans_on p x e =
      let s = ap (λ (t : Task). t.schedule) h.1 in
      priority_of s ∙ x (sym (ap (λ (y : Schedule). planned y.alarm.plan) s) ∙ e)

-- ---- the promises

-- What has number 0 leaves of a declared task.
record Left (day : ℕ) (k : State) (c : Call) (i : ℕ) (z : Stepped) : Type 0 where
  takes : Takes (cond (activates c i) (or_else c.head.priority (task_at k.tasks i).declared) (task_at k.tasks i).schedule.priority)
      (task_at k.tasks i) (marks_of i z.answer.sets) (task_at z.state.tasks i)
  plans : Plans (cond (activates c i && scheduled c.head.kind) (or_else c.head.priority (task_at k.tasks i).declared) (task_at k.tasks i).schedule.priority)
      (task_at z.state.tasks i)
  living : activates c i ≡ true → (task_at k.tasks i).alive ≡ true → SameHold (task_at k.tasks i) (task_at z.state.tasks i)

module _ (day : ℕ) (k : State) (v : valid day k ≡ true) (c : Call) (r : refusal_of day k c ≡ 0) (i : ℕ) (l : i < k.counts.tasks) where
  call_left : (w : Work) → Got day k v c (passed day k c r) i l w → Left day k c i (finish k w)
  call_left w g =
      let x = g.turn in
      let s : SameButWait x.task (task_at (finish k w).state.tasks i) = rw g.at at (finish_keeps k w i) in
      let y : x.task.wait ≡ Nothing → (task_at (finish k w).state.tasks i).wait ≡ Nothing = λ e. finish_clear k w i (rw g.at e) in
      record {
        takes =
            takes_on x.task _ s y _ (task_at k.tasks i) x.marks _
            (unfold finish in in_set Due) (unfold finish in in_set Started) (unfold finish in in_set Ended) (unfold finish in in_set Lost)
            g.fits.takes;
        plans = plans_on x.task _ s y _ g.fits.plans;
        living = λ a e. hold_on x.task _ s (g.fits.living a e);
      }
    where
      in_set : (y : Set) → holds i (members y w.sets) ≡ mark y g.turn.marks
      in_set y = ap (λ (n : ℕ). eqb n 1) (g.sets y) ∙ eqb_bit (mark y g.turn.marks)

  -- A declaration leaves the tasks that there are.
  declared_same : task_at (declaration c.head.mark c k).tasks i ≡ task_at k.tasks i
  unfolding add_task add_semaphore add_bolt add_interrupt
  declared_same =
      declaration_cases c.head.mark c k (λ z. task_at z.tasks i ≡ task_at k.tasks i)
      (λ e. get_or-set_other k.tasks k.counts.tasks i (fresh_task c.head.priority) no_task (λ z. omega arith))
      (λ e. refl) (λ e. refl) (λ e. refl) (λ e. refl) refl

  declared_left : declares c.head.mark ≡ true → Left day k c i (declared k (declaration c.head.mark c k))
  unfolding declared declares
  declared_left d =
      let a : is c.head.mark AC ≡ false = other_mark (λ s. not (declaring s)) c.head.mark AC refl (rw d) in
      record {
        takes = rw (declared_same, has_empty i) (takes_none _ (task_at k.tasks i) (task_at k.tasks i) false refl refl);
        plans = rw declared_same (λ e. sym (rw a));
        living = λ b e. contra b (rw a);
      }

  left : Left day k c i (carry_out day k c)
  left =
      out_cases day k c (Left day k c i) declared_left
      (λ d. call_left (work_of day k c) (call_got day k v c (passed day k c r) i l (sort_of c.head.mark) refl (unfold declares in d)))

module _ (day : ℕ) (k : State) (s : List ℕ) (c : Call) (i : ℕ) (h : Accepts day k s c) (l : i < k.counts.tasks) where
  step_left : Left day k c i (step day k s)
  step_left = rw (step_out day k s c h) (left day k h.tested c (no_refusal day k s c h) i l)

pub starts_take : StartsTake
starts_take =
    record {
      given = λ day k s c i h l a z.
          takes_as (rw a (sym (given_taken c.head.priority (task_at k.tasks i).declared z))) (step_left day k s c i h l).takes;
      declared = λ day k s c i h l a z. takes_as (rw (a, z)) (step_left day k s c i h l).takes;
      scheduled = λ day k s c i h l a. takes_as (rw a) (step_left day k s c i h l).takes;
      living = λ day k s c i h l a e. (step_left day k s c i h l).living a e;
    }

pub schedules_take : SchedulesTake
schedules_take =
    record {
      given = λ day k s c i h l a e z y.
          (step_left day k s c i h l).plans y ∙ rw (a, e) (sym (given_taken c.head.priority (task_at k.tasks i).declared z));
      declared = λ day k s c i h l a e z y. (step_left day k s c i h l).plans y ∙ rw (a, e, z);
      stays = λ day k s c i h l a y. (step_left day k s c i h l).plans y ∙ rw a;
    }
