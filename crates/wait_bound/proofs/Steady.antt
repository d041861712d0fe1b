-- A task that goes on living keeps its priority, but for a CONTINUE.
use Rattle.std.specs.Prelude.{None, Ok, Option, Some}
use mathlib.Core.Path.{◌≡◌, refl, sym, ap, ◌∙◌}
use mathlib.Core.Bool.{Bool, true, false, not, ◌&&◌, ◌||◌, and-true, and-false}
use mathlib.Core.List.{List}
use Prim.Native.Nat.{ℕ, ◌<◌}
use lib.Dec.{eqb}
use lib.Seq.{get_or-set_same, get_or-set_other}
use borrow.Author.Tests.{eq-eqb, not-true}
use Rattle.calendar.specs.declared.Instant.{Instant}
use Rattle.layout.specs.Fields.{Octets}
use Rattle.layout.specs.Marks.{is}
use Rattle.layout.specs.declared.Call.{Call}
use Rattle.layout.specs.declared.Head.{Head}
use Rattle.layout.specs.declared.Mark.{Mark}
use Rattle.layout.specs.declared.Mark.TheVariants.{AC, TE, SU, PR, CO, RE, TG, TI, SL}
use Rattle.record.specs.Refusals.{named}
use Rattle.record.specs.Reading.{accepted, opened}
use Rattle.lock.specs.declared.Locks.{Locks}
use Rattle.lock.specs.declared.Wait.{Wait}
use Rattle.schedule.specs.Alarms.{listening, falls, listens}
use Rattle.schedule.specs.Schedules.{advance, triggered}
use Rattle.schedule.specs.declared.Alarm.{Alarm}
use Rattle.facts.proofs.Bools.{by_bool, by_eq, contra, both, neither}
use Rattle.task.specs.State.{no_task, with_schedule}
use Rattle.task.specs.Continuations.{or_else, spent, continued, continue_at, called_by}
use Rattle.task.specs.Turns.{due_if, end_if, prevent_turn, suspend_turn, delay_turn, delay_ends, wake, fall_turn, tick_turn, start_turn, trigger_turn, rest_turn}
use Rattle.task.specs.declared.Task.{Task}
use Rattle.task.specs.declared.Turn.{Turn}
use Rattle.machine.specs.Sets.{Ended, holds, mark}
use Rattle.machine.specs.State.{task_at, enabled_at}
use Rattle.machine.specs.Sorts.{sort_of, runner_at}
use Rattle.machine.specs.Running.{runner}
use Rattle.machine.specs.Granting.{could_be_granted}
use Rattle.machine.specs.Work.{Work, changed, only_enabled, every_turn}
use Rattle.machine.specs.Test.{valid}
use Rattle.machine.specs.Step.{finish, declared, step}
use Rattle.machine.specs.Invariants.{IsDay, Passes}
use Rattle.machine.specs.Activation.{alarm_by, schedule_of, activate_by, resume_by}
use Rattle.machine.specs.Calls.{named_turn, runner_turn, ask_for, change_of, trigger_in, interrupt_by, arrive, arrival, work_by, work_of}
use Rattle.machine.specs.declared.Change.{Change}
use Rattle.machine.specs.declared.State.{State}
use Rattle.machine.specs.declared.Sort.{Sort}
use Rattle.machine.specs.declared.Sort.TheVariants.{Declaration, OneTask, TheRunner, ListAsked, ListGiven, AnInterrupt, EveryTask}
use Rattle.machine.proofs.Filing.{taken_valid}
use Rattle.machine.proofs.SetLaws.{has_only}
use Rattle.machine.proofs.Sorts.{continue_mark, tick_mark}
use Rattle.machine.proofs.Works.{set_at}
use Rattle.machine.proofs.Accepted.{in_table, table, every_at, finish_keeps, held_on}
use Rattle.machine.proofs.Refused.{refused_untouched}
use Rattle.wait_bound.specs.Waiting.{stage_of, ends, changes_at}
use Rattle.wait_bound.specs.Priorities.{continues, OnlyContinues}
use Rattle.wait_bound.proofs.Shapes.{Shape, refuses, declares_one, carries_out, shape}
use Rattle.wait_bound.proofs.Waits.{declared_task}
use Rattle.lock.proofs.Bits.{eqb_bit}

-- ---- one task's turn

-- Where it was alive and isn't ended.
abbrev Steady : Task → Turn → Type 0
Steady t u = t.alive ≡ true → u.marks.ended ≡ false → u.task.current ≡ t.current

due_steady : (b : Bool) (k : Option ℕ) (p : ℕ) (t : Task) → b ≡ true → (due_if b k p t).task.current ≡ t.current
unfolding due_if
due_steady false k p t a = contra a refl
due_steady true None p t a = refl
due_steady true (Some q) p t a = refl

fall_steady : (n : Instant) (t : Task) → t.alive ≡ true → (fall_turn n t).task.current ≡ t.current
unfolding fall_turn
fall_steady n t a =
    by_bool (falls n t.schedule.alarm)
    (λ e. rw e (due_steady t.alive t.kept t.schedule.priority (with_schedule (advance n t.schedule) t) a)) (λ e. rw e)

end_steady : (k : Option ℕ) (t : Task) → (end_if k t).marks.ended ≡ false → (end_if k t).task.current ≡ t.current
unfolding end_if
end_steady None t e = contra refl e
end_steady (Some p) t e = contra refl e

spent_steady : (t : Task) → (spent t).current ≡ t.current
unfolding spent
spent_steady t = by_bool (listening t.continuation.plan && not t.resumed) (λ e. rw e) (λ e. rw e)

rest_steady : (n : Instant) (a : Alarm) (t : Task) → (rest_turn n a t).task.current ≡ t.current
unfolding continue_at continued
rest_steady n a t = by_bool (falls n a) (λ e. rw e (spent_steady _)) (λ e. rw e)

wake_same : (n : Instant) (t : Task) → ((wake n t).alive ≡ t.alive) × ((wake n t).current ≡ t.current) × ((wake n t).continuation ≡ t.continuation)
unfolding wake
wake_same n t = by_bool (delay_ends n t.hold) (λ e. rw e (refl, refl, refl)) (λ e. rw e (refl, refl, refl))

not_due : (n : Instant) (t : Task) → falls n t.continuation ≡ false → continue_at n t ≡ t
unfolding continue_at
not_due n t f = rw f

tick_steady : (n : Instant) (t : Task) → falls n t.continuation ≡ false → Steady t (tick_turn n t)
tick_steady n t f a e =
    let w = wake_same n t in
    ap (λ u. (fall_turn n u).task.current) (not_due n (wake n t) (ap (falls n) w.2 ∙ f)) ∙ fall_steady n (wake n t) (w.0 ∙ a) ∙ w.1

start_steady : (day clock : ℕ) (n : Instant) (i : ℕ) (t : Task) → t.alive ≡ true → (start_turn day clock n i t).task.current ≡ t.current
unfolding start_turn
start_steady day clock n i t a =
    by_bool (listens i t.schedule.alarm) (λ z. rw z (fall_steady n (with_schedule (triggered day clock n t.schedule) t) a)) (λ z. rw z)

not_called : (n : Instant) (i : ℕ) (t : Task) → listens i t.continuation ≡ false → called_by n i t ≡ t
unfolding called_by
not_called n i t f = rw f

trigger_steady : (day clock : ℕ) (n : Instant) (i : ℕ) (t : Task) → listens i t.continuation ≡ false → Steady t (trigger_turn day clock n i t)
trigger_steady day clock n i t f a e =
    ap (λ u. (start_turn day clock n i u).task.current) (not_called n i t f) ∙ start_steady day clock n i t a

module _ (day clock : ℕ) (n : Instant) (h : Head) (t : Task) where
  activate_steady : t.alive ≡ true → (activate_by day clock n h t).task.current ≡ t.current
  unfolding activate_by
  activate_steady a =
      by_bool (eqb h.kind 0) (λ e. rw e (due_steady t.alive t.kept (or_else h.priority t.declared) t a))
      (λ e. rw e (fall_steady n (with_schedule (schedule_of day clock n h (or_else h.priority t.declared)) t) a))

  -- AC, TE, SU and PR.
  named_steady : (m : Mark) → sort_of m ≡ OneTask → is m CO ≡ false → Steady t (named_turn day clock n m h t)
  unfolding named_turn suspend_turn prevent_turn
  named_steady m one co =
      by_bool (is m AC) (λ ac. rw ac (λ a e. activate_steady a))
      (λ ac. rw ac (by_bool (is m TE) (λ te. rw te (λ a e. end_steady t.kept t e))
      (λ te. rw te (by_bool (is m SU) (λ su. rw su (λ a e. refl))
      (λ su. rw su (by_bool (is m PR) (λ pr. rw pr (λ a e. refl)) (λ pr. contra (continue_mark m one ac te su pr) co)))))))

  -- EN and RE.
  runner_steady : (m : Mark) → Steady t (runner_turn day clock n m h t)
  unfolding runner_turn resume_by delay_turn
  runner_steady m =
      by_bool (is m RE)
      (λ re. rw re (by_bool (eqb h.kind 0) (λ z. rw z (λ a e. refl)) (λ z. rw z (λ a e. rest_steady n (alarm_by day clock n h) t))))
      (λ re. rw re (λ a e. end_steady t.kept t e))

asks_steady : (n : ℕ) (ts : List Task) (w : Wait) (b : Bool) (c : Call) (t : Task) (l : Locks) → (ask_for n ts w b c t l).task.current ≡ t.current
unfolding ask_for
asks_steady n ts w b c t l =
    by_bool (could_be_granted n ts l t.current w (named c)) (λ e. rw e) (λ e. rw e (by_bool b (λ z. rw z) (λ z. rw z)))

-- ---- a call's work

module _ (day : ℕ) (k : State) (v : valid day k ≡ true) (c : Call) (i : ℕ) (l : i < k.counts.tasks)
    (calm : continues k (Ok c.head) i ≡ false) where
  abbrev t : Task
  t = task_at k.tasks i

  abbrev m : Mark
  m = c.head.mark

  -- What the second hypothesis asks of a work.
  abbrev SteadyIn : Work → Type 0
  SteadyIn w = t.alive ≡ true → holds i w.sets.ended ≡ false → (task_at w.tasks i).current ≡ t.current

  one_steady : (j : ℕ) (x : Change)
      → (i ≡ j → (task_at k.tasks j).alive ≡ true → x.marks.ended ≡ false → x.task.current ≡ (task_at k.tasks j).current)
      → SteadyIn (changed k j x)
  unfolding changed
  one_steady j x f =
      by_eq i j
      (λ q. rw (q, get_or-set_same k.tasks j x.task no_task (in_table day k v j (rw q at l)), has_only j x.marks.ended, eqb_bit x.marks.ended) (f q))
      (λ q a e. rw (get_or-set_other k.tasks j i x.task no_task q))

  every_steady : (n : Instant) (f : Task → Turn) → Steady t (f t) → SteadyIn (every_turn k n f)
  every_steady n f s =
      rw (every_at k n f (table day k v) i l)
      (unfold every_turn in rw (set_at k.counts.tasks f k.tasks (table day k v) (λ u. mark Ended u.marks) i l, eqb_bit (f t).marks.ended) s)

  none_steady : (es : List Bool) → SteadyIn (only_enabled k es)
  unfolding only_enabled
  none_steady es a e = refl

  -- The three parts of the test.
  parts : ((is m CO && eqb c.head.number i) ≡ false) × ((is m TG && enabled_at k c.head.number && listens c.head.number t.continuation) ≡ false)
      × (((is m TI || is m SL) && falls (arrival m k) t.continuation) ≡ false)
  parts =
      let a = neither _ ((is m TI || is m SL) && falls (arrival m k) t.continuation) calm in
      let b = neither (is m CO && eqb c.head.number i) (is m TG && enabled_at k c.head.number && listens c.head.number t.continuation) a.0 in
      (b.0, b.1, a.1)

  interrupt_steady : SteadyIn (work_by day AnInterrupt k c)
  unfolding work_by interrupt_by trigger_in
  interrupt_steady =
      by_bool (is m TG)
      (λ e. rw e (by_bool (enabled_at k c.head.number)
      (λ on. rw on (every_steady k.now _ (trigger_steady day k.clock k.now c.head.number t (rw (e, on) at parts.1))))
      (λ on. rw on (none_steady k.enabled))))
      (λ e. rw e (none_steady _))

  work_steady : (x : Sort) → sort_of m ≡ x → SteadyIn (work_by day x k c)
  work_steady Declaration q = unfold work_by in none_steady k.enabled
  work_steady OneTask q =
      unfold work_by change_of in one_steady c.head.number _ (λ z.
      named_steady day k.clock k.now c.head (task_at k.tasks c.head.number) m q (rw (eq-eqb c.head.number i (sym z), and-true) at parts.0))
  work_steady TheRunner q =
      unfold work_by change_of in one_steady (runner_at (runner k)) _ (λ z.
      runner_steady day k.clock k.now c.head (task_at k.tasks (runner_at (runner k))) m)
  work_steady (ListAsked w b) q =
      unfold work_by change_of in one_steady (runner_at (runner k)) _ (λ z a e.
      asks_steady k.counts.tasks k.tasks w b c (task_at k.tasks (runner_at (runner k))) k.locks)
  work_steady (ListGiven w) q = unfold work_by change_of in one_steady (runner_at (runner k)) _ (λ z a e. refl)
  work_steady AnInterrupt q = interrupt_steady
  work_steady EveryTask q =
      unfold work_by arrive in every_steady (arrival m k) (tick_turn (arrival m k))
      (tick_steady (arrival m k) t (rw (tick_mark m q) at parts.2))

-- ---- a step

-- The same task has not changed.
same_current : (day : ℕ) (k : State) (b : List ℕ) (i : ℕ) → (task_at (step day k b).state.tasks i).current ≡ (task_at k.tasks i).current
    → changes_at (stage_of day k b) i ≡ false
same_current day k b i e = rw (eq-eqb _ _ e) (and-false ((task_at k.tasks i).alive && not (ends i (stage_of day k b))))

module _ (day : ℕ) (is_day : IsDay day) (k : State) (p : Passes day k) (b : List ℕ) (o : Octets b) (i : ℕ) (l : i < k.counts.tasks)
    (changes : changes_at (stage_of day k b) i ≡ true) where
  abbrev Continued : Type 0
  Continued = (eqb (step day k b).answer.number 0 && continues k (opened b).answer i) ≡ true

  called : (c : Call) → opened b ≡ accepted c → step day k b ≡ finish k (work_of day k c) → Continued
  called c q e =
      let number : (step day k b).answer.number ≡ 0 = rw e (unfold finish in refl) in
      let w = work_of day k c in
      by_bool (continues k (Ok c.head) i) (λ y. rw (number, q) y)
      (λ y.
      let s = work_steady day k (taken_valid day k p.tested) c i l y (sort_of c.head.mark) refl in
      let f = (held_on (task_at w.tasks i) (task_at (finish k w).state.tasks i) (finish_keeps k w i)).current in
      let a = (both ((task_at k.tasks i).alive && not (ends i (stage_of day k b))) _ changes).0 in
      let h = both (task_at k.tasks i).alive (not (ends i (stage_of day k b))) a in
      let ended : holds i w.sets.ended ≡ false = unfold finish in rw e at (not-true (ends i (stage_of day k b)) h.1) in
      contra changes (same_current day k b i (rw e (f ∙ s h.0 ended))))

  by_shape : Shape day k b → Continued
  by_shape (refuses ne) = contra changes (same_current day k b i (rw (refused_untouched day k b ne).state))
  by_shape (declares_one c q d e) =
      contra changes (same_current day k b i (rw e (unfold declared in ap (λ (u : Task). u.current) (declared_task k c.head.mark c i l))))
  by_shape (carries_out c q did e) = called c q e

pub only_continues : OnlyContinues
only_continues day is_day k p b o i l changes = by_shape day is_day k p b o i l changes (shape day is_day k p b o)
