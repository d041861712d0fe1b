-- An accepted declaration keeps what the kernel test asks.
use mathlib.Core.Path.{◌≡◌, refl, sym, ◌∙◌}
use mathlib.Core.Bool.{Bool, true, false, ◌&&◌}
use mathlib.Core.List.{List}
use Prim.Native.Nat.{ℕ, ◌+◌, ◌≤◌, ◌<◌}
use native.Mathlib.Omega.{arith}
use lib.ListN.{length, set, length-set}
use lib.Seq.{get_or-set_same, get_or-set_other}
use borrow.Author.Tests.{ltb-true, leb-true, le-leb}
use Rattle.layout.specs.declared.Form.{Form}
use Rattle.layout.specs.declared.Form.TheVariants.{DeclaredPriority, Preset}
use Rattle.layout.specs.declared.Mark.TheVariants.{DT, DS, DB, IT, DC}
use Rattle.layout.specs.declared.Call.{Call}
use Rattle.record.specs.Refusals.{most_value, uses, clean_names, clean_start, ranged, formed_as, timed}
use Rattle.lock.specs.Locks.{empty_bolt, waiting, value_at, bolt_at, with_value, with_bolt, level, is_free}
use Rattle.lock.specs.declared.Way.TheVariants.{Take}
use Rattle.lock.specs.declared.Wait.{Wait}
use Rattle.lock.specs.declared.Wait.TheVariants.{Nothing, Request, Reserve, Enter}
use Rattle.lock.specs.declared.Locks.{Locks}
use Rattle.facts.proofs.Bools.{by_bool, by_eq, contra, both, and_both}
use Rattle.lists.proofs.EveryLaws.{every_more}
use Rattle.lock.proofs.Levels.{SameSize, size_refl, size_value, size_bolt, value_same, value_other, bolt_same, bolt_other}
use Rattle.lock.proofs.Alike.{can_alike}
use Rattle.task.specs.State.{no_task, wanted}
use Rattle.task.specs.declared.Task.{Task}
use Rattle.machine.specs.declared.Counts.{Counts}
use Rattle.machine.specs.declared.State.{State}
use Rattle.machine.specs.State.{task_at, count_of, fresh_task, with_state, with_counts, with_clock}
use Rattle.machine.specs.Granting.{unopposed, available, servable}
use Rattle.machine.specs.Test.{is_priority, schedule_ok, continuation_ok}
use Rattle.machine.proofs.Granting.{could_alike, unopposed_more}
use Rattle.machine.specs.Calls.{add_task, add_semaphore, add_bolt, add_interrupt}
use Rattle.machine.proofs.Places.{added_apart}
use Rattle.machine.proofs.Passed.{Passed, Fits, room_task, room_semaphore, room_bolt, room_interrupt}
use Rattle.machine.proofs.Facts.{TaskOk, Bounded, bounded_of, StateOk}
use Rattle.machine.proofs.Answers.{file_added}
use Rattle.machine.proofs.Looks.{count_below}
use Rattle.machine.proofs.Schedules.{schedule_more, continuation_more}

-- ---- with more declared

pub record More (n m : Counts) : Type 0 where
  pub semaphores : n.semaphores ≤ m.semaphores
  pub bolts : n.bolts ≤ m.bolts
  pub interrupts : n.interrupts ≤ m.interrupts

count_more : (n m : Counts) → More n m → (w : Wait) → count_of n w ≤ count_of m w
count_more n m h Nothing = omega arith
count_more n m h Request = h.semaphores
count_more n m h Reserve = h.bolts
count_more n m h Enter = h.bolts

task_more : (day : ℕ) (n m : Counts) (t : Task) → More n m → TaskOk day n t → TaskOk day m t
task_more day n m t q h =
    record {
      declared_ok = h.declared_ok;
      current_ok = h.current_ok;
      kept_ok_law = h.kept_ok_law;
      hold_ok_law = h.hold_ok_law;
      rests = h.rests;
      listed = λ e. let l = h.listed e in record { size = l.size; once = l.once; below = every_more (count_of n t.wait) (count_of m t.wait) (wanted t) (count_more n m q t.wait) l.below };
      schedule_ok_law = schedule_more day n.interrupts m.interrupts t.schedule q.interrupts h.schedule_ok_law;
      continuation_ok_law = continuation_more n.interrupts m.interrupts t.continuation t.given q.interrupts h.continuation_ok_law;
    }

pub fresh_ok : (day : ℕ) (n : Counts) (p : ℕ) → is_priority p ≡ true → TaskOk day n (fresh_task p)
unfolding fresh_task schedule_ok continuation_ok
fresh_ok day n p q =
    record {
      declared_ok = q;
      current_ok = q;
      kept_ok_law = refl;
      hold_ok_law = refl;
      rests = refl;
      listed = λ e. contra e refl;
      schedule_ok_law = refl;
      continuation_ok_law = refl;
    }

pub fresh_unwaiting : (p : ℕ) → waiting (fresh_task p).wait ≡ false
unfolding fresh_task
fresh_unwaiting p = refl

-- A list of declared numbers that could not be granted still cannot, where their locks and writers are as they were.
stuck_stays : (day : ℕ) (k : State) → StateOk day k → (n : ℕ) (ts : List Task) (r : Locks) (i : ℕ) → task_at ts i ≡ task_at k.tasks i
    → ((w : Wait) (y : ℕ) → y < count_of k.counts w → is_free w r y ≡ is_free w k.locks y)
    → ((q y : ℕ) → unopposed n ts q y ≡ unopposed k.counts.tasks k.tasks q y) → i < k.counts.tasks → servable n ts r i ≡ false
unfolding available
stuck_stays day k h n ts r i e f g l =
    let t = task_at k.tasks i in
    rw e (by_bool (waiting t.wait)
    (λ w. rw (could_alike n ts r t.current t.wait (wanted t) k.counts.tasks k.tasks k.locks (count_of k.counts t.wait) ((h.tasks_ok_law i l).listed w).below
    (λ y z. rw (f t.wait y z, g t.current y))) (h.stuck i l))
    (λ w. rw w))

-- ---- room and ranges

formed_ranged : (f : Form) (c : Call) → formed_as f c ≡ true → ranged f c.head ≡ true
formed_ranged f c e =
    (both (clean_start (uses f c.head) c.head) (ranged f c.head) (both (clean_names (uses f c.head) c) (clean_start (uses f c.head) c.head && ranged f c.head) e).1).1

module _ (day : ℕ) (k : State) (h : StateOk day k) (c : Call) where
  priority_DT : c.head.priority ≤ 255 → Passed day DT k c → is_priority c.head.priority ≡ true
  unfolding ranged
  priority_DT b p = and_both (formed_ranged DeclaredPriority c p.formal.formed) (le-leb _ _ b)

  preset_DS : Passed day DS k c → c.head.first ≤ most_value
  unfolding ranged
  preset_DS p = leb-true _ _ (formed_ranged Preset c p.formal.formed)

  -- ---- the five declarations

  values_stay : (s : ℕ) → s < k.counts.semaphores → value_at k.locks s ≤ most_value
  unfolding level
  values_stay = h.bounded Request

  readers_stay : (b : ℕ) → b < k.counts.bolts → (bolt_at k.locks b).readers ≤ most_value
  unfolding level
  readers_stay = h.bounded Enter

  pub task_added : c.head.priority ≤ 255 → Passed day DT k c → StateOk day (add_task c.head.priority k)
  unfolding add_task
  task_added b p =
      let n = k.counts.tasks in
      let q = c.head.priority in
      let room = room_task k.counts p.formal.room in
      let counts = h.counts_ok_law in
      let at_new = get_or-set_same k.tasks n (fresh_task q) no_task (omega (arith, h.tables.tasks)) in
      record {
        tables =
            record {
              tasks = length-set k.tasks n (fresh_task q) ∙ h.tables.tasks;
              places = length-set k.places n n ∙ h.tables.places;
              semaphores = h.tables.semaphores;
              bolts = h.tables.bolts;
              enabled = h.tables.enabled;
            };
        now_ok = h.now_ok;
        clock_ok = h.clock_ok;
        counts_ok_law = record { tasks = omega arith; semaphores = counts.semaphores; bolts = counts.bolts; interrupts = counts.interrupts };
        bounded = bounded_of (record { tasks = n + 1; semaphores = k.counts.semaphores; bolts = k.counts.bolts; interrupts = k.counts.interrupts }) k.locks values_stay readers_stay;
        tasks_ok_law = λ i l. by_eq i n (λ z. rw (z, at_new) (fresh_ok day _ q (priority_DT b p)))
            (λ z. rw (get_or-set_other k.tasks n i (fresh_task q) no_task z) (task_more day k.counts _ _ (record { semaphores = omega arith; bolts = omega arith; interrupts = omega arith }) (h.tasks_ok_law i (omega arith))));
        places_ok_law = added_apart n k.places h.places_ok_law (omega (arith, h.tables.places));
        stuck = λ i l. by_eq i n (λ z. rw (z, at_new, fresh_unwaiting q))
            (λ z. stuck_stays day k h (n + 1) (set k.tasks n (fresh_task q)) k.locks i (get_or-set_other k.tasks n i (fresh_task q) no_task z) (λ w y o. refl)
            (λ u y. unopposed_more n k.tasks _ u y (λ j o. get_or-set_other k.tasks n j (fresh_task q) no_task (λ z. omega arith)) (rw (at_new) (fresh_unwaiting q))) (omega arith));
        filed_ok = h.filed_ok ∙ sym (file_added k q);
      }

  -- The tasks stay, and so do the locks that were declared before.
  added : (m : Counts) (r : Locks) (es : List Bool) → m.tasks ≡ k.counts.tasks → Fits m → More k.counts m → SameSize k.locks r → length es ≡ length k.enabled
      → Bounded m r → ((w : Wait) (y : ℕ) → y < count_of k.counts w → is_free w r y ≡ is_free w k.locks y) → StateOk day (with_counts m (with_state k.tasks r es k))
  added m r es e o q s g b f =
      record {
        tables = record { tasks = h.tables.tasks; places = h.tables.places; semaphores = s.semaphores ∙ h.tables.semaphores; bolts = s.bolts ∙ h.tables.bolts; enabled = g ∙ h.tables.enabled };
        now_ok = h.now_ok;
        clock_ok = h.clock_ok;
        counts_ok_law = o;
        bounded = b;
        tasks_ok_law = λ i l. task_more day k.counts m _ q (h.tasks_ok_law i (rw e at l));
        places_ok_law = rw e h.places_ok_law;
        stuck = λ i l. stuck_stays day k h m.tasks k.tasks r i refl f (λ u y. rw e) (rw e at l);
        filed_ok = rw e h.filed_ok;
      }

  pub semaphore_added : Passed day DS k c → StateOk day (add_semaphore c.head.first k)
  unfolding add_semaphore
  semaphore_added p =
      let n = k.counts.semaphores in
      let v = c.head.first in
      let room = room_semaphore k.counts p.formal.room in
      let preset = preset_DS p in
      let o = h.counts_ok_law in
      added _ (with_value k.locks n v) k.enabled refl (record { tasks = o.tasks; semaphores = omega arith; bolts = o.bolts; interrupts = o.interrupts })
      (record { semaphores = omega arith; bolts = omega arith; interrupts = omega arith }) (size_value k.locks n v) refl
      (bounded_of (record { tasks = k.counts.tasks; semaphores = n + 1; bolts = k.counts.bolts; interrupts = k.counts.interrupts }) (with_value k.locks n v)
      (λ s l. by_eq s n (λ z. rw (z, value_same k.locks n v (omega (arith, h.tables.semaphores))) preset) (λ z. rw (value_other k.locks n v s z) (values_stay s (omega arith)))) readers_stay)
      unused
    where
      unused : (w : Wait) (y : ℕ) → y < count_of k.counts w → is_free w (with_value k.locks k.counts.semaphores c.head.first) y ≡ is_free w k.locks y
      unused w y l =
          can_alike _ _ _ _ (record { values = λ x q. value_other k.locks _ _ x (λ z. omega arith); bolts = λ x q. refl }) Take w y (rw (count_below k.counts w) at l)

  pub bolt_added : Passed day DB k c → StateOk day (add_bolt k)
  unfolding add_bolt
  bolt_added p =
      let n = k.counts.bolts in
      let room = room_bolt k.counts p.formal.room in
      let o = h.counts_ok_law in
      added _ (with_bolt k.locks n empty_bolt) k.enabled refl (record { tasks = o.tasks; semaphores = o.semaphores; bolts = omega arith; interrupts = o.interrupts })
      (record { semaphores = omega arith; bolts = omega arith; interrupts = omega arith }) (size_bolt k.locks n empty_bolt) refl
      (bounded_of (record { tasks = k.counts.tasks; semaphores = k.counts.semaphores; bolts = n + 1; interrupts = k.counts.interrupts }) (with_bolt k.locks n empty_bolt) values_stay
      (λ b l. by_eq b n (λ z. rw (z, bolt_same k.locks n empty_bolt (omega (arith, h.tables.bolts))) (omega arith)) (λ z. rw (bolt_other k.locks n empty_bolt b z) (readers_stay b (omega arith)))))
      unused
    where
      unused : (w : Wait) (y : ℕ) → y < count_of k.counts w → is_free w (with_bolt k.locks k.counts.bolts empty_bolt) y ≡ is_free w k.locks y
      unused w y l =
          can_alike _ _ _ _ (record { values = λ x q. refl; bolts = λ x q. bolt_other k.locks _ empty_bolt x (λ z. omega arith) }) Take w y (rw (count_below k.counts w) at l)

  pub interrupt_added : Passed day IT k c → StateOk day (add_interrupt k)
  unfolding add_interrupt
  interrupt_added p =
      let n = k.counts.interrupts in
      let room = room_interrupt k.counts p.formal.room in
      let o = h.counts_ok_law in
      added _ k.locks (set k.enabled n false) refl (record { tasks = o.tasks; semaphores = o.semaphores; bolts = o.bolts; interrupts = omega arith })
      (record { semaphores = omega arith; bolts = omega arith; interrupts = omega arith }) (size_refl k.locks) (length-set k.enabled n false)
      (bounded_of (record { tasks = k.counts.tasks; semaphores = k.counts.semaphores; bolts = k.counts.bolts; interrupts = n + 1 }) k.locks values_stay readers_stay) (λ w y l. refl)

  pub clock_set : Passed day DC k c → StateOk day (with_clock c.head.first k)
  unfolding timed
  clock_set p =
      record {
        tables = record { tasks = h.tables.tasks; places = h.tables.places; semaphores = h.tables.semaphores; bolts = h.tables.bolts; enabled = h.tables.enabled };
        now_ok = h.now_ok;
        clock_ok = ltb-true _ _ p.formal.timed;
        counts_ok_law = h.counts_ok_law;
        bounded = h.bounded;
        tasks_ok_law = h.tasks_ok_law;
        places_ok_law = h.places_ok_law;
        stuck = h.stuck;
        filed_ok = h.filed_ok;
      }
