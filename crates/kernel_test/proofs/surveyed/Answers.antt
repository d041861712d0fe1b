-- Each task in its turn: one that isn't fit ends the look, and every other adds what comes to it and its urgency.
use borrow.Author.Tests.{not-true, not-false}
use Rattle.std.specs.Prelude.{None}
use mathlib.Core.Path.{◌≡◌, refl, sym, ap, ◌∙◌}
use mathlib.Core.Bool.{true, false, not, ◌&&◌}
use Prim.Native.Nat.{ℕ, ◌<◌, ◌≤◌}
use Rattle.calendar.specs.Limits.{day_length}
use Rattle.calendar.specs.Moments.{sooner, Moment}
use Rattle.schedule.specs.Coming.{next_of}
use Rattle.task.specs.Coming.{delay_end}
use Rattle.machine.specs.State.{task_at}
use Rattle.machine.specs.Sums.{all_below}
use Rattle.machine.specs.Test.{continuation_ok, schedule_ok, places_ok, valid}
use Rattle.machine.specs.declared.State.{State}
use Rattle.kernel_granting.specs.Writers.{Known, TellsFor}
use Rattle.kernel_values.proofs.Owned.{given_small}
use Rattle.kernel_granting.proofs.WriterLaws.{known_none, ready_told, ready_known}
use Rattle.kernel_test.specs.Looks.{surveyed}
use Rattle.kernel_test.proofs.TaskFit.{plan_none, continuation_none, no_start, Starts, start_none, start_kept, eased, odd_priority, odd_schedule, odd_continuation, odd_kept, odd_busy, fit_eased, fit_busy}
use Rattle.kernel_test.proofs.TestLaws.{fit_at, Upto, upto_fails, upto_all, out_of_range, counted, tasks_fit, all_fit}
use Rattle.kernel_test.proofs.Surveying.{Part, sooner_more, sooner_same, led_eased, led_busy, looked_none, looked_next, looked_event, looked_places, looked_runs, unfit_is, fit_is}
use Rattle.kernel_test.proofs.surveyed.Goals as goal
use Rattle.kernel_test.proofs.surveyed.Goals.{After-is_at_ease, then-is_planned+else-not-is_continuation_ok, else-is_planned, then-is_planned-2+else-not-is_schedule_ok, else-is_planned-2, then-is_some+else-not-is_kept_right, else-is_some, then-is_missing, else-is_missing}

-- ---- a kernel in range

module _ (k : State) (all : (all_below k.counts.tasks (fit_at day_length k) && places_ok k.counts.tasks k.places) ≡ valid day_length k)
    {i : ℕ} (p : Upto (fit_at day_length k) k.counts.tasks i) where
  -- A task that isn't fit ends the look.
  ends : i < k.counts.tasks → fit_at day_length k i ≡ false → None ≡ surveyed day_length k
  ends less e = unfit_is day_length k (ap (λ b. b && places_ok k.counts.tasks k.places) (upto_fails p less e) ∙ all)

  -- All tasks were fit: what is left of the test is the places.
  fitting : k.counts.tasks ≤ i → places_ok k.counts.tasks k.places ≡ valid day_length k
  fitting end = ap (λ b. b && places_ok k.counts.tasks k.places) (upto_all p end) ∙ all

-- ---- a task whose parts passed

-- What both ways on from task i have: its plans and its start kept back pass, and after them this comes next.
record PartsPass (k : State) (i : ℕ) (before after : Moment) : Type 0 where
  schedule : schedule_ok day_length k.counts.interrupts (task_at k.tasks i).schedule ≡ true
  continuation : continuation_ok k.counts.interrupts (task_at k.tasks i).continuation (task_at k.tasks i).given ≡ true
  start : Starts (task_at k.tasks i).alive (task_at k.tasks i).kept
  comes : after ≡ sooner k.now (next_of (task_at k.tasks i).schedule.alarm) (sooner k.now (next_of (task_at k.tasks i).continuation) before)

-- The look asks whether a task is at ease only when these have passed.
parts_pass : (c : After-is_at_ease) → PartsPass c.args.k c.loop-i.i c.loop-i.soonest c.if-is_planned-2.soonest
parts_pass c =
    let k = c.args.k in
    let l = c.loop-i in
    let t = task_at k.tasks l.i in
    let a = t.schedule.alarm in
    let g = t.continuation in
    let b = c.if-is_planned.soonest in
    let continued : Part (continuation_ok k.counts.interrupts g t.given) k.now (next_of g) l.soonest b =
    elim c.if-is_planned.branch [
      | then-is_planned+else-not-is_continuation_ok w ↦
          record {
            passes = sym (w.if-not-is_continuation_ok.ensures t.given (given_small k (c.well_formed.0.0, c.well_formed.0.1.1) l.i));
            comes = sooner_more k.now (next_of g) l.soonest refl w.soonest-is w.sooner_due-soonest.ensures;
          }
      | else-is_planned w ↦
          record {
            passes = continuation_none _ _ _ (sym w.if-is_planned.ensures);
            comes = sooner_same k.now (next_of g) l.soonest refl w.soonest-is (no_start g (sym w.if-is_planned.ensures));
          }
    ]
    in
    let scheduled : Part (schedule_ok day_length k.counts.interrupts t.schedule) k.now (next_of a) b c.if-is_planned-2.soonest =
    elim c.if-is_planned-2.branch [
      | then-is_planned-2+else-not-is_schedule_ok w ↦
          record {
            passes = sym w.if-not-is_schedule_ok.ensures;
            comes = sooner_more k.now (next_of a) b refl w.soonest-is w.sooner_due-soonest-then-is_planned-2.ensures;
          }
      | else-is_planned-2 w ↦
          record {
            passes = plan_none day_length _ _ (sym w.if-is_planned-2.ensures);
            comes = sooner_same k.now (next_of a) b refl w.soonest-is (no_start a (sym w.if-is_planned-2.ensures));
          }
    ]
    in
    let start : Starts t.alive t.kept =
    elim c.if-is_some.branch [
      | then-is_some+else-not-is_kept_right w ↦ start_kept t.alive t.kept (sym w.if-not-is_kept_right.ensures)
      | else-is_some w ↦ start_none t.alive t.kept (sym w.if-is_some.ensures)
    ]
    in
    record {
      schedule = scheduled.passes;
      continuation = continued.passes;
      start = start;
      comes = scheduled.comes ∙ rw continued.comes;
    }

-- ---- the goals

pub returns-then-not-k-is_time_of_day : goal.returns-then-not-k-is_time_of_day
returns-then-not-k-is_time_of_day c =
    let k = c.args.k in
    unfit_is day_length k (out_of_range day_length k c.is_time_of_day.ensures c.are_counts_ok.ensures (ap not c.if-not-k-is_time_of_day.true))

pub loop-i-init : goal.loop-i-init
loop-i-init c =
    let k = c.args.k in
    let o = c.is_time_of_day.ensures in
    let n = c.are_counts_ok.ensures in
    let e = ap not c.if-not-k-is_time_of_day.false in
    record {
      few = tasks_fit day_length k o n e;
      counted = counted day_length k o n e;
      all = all_fit day_length k o n e (c.well_formed.0.0, c.well_formed.0.1.1);
      looked = looked_none day_length k c.none_seen-seen.ensures c.no_lead-lead.ensures;
      known = rw c.no_writers-writers.ensures (known_none _ _);
    }

pub returns-then-not-are_priorities : goal.returns-then-not-are_priorities
returns-then-not-are_priorities c =
    let k = c.args.k in
    let l = c.loop-i in
    ends k l.invariant.all l.invariant.looked.tasks c.loop-i-test.true
    (odd_priority day_length k.counts k.tasks k.locks (task_at k.tasks l.i) (sym c.if-not-are_priorities.ensures))

pub returns-then-not-is_continuation_ok : goal.returns-then-not-is_continuation_ok
returns-then-not-is_continuation_ok c =
    let k = c.args.k in
    let l = c.loop-i in
    let t = task_at k.tasks l.i in
    ends k l.invariant.all l.invariant.looked.tasks c.loop-i-test.true
    (odd_continuation day_length k.counts k.tasks k.locks t
    (sym (c.if-not-is_continuation_ok.ensures t.given (given_small k (c.well_formed.0.0, c.well_formed.0.1.1) l.i))))

pub returns-then-not-is_schedule_ok : goal.returns-then-not-is_schedule_ok
returns-then-not-is_schedule_ok c =
    let k = c.args.k in
    let l = c.loop-i in
    ends k l.invariant.all l.invariant.looked.tasks c.loop-i-test.true
    (odd_schedule day_length k.counts k.tasks k.locks (task_at k.tasks l.i) (sym c.if-not-is_schedule_ok.ensures))

pub returns-then-not-is_kept_right : goal.returns-then-not-is_kept_right
returns-then-not-is_kept_right c =
    let k = c.args.k in
    let l = c.loop-i in
    ends k l.invariant.all l.invariant.looked.tasks c.loop-i-test.true
    (odd_kept day_length k.counts k.tasks k.locks (task_at k.tasks l.i) (sym c.if-is_some.ensures) (sym c.if-not-is_kept_right.ensures))

pub returns-then-not-is_busy_ok : goal.returns-then-not-is_busy_ok
returns-then-not-is_busy_ok c =
    let k = c.args.k in
    let n = k.counts.tasks in
    let l = c.loop-i in
    let t = task_at k.tasks l.i in
    let ready : Known n k.tasks c.if-is_missing.writers × TellsFor t.wait n k.tasks c.if-is_missing.writers =
    elim c.if-is_missing.branch [
      | then-is_missing w ↦ ready_told t.wait n k.tasks w.writers-is w.writers_of-writers.ensures
      | else-is_missing w ↦ ready_known t.wait n k.tasks w.writers-is l.invariant.known c.is_missing.ensures w.if-is_missing.false
    ]
    in
    ends k l.invariant.all l.invariant.looked.tasks c.loop-i-test.true
    (odd_busy day_length k.counts k.tasks k.locks t (sym c.if-not-is_at_ease.ensures) (sym (c.if-not-is_busy_ok.ensures k.tasks ready.1)))

pub loop-i-preserved-then-not-is_at_ease : goal.loop-i-preserved-then-not-is_at_ease
loop-i-preserved-then-not-is_at_ease c =
    let k = c.args.k in
    let n = k.counts.tasks in
    let l = c.loop-i in
    let v = l.invariant in
    let t = task_at k.tasks l.i in
    let parts = parts_pass (goal.at.loop-i-preserved-then-not-is_at_ease c).After-is_at_ease in
    let ready : Known n k.tasks c.if-is_missing.writers × TellsFor t.wait n k.tasks c.if-is_missing.writers =
    elim c.if-is_missing.branch [
      | then-is_missing w ↦ ready_told t.wait n k.tasks w.writers-is w.writers_of-writers.ensures
      | else-is_missing w ↦ ready_known t.wait n k.tasks w.writers-is v.known c.is_missing.ensures w.if-is_missing.false
    ]
    in
    record {
      few = v.few;
      counted = v.counted;
      all = v.all;
      looked =
          looked_next day_length k v.looked c.loop-i-test.true c.sooner_end-soonest.result
          (fit_busy day_length k.counts k.tasks k.locks t (sym c.if-not-are_priorities.ensures) parts.schedule parts.continuation parts.start (sym (c.if-not-is_busy_ok.ensures k.tasks ready.1)))
          (sooner_more k.now (delay_end t.hold) c.if-is_planned-2.soonest parts.comes refl c.sooner_end-soonest.ensures)
          c.with-seen.ensures
          (led_busy k.places k.tasks l.i v.looked.leads (sym c.if-not-is_at_ease.ensures));
      known = ready.0;
    }

pub loop-i-preserved : goal.loop-i-preserved
loop-i-preserved c =
    let k = c.args.k in
    let l = c.loop-i in
    let v = l.invariant in
    let t = task_at k.tasks l.i in
    let parts = parts_pass (goal.at.loop-i-preserved c).After-is_at_ease in
    let ease = sym c.if-not-is_at_ease.ensures in
    record {
      few = v.few;
      counted = v.counted;
      all = v.all;
      looked =
          looked_next day_length k v.looked c.loop-i-test.true c.if-is_planned-2.soonest
          (fit_eased day_length k.counts k.tasks k.locks t (sym c.if-not-are_priorities.ensures) parts.schedule parts.continuation parts.start ease)
          (sooner_same k.now (delay_end t.hold) c.if-is_planned-2.soonest parts.comes refl (eased t.wait t.hold ease).ends)
          c.with-seen.ensures
          (led_eased k.places k.tasks l.i v.looked.leads ease c.against_if-lead.ensures);
      known = v.known;
    }

-- ---- the end

pub returns-then-are_wrong : goal.returns-then-are_wrong
returns-then-are_wrong c =
    let k = c.args.k in
    let v = c.loop-i.invariant in
    let wrong = c.are_wrong.ensures k.places (looked_places day_length k v.looked c.loop-i-test.false) in
    unfit_is day_length k (sym (not-true (places_ok k.counts.tasks k.places) (sym wrong ∙ c.if-are_wrong.true)) ∙ fitting k v.all v.looked.tasks c.loop-i-test.false)

pub returns : goal.returns
returns c =
    let k = c.args.k in
    let v = c.loop-i.invariant in
    let wrong = c.are_wrong.ensures k.places (looked_places day_length k v.looked c.loop-i-test.false) in
    fit_is day_length k (sym (not-false (places_ok k.counts.tasks k.places) (sym wrong ∙ c.if-are_wrong.false)) ∙ fitting k v.all v.looked.tasks c.loop-i-test.false)
    (looked_event day_length k v.looked c.loop-i-test.false)
    (c.who.ensures ∙ looked_runs day_length k v.looked c.loop-i-test.false)
