-- Refused by the time, or each task has its turn or stays as it is.
use Rattle.std.specs.Prelude.{None, Some}
use borrow.Author.Rules.{rules}
use borrow.Author.Tests.{leb-true}
use mathlib.Core.Path.{◌≡◌, refl, sym, ◌∙◌, ap, ap₂, subst}
use mathlib.Core.Bool.{true, false, Bool, cond, not, beq}
use Prim.Native.Nat.{ℕ, ◌+◌, ◌≤◌, ◌<◌}
use native.Mathlib.Nat.{le_antisymm}
use native.Mathlib.Omega.{arith}
use lib.ListN.{length}
use lib.Seq.{get_or-set_other}
use Rattle.calendar.specs.Limits.{day_length, last_instant}
use Rattle.calendar.specs.Moments.{first_after}
use Rattle.calendar.specs.declared.Instant.{Instant}
use Rattle.facts.proofs.Bools.{neither}
use Rattle.task.specs.Turns.{tick_turn}
use Rattle.task.proofs.Laws.{still}
use Rattle.task.specs.State.{no_task, runnable}
use Rattle.task.specs.declared.Turn.{Turn}
use Rattle.machine.specs.State.{most_tasks, task_at, begun_at, place_at, with_file, with_state}
use Rattle.machine.specs.Running.{running_of, Running}
use Rattle.machine.specs.NextEvent.{next_among, all_pending}
use Rattle.machine.specs.Serving.{next_served}
use Rattle.machine.specs.Work.{every_turn}
use Rattle.machine.specs.Test.{valid}
use Rattle.machine.specs.Calls.{arrive, arrival}
use Rattle.machine.specs.Step.{answered, finish}
use Rattle.machine.specs.declared.State.{State}
use Rattle.machine.proofs.NextEvent.{among_same}
use Rattle.machine.proofs.Passed.{tested, parts}
use Rattle.kernel_next.proofs.NextLaws.{among_more}
use Rattle.machine.proofs.Turns.{good_tick}
use Rattle.machine.specs.Places.{moved}
use Rattle.machine.specs.Sets.{holds}
use Rattle.record.proofs.NumberLaws.{number_some}
use Rattle.kernel_values.proofs.Owned.{Owned, tasks_long, tables_long}
use Rattle.kernel_sets.proofs.SetTill.{Till, till_none, till_more, till_still, unlike}
use Rattle.kernel_sets.specs.Standing.{turned_if, Turned}
use Rattle.kernel_serving.specs.Served.{served}
use Rattle.kernel_values.specs.Answers.{answer_of}
use Rattle.kernel_finish.proofs.EveryTask.{Made, made_none, made_all, made_more, made_still, task_now, Steady, steady_more, steady_still, tick_keeps, every_done, every_waits, every_idle, every_unserved, every_served}
use Rattle.kernel_time.proofs.StirLaws.{nothing_comes}
use Rattle.kernel_time.proofs.TimeLaws.{arrives, refused, accepted, arrives_in_time}
use Rattle.kernel_time.proofs.TickRuns.{Leading, leading_none, leading_from, leading_more, leading_still, runs_below}
use Rattle.kernel_time.proofs.TickEnds.{turns, unturned, places_apart, turned_moves, turned_all, turned_leads}
use Rattle.kernel_time.proofs.arrived.Goals as goal
use Rattle.kernel_time.proofs.arrived.Goals.{in-Some, in_default-r, then-may_come, else-may_come, then-altered, else-altered}

fits : (k : State) → valid day_length k ≡ true → k.counts.tasks ≤ most_tasks
fits k v = (tested day_length k v).fits.tasks

-- A declared task has a place.
inside : (k : State) (i : ℕ) → valid day_length k ≡ true → i < k.counts.tasks → i < most_tasks
inside k i v h = omega (arith, h, fits k v)

-- The task that runs has one too.
below : (k : State) (i : ℕ) {r : Running} → valid day_length k ≡ true → running_of k.counts.tasks k.places k.tasks ≡ r → r ≡ Some i → i < most_tasks
below k i v e z = omega (arith, runs_below k.places k.tasks k.counts.tasks i (e ∙ z), fits k v)

pub returns-in-Err : goal.returns-in-Err
returns-in-Err c d =
    let a = c.args in
    let q = c.requires in
    c.answered.ensures ∙ ap (λ (n : ℕ). answered a.k n a.r) c.number.ensures ∙ refused a.k a.mark q.mark_value q.next_value c.in-Err.ensures (number_some c.in-Err.refusal) a.r q.r_value d _

pub arrival-n-requires : goal.arrival-n-requires
arrival-n-requires c = leb-true _ _ (parts day_length c.args.k c.requires.k_value).now

pub bounds-k-at : goal.bounds-k-at
bounds-k-at c = below c.args.k c.in-Some.j c.requires.k_value (sym c.requires.r_value) c.in-Some.is

pub bounds-k-at-in-Some : goal.bounds-k-at-in-Some
bounds-k-at-in-Some c = below c.args.k c.in-Some.j c.requires.k_value (sym c.requires.r_value) c.in-Some.is

pub against_if-lead-requires : goal.against_if-lead-requires
against_if-lead-requires c = below c.args.k c.in-Some.j c.requires.k_value (sym c.requires.r_value) c.in-Some.is

pub loop-i-init : goal.loop-i-init
unfolding next_among all_pending first_after
loop-i-init c =
    let k = c.args.k in
    let long = tasks_long k (c.well_formed.0.0, c.well_formed.0.1.1) in
    let runs = sym c.requires.r_value in (
      search rules,
      rw c.no_sets-s.ensures (made_none _ _),
      elim c.match-r.branch [
        | in-Some w ↦ leading_from k.places k.tasks k.counts.tasks long w.in-Some.j (runs ∙ w.in-Some.is) c.no_lead-lead.ensures (rw w.lead-is w.against_if-lead.ensures)
        | in_default-r w ↦ leading_none k.places k.tasks k.counts.tasks long (runs ∙ w.in_default-r.is) (w.lead-is ∙ c.no_lead-lead.ensures)
      ],
      λ e j l. absurd (omega arith),
      till_none _,
      refl,
      fits k c.requires.k_value,
    )

pub tick-u-requires : goal.tick-u-requires
tick-u-requires c =
    let k = c.args.k in
    let q = c.requires in
    let there = arrives k c.args.mark q.mark_value q.next_value c.arrival-n.ensures in
    let in_time : c.arrival-n.result.0 ≤ last_instant = rw there (arrives_in_time k c.args.mark q.mark_value q.next_value c.in_default.ensures refl) in
    omega arith

-- Once task i has had its turn, or has been passed over, and what pends for it has been looked at.
pub loop-i-preserved : goal.loop-i-preserved
loop-i-preserved c =
    let k = c.args.k in
    let v = c.requires.k_value in
    let n = c.arrival-n.result in
    let f = tick_turn n in
    let o = c.loop-i in
    let i = o.i in
    let h = o.invariant in
    let t = task_at o.k.tasks i in
    let long = tasks_long k (c.well_formed.0.0, c.well_formed.0.1.1) in
    let less : i < length k.tasks = omega (arith, long, inside k i v c.loop-i-test.true) in
    let same = task_now f k i less h.1 in
    let standing : (b : Bool) → cond b most_tasks (place_at o.k.places i) ≡ cond b most_tasks (place_at k.places i) =
    λ (b : Bool). ap (λ (q : State). cond b most_tasks (place_at q.places i)) h.1.state in
    let kept : (m : ℕ) → m < i → task_at o.k.tasks m ≡ task_at c.if-may_come.k.tasks m =
    λ (m : ℕ) (b : m < i).
    elim c.if-may_come.branch [
      | then-may_come w ↦ sym (ap (λ (q : State). task_at q.tasks m) w.k-is ∙ get_or-set_other o.k.tasks i m w.tick-u.result.task no_task (λ z. omega arith))
      | else-may_come w ↦ sym (ap (λ (q : State). task_at q.tasks m) w.k-is)
    ] in (
      search rules,
      elim c.if-may_come.branch [
        | then-may_come w ↦ made_more f k i less h.1 w.tick-u.result w.tick-u.ensures w.k-is (w.s-is ∙ w.put_marks-s.ensures)
        | else-may_come w ↦ made_still f k i less h.1 (still n t (nothing_comes n t (sym c.may_come.ensures ∙ w.if-may_come.false))) w.k-is w.s-is
      ],
      elim c.if-may_come.branch [
        | then-may_come w ↦
            leading_more n k.places o.turned o.k.tasks k.counts.tasks i c.loop-i-test.true (fits k v)
            (places_apart day_length k v long n) h.4.above w.tick-u.result w.tick-u.ensures
            h.2 (ap (λ (q : State). q.tasks) w.k-is) w.is_runnable-runs.ensures (unlike w.is_runnable.result w.is_runnable-runs.result ∙ ap₂ turned_if w.is_runnable.ensures w.is_runnable-runs.ensures)
            (w.turned-is ∙ w.put_if-turned.ensures) (w.place_if.ensures ∙ standing (not (beq w.is_runnable.result w.is_runnable-runs.result))) w.against_if-lead-then-may_come.ensures w.lead-is
        | else-may_come w ↦ leading_still h.2 (ap (λ (q : State). q.tasks) w.k-is) w.turned-is w.lead-is
      ],
      (λ e.
          elim c.if-may_come.branch [
            | then-may_come w ↦
                let x = neither o.altered w.is_altered-altered.result (sym w.altered-is ∙ e) in
                steady_more f k.tasks i (h.3 x.0) t w.tick-u.result same w.tick-u.ensures w.is_altered-altered.ensures x.1
            | else-may_come w ↦ steady_still f k.tasks i (h.3 (sym w.altered-is ∙ e)) (rw (← same) (still n t (nothing_comes n t (sym c.may_come.ensures ∙ w.if-may_come.false))))
          ]),
      elim c.if-may_come.branch [
        | then-may_come w ↦
            till_more _ h.4 (unlike w.is_runnable.result w.is_runnable-runs.result ∙ ap₂ turned_if (w.is_runnable.ensures ∙ ap runnable same) (w.is_runnable-runs.ensures ∙ ap (λ (u : Turn). runnable u.task) (w.tick-u.ensures ∙ ap f same)))
            (w.turned-is ∙ w.put_if-turned.ensures)
        | else-may_come w ↦ till_still _ h.4 (rw (← same, still n t (nothing_comes n t (sym c.may_come.ensures ∙ w.if-may_come.false))) (unturned (runnable t))) w.turned-is
      ],
      among_more n c.if-may_come.k.tasks i o.next c.sooner_end-next.result
          (h.5 ∙ among_same n o.k.tasks c.if-may_come.k.tasks i kept)
          (rw (← c.sooner_due-next.ensures, ← c.sooner_due-next-in-loop-i.ensures) c.sooner_end-next.ensures),
      h.6,
    )

pub finished-z-requires : goal.finished-z-requires
finished-z-requires c =
    let k = c.args.k in
    let v = c.requires.k_value in
    let q = c.requires in
    let n = c.arrival-n.result in
    let l = c.loop-i in
    let there = arrives k c.args.mark q.mark_value q.next_value c.arrival-n.ensures in
    let in_time : n.0 ≤ last_instant = rw there (arrives_in_time k c.args.mark q.mark_value q.next_value c.in_default.ensures refl) in
    let all = made_all (tick_turn _) _ _ (le_antisymm l.invariant.0 c.loop-i-test.false) l.invariant.1 in
    record {
      k_value = every_waits day_length k v (tasks_long k (c.well_formed.0.0, c.well_formed.0.1.1)) n (tick_turn n) (λ t h. (good_tick day_length k.counts n t in_time h).ok) all.0;
      places_value = rw all.0 (parts day_length k v).places;
    }

pub moved-k-requires : goal.moved-k-requires
moved-k-requires c = fits c.args.k c.requires.k_value

pub returns : goal.returns
unfolding arrive
returns c d =
    let k = c.args.k in
    let q = c.requires in
    let v = q.k_value in
    let n = c.arrival-n.result in
    let f = tick_turn n in
    let l = c.loop-i in
    let own : Owned k = (c.well_formed.0.0, c.well_formed.0.1.1) in
    let long = tasks_long k own in
    let there = arrives k c.args.mark q.mark_value q.next_value c.arrival-n.ensures in
    let w = made_all f _ _ (le_antisymm l.invariant.0 c.loop-i-test.false) l.invariant.1 in
    let t : Till (turns n k) k.counts.tasks l.turned = rw (le_antisymm l.invariant.0 c.loop-i-test.false) at l.invariant.4 in
    let x = l.invariant.5 ∙ ap (λ (i : ℕ). next_among n i l.k.tasks) (le_antisymm l.invariant.0 c.loop-i-test.false) in
    let idle : l.altered ≡ false → next_served k.counts.tasks k.places (served (every_done k n f) 0) ≡ None =
    λ (e : l.altered ≡ false).
    every_idle day_length k v long n f (λ t h. tick_keeps day_length k.counts n t h) (λ j b. l.invariant.3 e j (omega (arith, b, c.loop-i-test.false))) in
    let ends : record { state = begun_at n (with_file (record { running = c.if-altered.running; next = l.next }) c.if-altered.k); answer = answer_of 0 c.if-altered.running c.if-altered.s } ≡ finish k (every_turn k n f) =
    elim c.if-altered.branch [
      | then-altered z ↦
          every_served k n f w.0 w.1 (z.finished-z.ensures k.tasks (subst (λ (q : State). Turned q.counts.tasks k.tasks q.tasks (record { runnable = l.turned; waiting = 0 })) (sym w.0) (turned_all day_length k v long n l.turned t))) z.k-is z.s-is z.running-is x
      | else-altered z ↦
          let o = turned_moves day_length k v long n l.turned t (z.moved-k.ensures ∙ ap (λ (q : State). moved k.counts.tasks (λ i. holds i l.turned) q.places) w.0) in
          every_unserved k n f w.0 (z.s-is ∙ w.1) (idle z.if-altered.false) o
          (z.running-is ∙ c.who-running.ensures ∙ turned_leads day_length k v long n l.turned t (tables_long k own).places (subst (λ (q : State). Leading k.places l.turned q.tasks k.counts.tasks l.lead) w.0 l.invariant.2) o) z.k-is x
    ] in
    rw (c.answer_of.ensures, c.begun_at.ensures) ends
    ∙ ap (λ (x : Instant). finish k (arrive k x)) there
    ∙ accepted k c.args.mark q.mark_value q.next_value c.in_default.ensures refl d _
