-- One step: while task j waits, nobody new gets ahead of it, and each RELEASE takes one away.
use Rattle.std.specs.Prelude.{is_some}
use mathlib.Core.Path.{◌≡◌, refl, sym, ◌∙◌}
use mathlib.Core.Bool.{true, false, not}
use mathlib.Core.List.{List}
use Prim.Native.Nat.{ℕ, ◌+◌, ◌*◌, ◌-◌, ◌≤◌, ◌<◌}
use native.Mathlib.Omega.{arith}
use lib.Dec.{ltb, eqb}
use lib.ListN.{length}
use borrow.Author.Tests.{ltb-true, ltb-false, lt-ltb, eqb-true, not-true}
use Rattle.layout.specs.Fields.{Octets}
use Rattle.layout.specs.Marks.{is}
use Rattle.layout.specs.declared.Mark.TheVariants.{RL}
use Rattle.layout.proofs.MarksLaws.{is_mark}
use Rattle.lists.specs.Lists.{names}
use Rattle.record.specs.Refusals.{named}
use Rattle.record.specs.Reading.{opened}
use Rattle.lock.specs.Locks.{bit, waiting, give_all}
use Rattle.lock.specs.declared.Wait.TheVariants.{Request}
use Rattle.facts.proofs.Bools.{by_bool, contra, both, and_both}
use Rattle.task.specs.State.{unheld}
use Rattle.task.proofs.Fairness.{rest_facts}
use Rattle.machine.specs.Sums.{sum_below, all_below}
use Rattle.machine.specs.State.{task_at, place_at}
use Rattle.machine.specs.Sorts.{declares}
use Rattle.machine.specs.Running.{most_places, urgency}
use Rattle.machine.specs.Places.{event}
use Rattle.machine.specs.Step.{finish, step}
use Rattle.machine.specs.Promises.{AreBytes}
use Rattle.machine.specs.OnePass.{unserved}
use Rattle.machine.specs.Turns.{waits_in}
use Rattle.machine.specs.Invariants.{IsDay, Passes}
use Rattle.machine.specs.declared.State.{State}
use Rattle.machine.specs.declared.Stepped.{Stepped}
use Rattle.machine.proofs.Below.{all_at, sum_cut, sum_mono, sum_less}
use Rattle.machine.proofs.Facts.{StateOk, ok_of_passes}
use Rattle.machine.proofs.Works.{only_locks}
use Rattle.machine.proofs.Serves.{serves_all}
use Rattle.machine.proofs.Invariants.{step_passes}
use Rattle.machine.proofs.Untouched.{still_declared}
use Rattle.machine.proofs.Taking.{waiter_has_no_event, waiting_comes, step_moves}
use Rattle.wait_bound.specs.Queue.{queues, is_ahead, ahead}
use Rattle.wait_bound.specs.Stages.{Stage}
use Rattle.wait_bound.specs.Waiting.{stage_of, call_on, releases, grants, ends, changes_at, changes_priority, overtakes}
use Rattle.wait_bound.proofs.Queued.{Queued, low_number}
use Rattle.wait_bound.proofs.Shapes.{Shape, refuses, declares_one, carries_out, shape}
use Rattle.wait_bound.proofs.Works.{release_work}
use Rattle.wait_bound.proofs.Served.{given_free, taker}
use Rattle.wait_bound.proofs.Waits.{Newcomer, queues_waits, stays, new_rests}

-- At the same priorities the order of places, if it is kept, keeps that of urgency.
order_kept : (c d p q p' q' : ℕ) → p < most_places → q' < most_places → ltb p' q' ≡ ltb p q
    → most_places * c + p' < most_places * d + q' → most_places * c + p < most_places * d + q
order_kept c d p q p' q' a b e u =
    by_bool (ltb p' q') (λ x. omega (arith, ltb-true p q (sym e ∙ x))) (λ x. omega (arith, ltb-false p' q' x))

module _ (day : ℕ) (is_day : IsDay day) (k : State) (p : Passes day k) (b : List ℕ) (o : Octets b) (j s : ℕ) (a : Queued k j s) where
  abbrev z : Stepped
  z = step day k b

  abbrev g : Stage
  g = stage_of day k b

  abbrev n : ℕ
  n = k.counts.tasks

  ok : StateOk day k
  ok = ok_of_passes day k p

  waits_now_law : waits_in k j ≡ true
  waits_now_law = rw a.kind

  -- A task that waits is alive.
  alive : (i : ℕ) → i < n → waits_in k i ≡ true → (task_at k.tasks i).alive ≡ true
  alive i l w =
      let t = task_at k.tasks i in
      by_bool t.alive (λ e. e)
      (λ e. contra w (rest_facts t.alive (is_some t.kept) (waiting t.wait) (unheld t.hold) (ok.tasks_ok_law i l).rests e).1)

  module _ (lives : ends j g ≡ false) (priorities : changes_priority g ≡ false) (newcomers : overtakes s j g ≡ false) (left : grants j g ≡ false) where
    -- ---- task j waits on

    pub waits_then : waits_in z.state j ≡ true
    waits_then = (stays day is_day k p b o j a.declared).goes_on_law waits_now_law lives left

    pub waits_on : Queued z.state j s
    waits_on =
        let q = ((stays day is_day k p b o j a.declared).same waits_now_law waits_then).0 in
        record { declared = still_declared day k j a.declared b; kind = q.kind ∙ a.kind; list = q.list ∙ a.list }

    -- ---- who is ahead of it was so before

    -- Who goes on waiting keeps its priority,
    same_current : (i : ℕ) → i < n → waits_in k i ≡ true → waits_in z.state i ≡ true → (task_at z.state.tasks i).current ≡ (task_at k.tasks i).current
    same_current i l w v =
        let e = ((stays day is_day k p b o i l).same w v).1 in
        let f : all_below n (λ (i : ℕ). not (changes_at g i)) ≡ true = by_bool (all_below n (λ (i : ℕ). not (changes_at g i))) (λ x. x) (λ x. contra (rw x) priorities) in
        let c = not-true (changes_at g i) (all_at n (λ (i : ℕ). not (changes_at g i)) f i l) in
        by_bool (eqb (task_at z.state.tasks i).current (task_at k.tasks i).current) (λ x. eqb-true _ _ x)
        (λ x. let y : changes_at g i ≡ true = rw (alive i l w, e, x) in contra y c)

    -- and its place before or behind j.
    same_order : (i : ℕ) → i < n → waits_in k i ≡ true → waits_in z.state i ≡ true
        → ltb (place_at z.state.places i) (place_at z.state.places j) ≡ ltb (place_at k.places i) (place_at k.places j)
    same_order i l w v =
        rw (waiter_has_no_event k z i w v, waiter_has_no_event k z j waits_now_law waits_then) at (step_moves day k p b i j l a.declared)

    -- Who begins to wait stands behind j,
    new_behind : (i : ℕ) → i < n → waits_in k i ≡ false → waits_in z.state i ≡ true → place_at z.state.places j ≤ place_at z.state.places i
    unfolding event
    new_behind i l w v =
        ltb-false _ _ (rw (waiter_has_no_event k z j waits_now_law waits_then, waiting_comes i k z w v) at (step_moves day k p b i j l a.declared))

    -- and isn't more urgent.
    no_passing : (i : ℕ) → Newcomer k b z s i → (task_at k.tasks j).current ≤ (task_at k.tasks i).current
    no_passing i h = ltb-false _ _ (rw (h.number, h.call, h.runs) at newcomers)

    places_below : AreBytes z.state.counts.tasks z.state.places
    places_below i l =
        let h = ok_of_passes day z.state (step_passes day is_day k p b o) in
        omega (arith, h.places_ok_law.range i l, h.counts_ok_law.tasks)

    k_bytes : AreBytes n k.places
    k_bytes i l = omega (arith, ok.places_ok_law.range i l, ok.counts_ok_law.tasks)

    was_ahead : (i : ℕ) → i < z.state.counts.tasks → is_ahead z.state s j i ≡ true → (i < n) × (is_ahead k s j i ≡ true)
    unfolding urgency
    was_ahead i l e =
        let q = both (queues s (task_at z.state.tasks i)) _ e in
        let v = queues_waits s (task_at z.state.tasks i) q.0 in
        let u = ltb-true (urgency z.state.places z.state.tasks i) (urgency z.state.places z.state.tasks j) q.1 in
        let cj = same_current j a.declared waits_now_law waits_then in
        let pi = places_below i l in
        let pj = places_below j waits_on.declared in
        by_bool (ltb i n)
        (λ m.
        let d = ltb-true i n m in
        by_bool (waits_in k i)
        (λ w.
        let t = ((stays day is_day k p b o i d).same w v).0 in
        let ci = same_current i d w v in
        let queued : queues s (task_at k.tasks i) ≡ true = rw (← t.kind, ← t.list) q.0 in (
          d,
          and_both queued
              (lt-ltb (urgency k.places k.tasks i) (urgency k.places k.tasks j)
              (order_kept _ _ _ _ _ _ (k_bytes i d) pj (same_order i d w v) (rw (ci, cj) at u))),
        ))
        (λ w.
        let h = (stays day is_day k p b o i d).begins w s q.0 in
        absurd (omega (arith, u, h.1, no_passing i h.0, new_behind i d w v))))
        (λ m. contra v (new_rests day is_day k p b o i (ltb-false i n m) l))

    -- ---- a RELEASE takes one away

    -- The one semaphore that j waits for stands in the table.
    in_table : s < length k.locks.semaphores
    in_table = omega (arith, low_number day k p j s a, ok.tables.semaphores, ok.counts_ok_law.semaphores)

    -- Somebody who was ahead of j no longer waits.
    abbrev Gone : Stepped → Type 0
    Gone x = (i : ℕ) × (i < n) × (is_ahead k s j i ≡ true) × (waits_in x.state i ≡ false)

    given_gone : (l : List ℕ) → names l s ≡ true
        → let x = finish k (only_locks k (give_all Request k.locks l) k.enabled 0) in Queued x.state j s → Gone x
    unfolding only_locks finish
    given_gone l e v =
        let w = only_locks k (give_all Request k.locks l) k.enabled 0 in
        let t = taker n k.places k_bytes ok.places_ok_law.apart s j a.declared (serves_all n k.places (unserved w) k_bytes)
        (v.kind, v.list) (given_free l k.locks s in_table e) in
        (t.who, t.below, and_both t.queued (lt-ltb _ _ t.first), t.over)

    one_gone : releases s g ≡ true → Gone z
    one_gone e = go (shape day is_day k p b o)
      where
        parts : (eqb z.answer.number 0 ≡ true) × (call_on RL s (opened b).answer (opened b).list ≡ true)
        parts = both _ _ e

        go : Shape day k b → Gone z
        go (refuses ne) = absurd (ne (eqb-true _ 0 parts.0))
        go (declares_one c q d f) = contra d (rw (is_mark c.head.mark RL (both (is c.head.mark RL) _ (rw q at parts.1)).0) (unfold declares in refl))
        go (carries_out c q did f) =
            let y = both (is c.head.mark RL) (names (named c) s) (rw q at parts.1) in
            let r : Queued z.state j s → Gone z = rw (f, release_work day k c (is_mark c.head.mark RL y.0)) (given_gone (named c) y.1) in
            r waits_on

    -- ---- both

    abbrev were : ℕ → ℕ
    were i = bit (is_ahead k s j i)

    abbrev are : ℕ → ℕ
    are i = bit (is_ahead z.state s j i)

    more : n ≤ z.state.counts.tasks
    more = let l = a.declared in omega (arith, still_declared day k (n - 1) (omega arith) b)

    no_more : (i : ℕ) → i < n → are i ≤ were i
    no_more i l =
        by_bool (is_ahead z.state s j i) (λ e. rw (e, (was_ahead i (omega (arith, more)) e).1) (omega arith)) (λ e. rw e (omega arith))

    none_new : (i : ℕ) → n ≤ i → i < z.state.counts.tasks → are i ≡ 0
    none_new i m l = by_bool (is_ahead z.state s j i) (λ e. absurd (let h = (was_ahead i l e).0 in omega arith)) (λ e. rw e)

    gone_less : Gone z → sum_below n are < sum_below n were
    gone_less (i, l, e, w) =
        sum_less n are were i l
        (let f : is_ahead z.state s j i ≡ false =
        by_bool (queues s (task_at z.state.tasks i)) (λ q. contra (queues_waits s (task_at z.state.tasks i) q) w) (λ q. rw q) in
        rw (e, f) (omega arith))
        no_more

    pub fewer : ahead z.state s j + bit (releases s g) ≤ ahead k s j
    unfolding ahead
    fewer =
        rw (sum_cut n z.state.counts.tasks are more none_new)
        (by_bool (releases s g) (λ e. rw e (omega (arith, gone_less (one_gone e)))) (λ e. rw e (omega (arith, sum_mono n are were no_more))))
