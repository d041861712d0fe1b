-- The balance, by induction over the list of records.
use Rattle.std.specs.Prelude.{is_some, None}
use mathlib.Core.Path.{◌≡◌, refl, sym, ap, ◌∙◌}
use mathlib.Core.Bool.{true, false, not, ◌&&◌}
use mathlib.Core.List.{List, [], ◌∷◌}
use Prim.Native.Nat.{ℕ, ◌+◌, ◌<◌}
use native.Mathlib.Omega.{arith}
use Rattle.record.specs.Reading.{opened}
use Rattle.lock.specs.Locks.{bit, waiting, bolt_at, level}
use Rattle.lock.specs.declared.Wait.{Wait}
use Rattle.lock.specs.declared.Wait.TheVariants.{Request, Reserve, Enter}
use Rattle.lock.specs.declared.Bolt.{Bolt}
use Rattle.facts.proofs.Bools.{contra, both}
use Rattle.lock.proofs.Levels.{Law, law_refl, law_trans}
use Rattle.lock.proofs.Taking.{writer_le}
use Rattle.lock.proofs.Exclusion.{Exclusive, exclusive_levels}
use Rattle.task.specs.declared.Task.{Task}
use Rattle.machine.specs.declared.State.{State}
use Rattle.machine.specs.Sets.{Due, Started, Ended, Lost}
use Rattle.machine.specs.State.{task_at, fresh_task}
use Rattle.machine.specs.Running.{running_of, runner}
use Rattle.machine.specs.Step.{step}
use Rattle.machine.specs.Log.{AllOctets, is_declaration, final, log}
use Rattle.machine.specs.Invariants.{IsDay}
use Rattle.machine.proofs.Below.{most_urgent_none}
use Rattle.machine.proofs.Filing.{taken_valid}
use Rattle.machine.proofs.Refused.{refusals_numbered}
use Rattle.machine.proofs.Facts.{StateOk, passes_of_ok, ok_of_passes}
use Rattle.machine.proofs.Members.{sets_have}
use Rattle.balance.specs.Counting.{count, is_accepted, names_of, no_names, returned, Asking, asked_after, grants, Open, none_open, asks_now, open_at, open_after, GrantsOpen, open_from}
use Rattle.balance.specs.Fresh.{accepted_declaration, without}
use Rattle.balance.specs.Balance.{RightStep, AtEachRecord, Balance, SetsAtEachRecord, SetsAreRight}
use Rattle.balance.proofs.Steps.{Invariant, StepBooks, step_books}

-- ---- any kernel on the way

record Booked (day : ℕ) (k : State) (last : Asking) (was : Open) (rs : List (List ℕ)) : Type 0 where
  ok : StateOk day (final day k rs)
  exclusive : Exclusive (final day k rs).counts.bolts (final day k rs).locks
  counts_same : (final day k rs).counts ≡ k.counts
  dues : (i : ℕ) → i < k.counts.tasks → bit (is_some (task_at k.tasks i).kept) + count Due i (log day k rs) ≡ count Started i (log day k rs) + count Lost i (log day k rs) + bit (is_some (task_at (final day k rs).tasks i).kept)
  starts : (i : ℕ) → i < k.counts.tasks → bit (task_at k.tasks i).alive + count Started i (log day k rs) ≡ count Ended i (log day k rs) + bit (task_at (final day k rs).tasks i).alive
  values : (v : Wait) (x : ℕ) → Law v (level v (final day k rs).locks x) (grants k.counts.tasks v x (runner k) last (log day k rs)) (returned v x (log day k rs)) (level v k.locks x)
  opens : GrantsOpen k.counts.tasks (runner k) was (log day k rs)
  waits : (i : ℕ) → i < k.counts.tasks → open_from (runner k) was (log day k rs) i ≡ waiting (task_at (final day k rs).tasks i).wait
  each : AtEachRecord day k rs

right : (day : ℕ) (k : State) (last : Asking) (was : Open) (r : List ℕ) → StateOk day k → StepBooks day k last was (opened r).answer (opened r).list (step day k r) → RightStep day k r (step day k r).answer (step day k r).state
right day k last was r h d =
    record {
      tested = (passes_of_ok day k h).tested;
      never_1 = λ e. contra (taken_valid day k (passes_of_ok day k h).tested) ((refusals_numbered day k r).first e);
      never_16 = λ e. ((refusals_numbered day k r).second e).1 h.filed_ok;
      lost = λ i l. (d.marked i l).lost;
      declared = d.declared;
      begun = d.begun;
    }

module _ (day : ℕ) (is_day : IsDay day) where
  booked : (rs : List (List ℕ)) (k : State) (last : Asking) (was : Open) → Invariant day k last was → AllOctets rs → without accepted_declaration (log day k rs) ≡ true → Booked day k last was rs
  unfolding AllOctets without final log count returned grants GrantsOpen open_from asked_after names_of asks_now open_at open_after AtEachRecord
  booked [] k last was h o q =
      record {
        ok = h.ok;
        exclusive = h.exclusive;
        counts_same = refl;
        dues = λ i l. omega arith;
        starts = λ i l. omega arith;
        values = λ v x. law_refl v (level v k.locks x);
        opens = tt;
        waits = h.opens;
        each = tt;
      }
  booked (r ∷ rs) k last was h o q =
      let z = (step day k r).state in
      let p = both (not (is_accepted (step day k r).answer && is_declaration (opened r).answer)) (without accepted_declaration (log day z rs)) q in
      let d = step_books day is_day k last was h r o.0 p.0 in
      let ih = booked rs z _ _ d.next o.1 p.1 in
      record {
        ok = ih.ok;
        exclusive = ih.exclusive;
        counts_same = ih.counts_same ∙ d.counts_same;
        dues = λ i l. omega (arith, (d.marked i l).starts, ih.dues i (rw d.counts_same l));
        starts = λ i l. omega (arith, (d.marked i l).ends, ih.starts i (rw d.counts_same l));
        values = λ v x.
            let e = rw (← d.runs, d.counts_same) at (ih.values v x) in
            law_trans v (level v k.locks x) (level v z.locks x) _ _ _ _ _ (d.values v x) e;
        opens = (d.grants, rw (← d.runs, d.counts_same) at ih.opens);
        waits = λ i l. rw (← d.runs) at (ih.waits i (rw d.counts_same l));
        each = (right day k last was r h.ok d, ih.each);
      }

-- ---- from a fresh kernel

fresh_still : (t : Task) (p : ℕ) → t ≡ fresh_task p → (is_some t.kept ≡ false) × (t.alive ≡ false) × (waiting t.wait ≡ false)
fresh_still t p e = rw e (unfold fresh_task in (refl, refl, refl))

pub balance : Balance
balance day is_day k f rs o q =
    let h = ok_of_passes day k (record { tables = f.tables; tested = f.tested }) in
    let still : (i : ℕ) → i < k.counts.tasks → (is_some (task_at k.tasks i).kept ≡ false) × ((task_at k.tasks i).alive ≡ false) × (waiting (task_at k.tasks i).wait ≡ false) =
    λ i l. fresh_still (task_at k.tasks i) _ (f.tasks i l) in
    let idle : runner k ≡ None = nobody_runs k (λ i l. (still i l).1) in
    let empty : (b : ℕ) → b < k.counts.bolts → (level Reserve k.locks b ≡ 0) × (level Enter k.locks b ≡ 0) =
    λ b l. empty_levels k b (f.bolts b l) in
    let b = booked day is_day rs k (λ i. no_names) none_open
    (record {
      ok = h;
      ties = λ i l w. contra w (still i l).2;
      opens = λ i l. sym (still i l).2;
      exclusive = λ x l. rw (f.bolts x l) (λ e. refl);
    }) o q in
    record {
      sums =
          record {
            dues = λ i l. omega (arith, rw (still i l).0 at (b.dues i l));
            starts = λ i l. omega (arith, rw (still i l).1 at (b.starts i l));
            values = λ s l. rw idle at (b.values Request s);
            readers = λ x l. omega (arith, rw idle at (b.values Enter x), (empty x l).1);
            writers = λ x l. omega (arith, rw idle at (b.values Reserve x), (empty x l).0);
            writer = λ x l. writer_le (final day k rs).locks x;
            exclusive = λ x l. exclusive_levels (final day k rs).counts.bolts (final day k rs).locks b.exclusive x (rw b.counts_same l);
            grants = rw idle at b.opens;
            waiters = λ i l. sym (rw idle at (b.waits i l));
            nobody = λ i l. b.ok.stuck i (rw b.counts_same l);
            counts = b.counts_same;
          };
      each = b.each;
      last_tested = (passes_of_ok day (final day k rs) b.ok).tested;
    }
  where
    nobody_runs : (k : State) → ((i : ℕ) → i < k.counts.tasks → (task_at k.tasks i).alive ≡ false) → runner k ≡ None
    nobody_runs k g = unfold running_of in most_urgent_none k.counts.tasks _ _ (λ i l. rw (g i l))

    empty_levels : (k : State) (b : ℕ) → bolt_at k.locks b ≡ record { writer = false; readers = 0 } → (level Reserve k.locks b ≡ 0) × (level Enter k.locks b ≡ 0)
    empty_levels k b e = unfold level in (ap (λ (x : Bolt). bit x.writer) e, ap (λ (x : Bolt). x.readers) e)

-- ---- who is in the sets

pub sets_are_right : SetsAreRight
unfolding SetsAtEachRecord
sets_are_right day k [] = tt
sets_are_right day k (r ∷ rs) = (λ i l. sets_have day k r i l, sets_are_right day (step day k r).state rs)
