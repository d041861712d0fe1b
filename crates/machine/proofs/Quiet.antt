-- While nothing comes, ticks only move the instant.
use mathlib.Core.Path.{◌≡◌, refl, sym, ap, ap₂, ◌∙◌}
use mathlib.Core.Bool.{Bool, true, false}
use mathlib.Core.List.{List, [], ◌∷◌, ◌++◌, map}
use Prim.Native.Nat.{ℕ, zero, suc, ◌+◌, ◌≤◌, ◌<◌}
use native.Mathlib.Nat.{not-suc-le-zero}
use native.Mathlib.Omega.{arith}
use lib.ListN.{length, drop}
use borrow.Author.Tests.{le-leb, lt-ltb}
use Rattle.calendar.specs.Limits.{last_instant}
use Rattle.calendar.specs.Times.{duration, plus}
use Rattle.calendar.specs.declared.Instant.{Instant}
use Rattle.calendar.specs.Moments.{Moment}
use Rattle.layout.specs.Marks.{among}
use Rattle.layout.specs.Fields.{call_of, head_of, list_of, bytes_of}
use Rattle.layout.specs.declared.Call.{Call}
use Rattle.layout.specs.declared.Mark.TheVariants.{TI, SL}
use Rattle.lists.specs.Lists.{all_zero}
use Rattle.record.specs.Refusals.{uses, clean_names, clean_start, ranged, formed, listed, timed, shape, times}
use Rattle.record.specs.Reading.{opened}
use Rattle.task.specs.Turns.{unmarked, tick_turn}
use Rattle.task.specs.declared.Task.{Task}
use Rattle.task.specs.declared.Turn.{Turn}
use Rattle.task.proofs.Laws.{still}
use Rattle.machine.specs.declared.Counts.{Counts}
use Rattle.machine.specs.declared.State.{State}
use Rattle.machine.specs.declared.Stepped.{Stepped}
use Rattle.machine.specs.Sets.{set_of, mark, no_sets}
use Rattle.machine.specs.State.{most_tasks, task_at, begun_at}
use Rattle.machine.specs.Running.{runner}
use Rattle.machine.specs.NextEvent.{next_event, file_of}
use Rattle.machine.specs.Work.{turns, every_turn}
use Rattle.machine.specs.Serving.{serve}
use Rattle.machine.specs.Test.{nobody_servable, valid, kernel_refusal}
use Rattle.machine.specs.Sorts.{declares}
use Rattle.machine.specs.Refusals.{declared_by, room_for, formal_refusal, admitted_if, refusal_by, state_refusal}
use Rattle.machine.specs.Calls.{arrive, arrival, work_by}
use Rattle.machine.specs.Step.{plain_answer, finish, or_refuse, carry_out, settle, step}
use Rattle.machine.specs.Log.{final, log}
use Rattle.machine.specs.Scripts.{row, one_tick, sleep}
use Rattle.machine.specs.Quiet.{Quiet, later, TicksAreQuiet, QuietUpToNext}
use Rattle.machine.proofs.NextEvent.{next_is_next, quiet_before, next_later}
use Rattle.machine.proofs.Filing.{taken_valid, taken_filed, taken}
use Rattle.machine.proofs.Passed.{parts, tested}
use Rattle.machine.proofs.SetLaws.{each_same, unmarked_none}
use Rattle.machine.proofs.Works.{set_none}
use Rattle.machine.proofs.Serving.{serve_none}
use Rattle.machine.proofs.Facts.{nobody_untest}
use Rattle.machine.specs.Places.{event}
use Rattle.machine.proofs.Places.{moved_nobody, no_event}

-- ---- turns that mark nothing and leave their tasks

module _ (f : Task → Turn) where
  kept_tasks : (n : ℕ) (ts : List Task) → n ≤ length ts
      → ((i : ℕ) → i < n → f (task_at ts i) ≡ unmarked (task_at ts i))
      → map (λ u. u.task) (turns n f ts) ++ drop n ts ≡ ts
  kept_tasks zero ts h e = refl
  kept_tasks (suc n) [] h e = absurd (not-suc-le-zero h)
  kept_tasks (suc n) (t ∷ ts) h e =
      ap₂ (λ (a : Task) (b : List Task). a ∷ b) (ap (λ u. u.task) (e 0 (omega arith)))
      (kept_tasks n ts (omega arith) (λ i l. e (suc i) (omega arith)))

module _ (day : ℕ) (k : State) where
  still_valid : (n : Instant) → k.now.0 ≤ last_instant → n.0 ≤ last_instant → valid day k ≡ true → valid day (begun_at n k) ≡ true
  unfolding valid nobody_servable
  still_valid n a b v = rw (le-leb n.0 last_instant b) (rw (le-leb k.now.0 last_instant a) at v)

  pub still_taken : (n : Instant) → k.now.0 ≤ last_instant → n.0 ≤ last_instant → next_event (begun_at n k) ≡ next_event k
      → kernel_refusal day k ≡ 0 → kernel_refusal day (begun_at n k) ≡ 0
  still_taken n a b e t =
      taken day (begun_at n k) (still_valid n a b (taken_valid day k t)) (taken_filed day k t ∙ ap (λ (m : Moment). record { running = runner k; next = m }) (sym e))

-- ---- one tick

-- A quiet one leaves the next event.
pub next_after : (k : State) → Quiet 1 k → next_event (begun_at (plus k.now (duration 1)) k) ≡ next_event k
unfolding later
next_after k q = next_later k 1 (quiet_before k 1 q)

-- The records of a tick and of a sleep are well-formed for every kernel.
pub time_formed : (day : ℕ) (n : Counts) (b : Bool)
    → (formal_refusal day n b (call_of TI one_tick) ≡ 0) × (formal_refusal day n b (call_of SL sleep) ≡ 0)
unfolding formal_refusal declares declared_by room_for shape times timed formed listed ranged clean_start clean_names uses all_zero head_of list_of bytes_of
time_formed day n true = (refl, refl)
time_formed day n false = (refl, refl)

module _ (day : ℕ) (k : State) (room : length k.tasks ≡ most_tasks) (v : kernel_refusal day k ≡ 0) where
  pub nobody_served : (g turns : ℕ)
      → serve k.counts.tasks k.places turns (record { tasks = k.tasks; locks = k.locks; granted = g })
      ≡ record { tasks = k.tasks; locks = k.locks; granted = g }
  nobody_served g turns = serve_none k.counts.tasks k.places turns _ (nobody_untest k (parts day k (taken_valid day k v)).stuck)

  tick_still : Quiet 1 k
      → arrive k (plus k.now (duration 1))
      ≡ record { now = plus k.now (duration 1); tasks = k.tasks; locks = k.locks; enabled = k.enabled; sets = no_sets }
  unfolding arrive every_turn
  tick_still q =
      let n = k.counts.tasks in
      let f = tick_turn (plus k.now (duration 1)) in
      let r : n ≤ length k.tasks = omega (arith, (tested day k (taken_valid day k v)).fits.tasks) in
      let e : (i : ℕ) → i < n → f (task_at k.tasks i) ≡ unmarked (task_at k.tasks i) =
      λ i l. still (plus k.now (duration 1)) (task_at k.tasks i) (q i l (k.now.0 + 1) (omega arith) (omega arith)) in
      let tasks = kept_tasks f n k.tasks r e in
      let sets = each_same (λ x. set_of (map (λ u. mark x u.marks) (turns n f k.tasks))) (λ x. 0) (λ x. set_none n f k.tasks r (λ u. mark x u.marks) (λ i l. ap (λ (u : Turn). mark x u.marks) (e i l) ∙ unmarked_none x (task_at k.tasks i))) in
      λ i. record {
        now = plus k.now (duration 1);
        tasks = tasks i;
        locks = k.locks;
        enabled = k.enabled;
        sets = sets i;
      }

  tick_moves : Quiet 1 k
      → finish k (arrive k (plus k.now (duration 1)))
      ≡ record { state = begun_at (plus k.now (duration 1)) k; answer = plain_answer 0 (runner k) }
  unfolding finish
  tick_moves q =
      let n = k.counts.tasks in
      let f : k.file ≡ file_of (begun_at (plus k.now (duration 1)) k) =
      taken_filed day k v ∙ ap (λ (m : Moment). record { running = runner k; next = m }) (sym (next_after k q)) in
      rw (tick_still q, nobody_served 0 n, moved_nobody n (event k.tasks k.tasks 0) n k.places (λ i l. no_event k.tasks i), ← f)

  -- A tick, quiet or not.
  pub tick_step : (c : Call) → step day k one_tick ≡ or_refuse k (state_refusal TI k c) (finish k (arrive k (plus k.now (duration 1))))
  unfolding step settle carry_out declares work_by arrival admitted_if refusal_by opened among head_of bytes_of
  tick_step c = rw (v, (time_formed day k.counts k.begun).0)

  pub quiet_step : Quiet 1 k → k.now.0 < last_instant
      → step day k one_tick
      ≡ record { state = begun_at (plus k.now (duration 1)) k; answer = plain_answer 0 (runner k) }
  unfolding refusal_by
  quiet_step q l = tick_step (call_of TI one_tick) ∙ rw (lt-ltb k.now.0 last_instant l) (tick_moves q)

-- ---- d ticks

next : State → State
next k = begun_at (plus k.now (duration 1)) k

module _ (d : ℕ) (k : State) where
  quiet_next : Quiet (suc d) k → Quiet d (next k)
  unfolding next
  quiet_next q i l x a b = q i l x (omega arith) (omega arith)

  first_quiet : Quiet (suc d) k → Quiet 1 k
  first_quiet q i l x a b = q i l x a (omega arith)

later_next : (d : ℕ) (k : State) → later d (next k) ≡ later (suc d) k
unfolding later next
later_next zero k = refl
later_next (suc d) k =
    let e : k.now.0 + 1 + suc d ≡ k.now.0 + suc (suc d) = omega arith in
    rw e

pub ticks_are_quiet : TicksAreQuiet
unfolding log final row later next
ticks_are_quiet day zero k room v q l = record { answers = refl; state = refl }
ticks_are_quiet day (suc d) k room v q l =
    let s = quiet_step day k room v (first_quiet d k q) (omega arith) in
    let w = still_taken day k (plus k.now (duration 1)) (omega arith) (omega arith) (next_after k (first_quiet d k q)) v in
    let r = ticks_are_quiet day d (next k) room w (quiet_next d k q) (omega arith) in
    record {
      answers = rw (s, r.answers);
      state = ap (λ (x : Stepped). final day x.state (row d one_tick)) s ∙ r.state ∙ later_next d k;
    }

-- The kernel later is the same but for its instant.
pub record Later (day d : ℕ) (k : State) : Type 0 where
  pub tasks : (later d k).tasks ≡ k.tasks
  pub counts : (later d k).counts ≡ k.counts
  pub now : (later d k).now.0 ≡ k.now.0 + d
  pub tested : kernel_refusal day (later d k) ≡ 0

pub later_as : (day d : ℕ) (k : State) → kernel_refusal day k ≡ 0 → Quiet d k → k.now.0 + d ≤ last_instant → Later day d k
unfolding later
later_as day zero k v q l = record { tasks = refl; counts = refl; now = omega arith; tested = v }
later_as day (suc d) k v q l =
    let e = next_later k (suc d) (quiet_before k (suc d) q) in
    record { tasks = refl; counts = refl; now = refl; tested = still_taken day k (plus k.now (duration (suc d))) (omega arith) l e v }

pub quiet_up_to_next : QuietUpToNext
quiet_up_to_next day d k room v b l =
    (ticks_are_quiet day d k room v ((next_is_next k).quiet d b) l, next_later k d b)
