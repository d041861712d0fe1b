-- A sleep is so many ticks.
use Rattle.std.specs.Prelude.{None, Some}
use mathlib.Core.Path.{◌≡◌, refl, sym, ap, subst, ◌∙◌}
use mathlib.Core.Bool.{true, false}
use mathlib.Core.List.{List}
use Prim.Native.Nat.{ℕ, zero, suc, ◌+◌, ◌-◌, ◌≤◌, ◌<◌}
use native.Mathlib.Omega.{arith}
use lib.ListN.{length}
use borrow.Author.Tests.{le-leb, lt-ltb}
use Rattle.calendar.specs.Limits.{last_instant}
use Rattle.calendar.specs.Times.{instant, duration, plus}
use Rattle.calendar.specs.Moments.{earlier_than, comes_by, instant_or, first_after, Moment}
use Rattle.calendar.specs.declared.Instant.{Instant}
use Rattle.layout.specs.Marks.{among}
use Rattle.layout.specs.Fields.{call_of, head_of, bytes_of}
use Rattle.layout.specs.declared.Call.{Call}
use Rattle.layout.specs.declared.Mark.TheVariants.{TI, SL}
use Rattle.record.specs.Reading.{opened}
use Rattle.machine.specs.declared.State.{State}
use Rattle.machine.specs.State.{most_tasks}
use Rattle.task.specs.Coming.{pendings}
use Rattle.machine.specs.NextEvent.{next_among, next_event}
use Rattle.machine.specs.Work.{Work, every_turn}
use Rattle.machine.specs.Serving.{Served}
use Rattle.machine.specs.Test.{kernel_refusal}
use Rattle.machine.specs.Sorts.{declares}
use Rattle.machine.specs.Refusals.{admitted_if, refusal_by, state_refusal}
use Rattle.machine.specs.Calls.{arrive, arrival, work_by}
use Rattle.machine.specs.Step.{finish, or_refuse, carry_out, settle, step}
use Rattle.machine.specs.Scripts.{one_tick, sleep}
use Rattle.machine.specs.Quiet.{IsNextEvent, later}
use Rattle.machine.specs.Sleeping.{FiledIsNext, NoneIsForGood, SleepIsTicks, SleepIsRefused}
use Rattle.machine.proofs.Filing.{taken_next}
use Rattle.machine.proofs.NextEvent.{pending_alike, next_is_next}
use Rattle.machine.proofs.Accepted.{serving_keeps}
use Rattle.machine.proofs.Quiet.{time_formed, tick_step, later_as, quiet_up_to_next}

-- ---- on file

pub filed_is_next : FiledIsNext
filed_is_next day k v = subst (λ (m : Moment). IsNextEvent k m) (sym (taken_next day k v)) (next_is_next k)

pub none_is_for_good : NoneIsForGood
none_is_for_good day d k room v e l =
    let n : next_event k ≡ None = sym (taken_next day k v) ∙ e in
    (quiet_up_to_next day d k room v (rw n refl) l).0

-- ---- after a call

-- Serving brings and takes nothing that pends, so what comes next is told by the call's own work.
pub finish_next : (k : State) (w : Work) → (finish k w).state.file.next ≡ next_among w.now k.counts.tasks w.tasks
unfolding finish next_among
finish_next k w =
    let n = k.counts.tasks in
    let p : Served = record { tasks = w.tasks; locks = w.locks; granted = w.sets.granted } in
    ap (λ (ms : List Moment). first_after w.now ms)
    (pending_alike _ w.tasks n (λ i l. ap pendings (serving_keeps n k.places n p i).1))

-- ---- one sleep

module _ (day : ℕ) (k : State) (v : kernel_refusal day k ≡ 0) where
  -- A sleep, refused or not.
  pub sleep_step : (c : Call) → step day k sleep ≡ or_refuse k (state_refusal SL k c) (finish k (arrive k (instant_or k.now (next_event k))))
  unfolding step settle carry_out declares work_by arrival admitted_if refusal_by opened among head_of bytes_of
  sleep_step c = rw (v, (time_formed day k.counts k.begun).1)

  pub sleep_to : (x : Instant) → next_event k ≡ Some x → x.0 ≤ last_instant → step day k sleep ≡ finish k (arrive k x)
  unfolding refusal_by
  sleep_to x e l = sleep_step (call_of SL sleep) ∙ rw (e, le-leb x.0 last_instant l)

pub sleep_refused : SleepIsRefused
unfolding refusal_by
sleep_refused day k v e =
    let n : comes_by last_instant (next_event k) ≡ false = sym (ap (λ (m : Moment). comes_by last_instant m) (taken_next day k v)) ∙ e in
    sleep_step day k v (call_of SL sleep) ∙ rw n

-- ---- it is the last of so many ticks

-- What is done at an instant doesn't ask when the kernel came to it.
arrive_later : (d : ℕ) (k : State) (x : Instant) → finish (later d k) (arrive (later d k) x) ≡ finish k (arrive k x)
unfolding later finish arrive every_turn
arrive_later zero k x = refl
arrive_later (suc d) k x = refl

-- The tick to x.
pub tick_to : (day : ℕ) (k : State) (x : Instant) → length k.tasks ≡ most_tasks → kernel_refusal day k ≡ 0
    → k.now.0 + 1 ≡ x.0 → x.0 ≤ last_instant → step day k one_tick ≡ finish k (arrive k x)
unfolding refusal_by
tick_to day k x room v e l =
    let same : plus k.now (duration 1) ≡ x = ap instant e in
    tick_step day k room v (call_of TI one_tick) ∙ rw (lt-ltb k.now.0 last_instant (omega arith), same)

pub sleep_is_ticks : SleepIsTicks
sleep_is_ticks day k x room v e l =
    let n : next_event k ≡ Some x = sym (taken_next day k v) ∙ e in
    let late : k.now.0 < x.0 = (next_is_next k).later x n in
    let d = x.0 - k.now.0 - 1 in
    let reach : k.now.0 + suc d ≡ x.0 = omega arith in
    let b : earlier_than (plus k.now (duration d)) (next_event k) ≡ true = rw n (lt-ltb (k.now.0 + d) x.0 (omega arith)) in
    let q = (quiet_up_to_next day d k room v b (omega arith)).0 in
    let z = later_as day d k v ((next_is_next k).quiet d b) (omega arith) in
    let s = sleep_to day k v x n l in
    let t = tick_to day (later d k) x (rw z.tasks room) z.tested (omega (arith, z.now)) l ∙ arrive_later d k x in
    record {
      ahead = d;
      reach = reach;
      quiet = q;
      last = s ∙ rw q.state (sym t);
      number = rw s (unfold finish in refl);
      now = rw s (unfold finish in unfold arrive in unfold every_turn in refl);
    }
