-- A continuation comes due in the tick to its instant, and in any arrival at it.
use Rattle.std.specs.Prelude.{Some}
use mathlib.Core.Path.{◌≡◌, refl, ap}
use mathlib.Core.Bool.{true}
use mathlib.Core.List.{List, [], ◌∷◌, ◌++◌}
use Prim.Native.Nat.{ℕ, suc, ◌+◌, ◌<◌}
use native.Mathlib.Omega.{arith}
use borrow.Author.Tests.{eq-eqb}
use Rattle.calendar.specs.declared.Instant.{Instant}
use Rattle.facts.proofs.Bools.{by_bool}
use Rattle.schedule.specs.Alarms.{pending, falls}
use Rattle.schedule.specs.Coming.{next_of}
use Rattle.schedule.specs.declared.Alarm.{Alarm}
use Rattle.task.specs.declared.Task.{Task}
use Rattle.task.proofs.Firing.{turned}
use Rattle.machine.specs.declared.State.{State}
use Rattle.machine.specs.State.{task_at}
use Rattle.machine.specs.Step.{step}
use Rattle.machine.specs.Log.{AllOctets, final, log}
use Rattle.machine.specs.Invariants.{IsDay, Passes}
use Rattle.machine.specs.Scripts.{row, one_tick}
use Rattle.machine.specs.Quiet.{later}
use Rattle.machine.specs.Continuing.{DueInTime, DueAfterTicks, PromiseKept, DueOnArrival, PromiseOnArrival}
use Rattle.machine.proofs.Rows.{row_split, log_append, final_append}
use Rattle.machine.proofs.Invariants.{step_passes}
use Rattle.machine.proofs.Quiet.{ticks_are_quiet, later_as}
use Rattle.machine.proofs.Accepted.{fires_on, task_ok_law}
use Rattle.machine.proofs.Arriving.{tick_arrives, arrives_turn}
use Rattle.machine.proofs.Untouched.{still_declared}
use Rattle.machine.proofs.Undisturbed.{stays_over_lists}

-- What pends at x falls on x.
pub next_falls : (a : Alarm) (x : Instant) → next_of a ≡ Some x → falls x a ≡ true
next_falls a x e =
    by_bool (pending a.plan)
    (λ p. let q : a.next ≡ x = let z = rw p at e in cc in rw (p, q) (eq-eqb x.0 x.0 refl))
    (λ p. absurd (let z = rw p at e in let o : ◌≡◌ {A = ℕ} 0 1 = cc in omega arith))

-- ---- one arrival

pub due_on_arrival : DueOnArrival
due_on_arrival day k s i x l e a =
    record {
      number = a.accepts.number;
      fires = fires_on _ _ (arrives_turn day k s x a i l)
          (turned.tick x (task_at k.tasks i) (task_ok_law day k a.accepts.tested i l).rests (next_falls (task_at k.tasks i).continuation x e));
    }

pub due_in_time : DueInTime
due_in_time day k i x room v l e q m =
    let d = due_on_arrival day k one_tick i x l e (tick_arrives day k x room v q m) in
    record { number = d.number; fires = d.fires }

-- ---- after d quiet ticks

-- d ticks and one more.
one_more : (d : ℕ) → row (suc d) one_tick ≡ row d one_tick ++ (one_tick ∷ [])
unfolding row
one_more d = let e : d + 1 ≡ suc d = omega arith in rw e at (row_split d 0 one_tick)

pub due_after_ticks : DueAfterTicks
unfolding log final
due_after_ticks day d k i x room v l e q n m =
    let r = ticks_are_quiet day d k room v q (omega arith) in
    let a = later_as day d k v q (omega arith) in
    let z = later d k in
    let t : task_at z.tasks i ≡ task_at k.tasks i = ap (λ (ts : List Task). task_at ts i) a.tasks in
    let y = due_in_time day z i x (rw a.tasks room) a.tested (rw a.counts l) (rw a.tasks e) (omega (arith, a.now)) m in
    record {
      answers = rw (one_more d, log_append day k (row d one_tick) (one_tick ∷ []), r.answers, r.state);
      number = y.number;
      fires = rw (one_more d, final_append day k (row d one_tick) (one_tick ∷ []), r.state) (rw t at y.fires);
    }

-- ---- after any list of records

pub final_passes : (day : ℕ) → IsDay day → (k : State) → Passes day k → (rs : List (List ℕ)) → AllOctets rs → Passes day (final day k rs)
unfolding final AllOctets
final_passes day is_day k p [] o = p
final_passes day is_day k p (r ∷ rs) o =
    final_passes day is_day (step day k r).state (step_passes day is_day k p r o.0) rs o.1

pub final_declared : (day : ℕ) (k : State) (i : ℕ) → i < k.counts.tasks → (rs : List (List ℕ)) → i < (final day k rs).counts.tasks
unfolding final
final_declared day k i l [] = l
final_declared day k i l (r ∷ rs) = final_declared day (step day k r).state i (still_declared day k i l r) rs

pub promise_on_arrival : PromiseOnArrival
promise_on_arrival day k rs i x l e u s a =
    let z = final day k rs in
    let h = stays_over_lists day k rs i l u in
    (h, due_on_arrival day z s i x (final_declared day k i l rs) (rw h.alarm e) a)

pub promise_kept : PromiseKept
promise_kept day is_day k p rs o i x l e u q m =
    let z = final day k rs in
    let f = final_passes day is_day k p rs o in
    let s = stays_over_lists day k rs i l u in
    (s, due_in_time day z i x f.tables.tasks f.tested (final_declared day k i l rs) (rw s.alarm e) q m)
