-- What a call or declaration that isn't refused has passed, and what a kernel that passes the test has.
use mathlib.Core.Path.{◌≡◌, refl, subst}
use mathlib.Core.Bool.{Bool, true, false, not, ◌&&◌, ◌||◌}
use Prim.Native.Nat.{ℕ, zero, suc, ◌≤◌, ◌<◌}
use native.Mathlib.Omega.{arith}
use lib.Dec.{leb, ltb, eqb}
use borrow.Author.Tests.{leb-true, ltb-true}
use Rattle.calendar.specs.Limits.{last_instant, is_time_of_day}
use Rattle.calendar.specs.Moments.{comes_by, Moment}
use Rattle.calendar.specs.declared.Instant.{Instant}
use Rattle.layout.specs.Marks.{is, form}
use Rattle.layout.specs.declared.Mark.{Mark}
use Rattle.layout.specs.declared.Mark.TheVariants.{DT, DS, DB, IT, AC, TE, SU, TI, SL}
use Rattle.layout.specs.declared.Call.{Call}
use Rattle.record.specs.Refusals.{most_value, formed_as, formed, named, listed, timed, unless, first_refusal, shape, times}
use Rattle.lists.specs.Lists.{distinct, every}
use Rattle.lock.specs.Locks.{most_locks, waiting, returnable, value_at, bolt_at}
use Rattle.lock.specs.declared.Locks.{Locks}
use Rattle.lock.specs.declared.Wait.{Wait}
use Rattle.lock.specs.declared.Wait.TheVariants.{Nothing, Request, Reserve, Enter}
use Rattle.facts.proofs.Bools.{both, and_both}
use Rattle.task.specs.State.{unheld, suspended, rest_ok, wanted}
use Rattle.task.specs.declared.Task.{Task}
use Rattle.machine.proofs.Below.{all_at}
use Rattle.machine.specs.declared.Counts.{Counts}
use Rattle.machine.specs.declared.State.{State}
use Rattle.machine.specs.Running.{Running, someone}
use Rattle.machine.specs.State.{most_tasks, most_semaphores, most_bolts, most_interrupts, task_at, count_of}
use Rattle.machine.specs.Sums.{all_below}
use Rattle.machine.specs.Test.{between, is_priority, kept_ok, hold_ok, wait_ok, schedule_ok, continuation_ok, task_ok, counts_ok, places_ok, nobody_servable, valid}
use Rattle.machine.specs.Sorts.{sort_of, declares, needs_runner, given_kind}
use Rattle.machine.specs.Refusals.{declared_in, room_for, formal_refusal, unreturnable, is_continue, refusal_by, state_refusal}
use Rattle.layout.specs.Fields.{most_numbers}

-- ---- a call or declaration

pub unless_passed : (b : Bool) (n rest : ℕ) → unless b (suc n) rest ≡ 0 → (b ≡ true) × (rest ≡ 0)
unless_passed true n rest e = (refl, e)
unless_passed false n rest e = absurd (omega arith)

pub before_passed : (n rest : ℕ) → first_refusal n rest ≡ 0 → (n ≡ 0) × (rest ≡ 0)
before_passed zero rest e = (refl, e)
before_passed (suc n) rest e = absurd (omega arith)

-- No ground by what bytes, counts and the first accepted call decide, for a call with the mark m.
pub record Formal (day : ℕ) (m : Mark) (n : Counts) (begun : Bool) (c : Call) : Type 0 where
  pub timely : not (begun && declares m) ≡ true
  pub formed : formed_as (form m) c ≡ true
  pub listed : listed (form m) c ≡ true
  pub known : declared_in m n c ≡ true
  pub timed : timed day (form m) c.head ≡ true
  pub room : room_for m n ≡ true

pub formal : (day : ℕ) (n : Counts) (begun : Bool) (c : Call) → formal_refusal day n begun c ≡ 0 → Formal day c.head.mark n begun c
unfolding formal_refusal shape formed times
formal day n begun c e =
    let m = c.head.mark in
    let a = unless_passed (not (begun && declares m)) 1 _ e in
    let b = before_passed (shape c) _ a.1 in
    let f = unless_passed (formed_as (form m) c) 2 _ b.0 in
    let l = unless_passed (listed (form m) c) 3 0 f.1 in
    let d = unless_passed (declared_in m n c) 4 _ b.1 in
    let g = before_passed (times day c.head) _ d.1 in
    let t = unless_passed (timed day (form m) c.head) 5 0 g.0 in
    let r = unless_passed (room_for m n) 6 0 g.1 in
    record { timely = a.0; formed = f.0; listed = l.0; known = d.0; timed = t.0; room = r.0 }

-- No ground of the state, for a call with the mark m.
pub record Unrefused (m : Mark) (c : Call) (r : Running) (t : Task) (l : Locks) (n : Instant) (e : Moment) : Type 0 where
  pub runs : (not (needs_runner (sort_of m)) || someone r) ≡ true
  pub ended : (not (is m AC && eqb c.head.kind 0) || not t.alive) ≡ true
  pub lives : (not (is m TE || is m SU || is_continue m c.head) || t.alive) ≡ true
  pub unsuspended : (not (is m SU) || not (suspended t.hold)) ≡ true
  pub held : (not (is_continue m c.head) || not (unheld t.hold)) ≡ true
  pub returnable : (not (waiting (given_kind (sort_of m))) || every (returnable (given_kind (sort_of m)) l) (named c)) ≡ true
  pub goes : (not (is m TI) || ltb n.0 last_instant) ≡ true
  pub wakes : (not (is m SL) || comes_by last_instant e) ≡ true

unreturnable_passed : (w : Wait) (b : Bool) (rest : ℕ) → unless b (unreturnable w) rest ≡ 0 → (b ≡ true) × (rest ≡ 0)
unreturnable_passed Nothing b rest e = unless_passed b 13 rest e
unreturnable_passed Request b rest e = unless_passed b 12 rest e
unreturnable_passed Reserve b rest e = unless_passed b 13 rest e
unreturnable_passed Enter b rest e = unless_passed b 13 rest e

pub unrefused : (m : Mark) (c : Call) (r : Running) (t : Task) (l : Locks) (n : Instant) (x : Moment) → refusal_by m c r t l n x ≡ 0 → Unrefused m c r t l n x
unfolding refusal_by
unrefused m c r t l n x e =
    let w = given_kind (sort_of m) in
    let a = unless_passed (not (needs_runner (sort_of m)) || someone r) 7 _ e in
    let b = unless_passed (not (is m AC && eqb c.head.kind 0) || not t.alive) 8 _ a.1 in
    let d = unless_passed (not (is m TE || is m SU || is_continue m c.head) || t.alive) 9 _ b.1 in
    let f = unless_passed (not (is m SU) || not (suspended t.hold)) 10 _ d.1 in
    let g = unless_passed (not (is_continue m c.head) || not (unheld t.hold)) 11 _ f.1 in
    let h = unreturnable_passed w (not (waiting w) || every (returnable w l) (named c)) _ g.1 in
    let i = unless_passed (not (is m TI) || ltb n.0 last_instant) 14 _ h.1 in
    let j = unless_passed (not (is m SL) || comes_by last_instant x) 16 0 i.1 in
    record { runs = a.0; ended = b.0; lives = d.0; unsuspended = f.0; held = g.0; returnable = h.0; goes = i.0; wakes = j.0 }

-- 2 to 15, 17, or 0.
unfoldable pub refusal_of : ℕ → State → Call → ℕ
refusal_of day k c = first_refusal (formal_refusal day k.counts k.begun c) (state_refusal c.head.mark k c)

-- A call with the mark m that no refusal from 2 on stops.
pub record Passed (day : ℕ) (m : Mark) (k : State) (c : Call) : Type 0 where
  pub formal : Formal day m k.counts k.begun c
  pub state : state_refusal m k c ≡ 0

pub passed : (day : ℕ) (k : State) (c : Call) → refusal_of day k c ≡ 0 → Passed day c.head.mark k c
unfolding refusal_of
passed day k c e =
    let a = before_passed (formal_refusal day k.counts k.begun c) (state_refusal c.head.mark k c) e in
    record { formal = formal day k.counts k.begun c a.0; state = a.1 }

pub formal_as : {day : ℕ} {n : Counts} {begun : Bool} {c : Call} {m : Mark} → c.head.mark ≡ m → Formal day c.head.mark n begun c → Formal day m n begun c
formal_as {day} {n} {begun} {c} e p = subst (λ (m : Mark). Formal day m n begun c) e p

pub as_mark : {day : ℕ} {k : State} {c : Call} {m : Mark} → c.head.mark ≡ m → Passed day c.head.mark k c → Passed day m k c
as_mark {day} {k} {c} e p = subst (λ (m : Mark). Passed day m k c) e p

-- There is room for what is declared.
module _ (n : Counts) where
  pub room_task : room_for DT n ≡ true → n.tasks < most_tasks
  unfolding room_for
  room_task e =
      let x = ltb n.tasks most_tasks in
      ltb-true _ _ (both x true (both (x && true) true (both (x && true && true) true e).0).0).0

  pub room_semaphore : room_for DS n ≡ true → n.semaphores < most_semaphores
  unfolding room_for
  room_semaphore e =
      let x = ltb n.semaphores most_semaphores in
      ltb-true _ _ (both x true (both (x && true) true e).0).0

  pub room_bolt : room_for DB n ≡ true → n.bolts < most_bolts
  unfolding room_for
  room_bolt e = ltb-true _ _ (both (ltb n.bolts most_bolts) true e).0

  pub room_interrupt : room_for IT n ≡ true → n.interrupts < most_interrupts
  unfolding room_for
  room_interrupt e = ltb-true _ _ e

-- ---- a kernel

-- The list of a wait names declared numbers.
abbrev pub Listed : Counts → Task → Type 0
Listed n t = waiting t.wait ≡ true → every (λ x. ltb x (count_of n t.wait)) (wanted t) ≡ true

pub record Fits (n : Counts) : Type 0 where
  pub tasks : n.tasks ≤ most_tasks
  pub semaphores : n.semaphores ≤ most_semaphores
  pub bolts : n.bolts ≤ most_bolts
  pub interrupts : n.interrupts ≤ most_interrupts

pub counts_fit : (n : Counts) → counts_ok n ≡ true → Fits n
unfolding counts_ok
counts_fit n e =
    let a = both _ (leb n.interrupts most_interrupts) e in
    let b = both _ (leb n.bolts most_bolts) a.0 in
    let c = both (leb n.tasks most_tasks) (leb n.semaphores most_semaphores) b.0 in
    record {
      tasks = leb-true _ _ c.0;
      semaphores = leb-true _ _ c.1;
      bolts = leb-true _ _ b.1;
      interrupts = leb-true _ _ a.1;
    }

pub count_fits : (n : Counts) → Fits n → (w : Wait) → count_of n w ≤ most_locks
count_fits n h Nothing = omega arith
count_fits n h Request = h.semaphores
count_fits n h Reserve = h.bolts
count_fits n h Enter = h.bolts

-- The parts of the kernel test.
pub record Parts (day : ℕ) (k : State) : Type 0 where
  pub now : leb k.now.0 last_instant ≡ true
  pub clock : is_time_of_day day k.clock ≡ true
  pub counts : counts_ok k.counts ≡ true
  pub values : all_below k.counts.semaphores (λ s. leb (value_at k.locks s) most_value) ≡ true
  pub readers : all_below k.counts.bolts (λ b. leb (bolt_at k.locks b).readers most_value) ≡ true
  pub tasks : all_below k.counts.tasks (λ i. task_ok day k.counts (task_at k.tasks i)) ≡ true
  pub places : places_ok k.counts.tasks k.places ≡ true
  pub stuck : nobody_servable k ≡ true

pub parts : (day : ℕ) (k : State) → valid day k ≡ true → Parts day k
unfolding valid
parts day k e =
    let n = k.counts in
    let a = both _ (nobody_servable k) e in
    let p = both _ (places_ok n.tasks k.places) a.0 in
    let b = both _ (all_below n.tasks (λ i. task_ok day n (task_at k.tasks i))) p.0 in
    let c = both _ (all_below n.bolts (λ b. leb (bolt_at k.locks b).readers most_value)) b.0 in
    let d = both _ (all_below n.semaphores (λ s. leb (value_at k.locks s) most_value)) c.0 in
    let f = both _ (counts_ok n) d.0 in
    let g = both (leb k.now.0 last_instant) (is_time_of_day day k.clock) f.0 in
    record {
      now = g.0;
      clock = g.1;
      counts = f.1;
      values = d.1;
      readers = c.1;
      tasks = b.1;
      places = p.1;
      stuck = a.1;
    }

pub of_parts : (day : ℕ) (k : State) → Parts day k → valid day k ≡ true
unfolding valid
of_parts day k p =
    and_both (and_both (and_both (and_both (and_both (and_both (and_both p.now p.clock) p.counts) p.values) p.readers) p.tasks) p.places) p.stuck

pub record Tested (k : State) : Type 0 where
  pub fits : Fits k.counts
  pub listed : (i : ℕ) → i < k.counts.tasks → Listed k.counts (task_at k.tasks i)

listed_of : (n : Counts) (t : Task) → wait_ok n t ≡ true → Listed n t
listed_of n t e w =
    (both (between 1 most_numbers t.len && distinct (wanted t)) (every (λ x. ltb x (count_of n t.wait)) (wanted t)) (rw w at e)).1

pub listed_task : (day : ℕ) (n : Counts) (t : Task) → task_ok day n t ≡ true → Listed n t
unfolding task_ok
listed_task day n t e =
    let z = both _ (continuation_ok n.interrupts t.continuation t.given) e in
    let a = both _ (schedule_ok day n.interrupts t.schedule) z.0 in
    listed_of n t (both (is_priority t.declared && is_priority t.current && kept_ok t.kept && hold_ok t.hold && rest_ok t) (wait_ok n t) a.0).1

pub tested : (day : ℕ) (k : State) → valid day k ≡ true → Tested k
tested day k e =
    let n = k.counts in
    let p = parts day k e in
    record {
      fits = counts_fit n p.counts;
      listed = λ i l. listed_task day n (task_at k.tasks i) (all_at n.tasks _ p.tasks i l);
    }
