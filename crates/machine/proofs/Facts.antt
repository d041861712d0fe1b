-- A kernel is refused with neither 1 nor 16 exactly where these facts hold.
use mathlib.Core.Path.{◌≡◌, ◌∙◌}
use mathlib.Core.Bool.{true, false, ◌&&◌}
use mathlib.Core.List.{List}
use Prim.Native.Nat.{ℕ, ◌≤◌, ◌<◌}
use native.Mathlib.Omega.{arith}
use lib.Dec.{ltb, leb}
use lib.ListN.{length}
use borrow.Author.Tests.{leb-true, le-leb, ltb-true, lt-ltb, not-true}
use Rattle.calendar.specs.Limits.{last_instant}
use Rattle.lists.specs.Lists.{distinct, every}
use Rattle.record.specs.Refusals.{most_value}
use Rattle.lock.specs.Locks.{waiting, value_at, bolt_at, level}
use Rattle.lock.specs.declared.Wait.{Wait}
use Rattle.lock.specs.declared.Wait.TheVariants.{Nothing, Request, Reserve, Enter}
use Rattle.lock.specs.declared.Locks.{Locks}
use Rattle.facts.proofs.Bools.{both, and_both, not_of_false, or_then, then_or}
use Rattle.lock.proofs.Levels.{places, Proper, SameSize}
use Rattle.task.specs.State.{rest_ok, wanted}
use Rattle.task.specs.declared.Task.{Task}
use Rattle.machine.specs.declared.Counts.{Counts}
use Rattle.machine.specs.declared.State.{State}
use Rattle.machine.specs.declared.OnFile.{OnFile}
use Rattle.machine.specs.State.{task_at, count_of, with_file}
use Rattle.machine.specs.NextEvent.{file_of}
use Rattle.machine.specs.Granting.{servable}
use Rattle.machine.specs.Test.{between, is_priority, kept_ok, hold_ok, schedule_ok, continuation_ok, wait_ok, task_ok, counts_ok, nobody_servable, valid}
use Rattle.machine.specs.Invariants.{Tables, Passes}
use Rattle.machine.proofs.Below.{all_at, all_from}
use Rattle.machine.proofs.Places.{Apart, apart_of, places_test}
use Rattle.machine.proofs.Filing.{taken_valid, taken_filed, taken}
use Rattle.machine.proofs.Passed.{Fits, counts_fit, parts, of_parts}
use Rattle.lock.proofs.Bits.{bit_le}
use Rattle.layout.specs.Fields.{most_numbers}

-- A wait's list: one to four numbers, none twice, all declared.
pub record Listed (n : Counts) (w : Wait) (len : ℕ) (l : List ℕ) : Type 0 where
  pub size : between 1 most_numbers len ≡ true
  pub once : distinct l ≡ true
  pub below : every (λ x. ltb x (count_of n w)) l ≡ true

pub record TaskOk (day : ℕ) (n : Counts) (t : Task) : Type 0 where
  pub declared_ok : is_priority t.declared ≡ true
  pub current_ok : is_priority t.current ≡ true
  pub kept_ok_law : kept_ok t.kept ≡ true
  pub hold_ok_law : hold_ok t.hold ≡ true
  pub rests : rest_ok t ≡ true
  pub listed : waiting t.wait ≡ true → Listed n t.wait t.len (wanted t)
  pub schedule_ok_law : schedule_ok day n.interrupts t.schedule ≡ true
  pub continuation_ok_law : continuation_ok n.interrupts t.continuation t.given ≡ true

abbrev pub Bounded : Counts → Locks → Type 0
Bounded n r = (v : Wait) (x : ℕ) → x < count_of n v → level v r x ≤ most_value

pub record StateOk (day : ℕ) (k : State) : Type 0 where
  pub tables : Tables k
  pub now_ok : k.now.0 ≤ last_instant
  pub clock_ok : k.clock < day
  pub counts_ok_law : Fits k.counts
  pub bounded : Bounded k.counts k.locks
  pub tasks_ok_law : (i : ℕ) → i < k.counts.tasks → TaskOk day k.counts (task_at k.tasks i)
  pub places_ok_law : Apart k.counts.tasks k.places
  pub stuck : (i : ℕ) → i < k.counts.tasks → servable k.counts.tasks k.tasks k.locks i ≡ false
  pub filed_ok : k.file ≡ file_of k

-- ---- from the facts to the test

wait_test : (n : Counts) (t : Task) → (waiting t.wait ≡ true → Listed n t.wait t.len (wanted t)) → wait_ok n t ≡ true
wait_test n t f =
    then_or (waiting t.wait) _ (λ e. let q = f e in and_both (and_both q.size q.once) q.below)

pub task_test : (day : ℕ) (n : Counts) (t : Task) → TaskOk day n t → task_ok day n t ≡ true
unfolding task_ok
task_test day n t h =
    and_both (and_both (and_both (and_both (and_both (and_both (and_both h.declared_ok h.current_ok) h.kept_ok_law) h.hold_ok_law) h.rests) (wait_test n t h.listed)) h.schedule_ok_law) h.continuation_ok_law

pub counts_test : (n : Counts) → Fits n → counts_ok n ≡ true
unfolding counts_ok
counts_test n h = and_both (and_both (and_both (le-leb _ _ h.tasks) (le-leb _ _ h.semaphores)) (le-leb _ _ h.bolts)) (le-leb _ _ h.interrupts)

pub nobody_test : (k : State) → ((i : ℕ) → i < k.counts.tasks → servable k.counts.tasks k.tasks k.locks i ≡ false) → nobody_servable k ≡ true
unfolding nobody_servable
nobody_test k f = all_from k.counts.tasks _ (λ i l. not_of_false _ (f i l))

valid_test : (day : ℕ) (k : State) → StateOk day k → valid day k ≡ true
unfolding level
valid_test day k h =
    of_parts day k
    (record {
      now = le-leb _ _ h.now_ok;
      clock = lt-ltb _ _ h.clock_ok;
      counts = counts_test k.counts h.counts_ok_law;
      values = all_from k.counts.semaphores _ (λ s l. le-leb _ _ (h.bounded Request s l));
      readers = all_from k.counts.bolts _ (λ b l. le-leb _ _ (h.bounded Enter b l));
      tasks = all_from k.counts.tasks _ (λ i l. task_test day k.counts (task_at k.tasks i) (h.tasks_ok_law i l));
      places = places_test k.counts.tasks k.places h.places_ok_law;
      stuck = nobody_test k h.stuck;
    })

pub passes_of_ok : (day : ℕ) (k : State) → StateOk day k → Passes day k
passes_of_ok day k h = record { tables = h.tables; tested = taken day k (valid_test day k h) h.filed_ok }

-- ---- and back

wait_untest : (n : Counts) (t : Task) → wait_ok n t ≡ true → waiting t.wait ≡ true → Listed n t.wait t.len (wanted t)
wait_untest n t e w =
    let a = both (between 1 most_numbers t.len && distinct (wanted t)) _ (or_then (waiting t.wait) _ e w) in
    let b = both (between 1 most_numbers t.len) (distinct (wanted t)) a.0 in
    record { size = b.0; once = b.1; below = a.1 }

pub task_untest : (day : ℕ) (n : Counts) (t : Task) → task_ok day n t ≡ true → TaskOk day n t
unfolding task_ok
task_untest day n t e =
    let z = both _ (continuation_ok n.interrupts t.continuation t.given) e in
    let a = both _ (schedule_ok day n.interrupts t.schedule) z.0 in
    let b = both _ (wait_ok n t) a.0 in
    let c = both _ (rest_ok t) b.0 in
    let d = both _ (hold_ok t.hold) c.0 in
    let f = both _ (kept_ok t.kept) d.0 in
    let g = both (is_priority t.declared) (is_priority t.current) f.0 in
    record {
      declared_ok = g.0;
      current_ok = g.1;
      kept_ok_law = f.1;
      hold_ok_law = d.1;
      rests = c.1;
      listed = wait_untest n t b.1;
      schedule_ok_law = a.1;
      continuation_ok_law = z.1;
    }

-- Values and readers that stay in their limits; a writer does anyway.
pub bounded_of : (n : Counts) (r : Locks) → ((s : ℕ) → s < n.semaphores → value_at r s ≤ most_value) → ((b : ℕ) → b < n.bolts → (bolt_at r b).readers ≤ most_value) → Bounded n r
unfolding level
bounded_of n r f g Nothing x l = omega arith
bounded_of n r f g Request x l = f x l
bounded_of n r f g Reserve x l = omega (arith, bit_le (bolt_at r x).writer)
bounded_of n r f g Enter x l = g x l

pub nobody_untest : (k : State) → nobody_servable k ≡ true → (i : ℕ) → i < k.counts.tasks → servable k.counts.tasks k.tasks k.locks i ≡ false
unfolding nobody_servable
nobody_untest k e i l = not-true _ (all_at k.counts.tasks _ e i l)

pub ok_of_passes : (day : ℕ) (k : State) → Passes day k → StateOk day k
ok_of_passes day k p =
    let q = parts day k (taken_valid day k p.tested) in
    record {
      tables = p.tables;
      now_ok = leb-true _ _ q.now;
      clock_ok = ltb-true _ _ q.clock;
      counts_ok_law = counts_fit k.counts q.counts;
      bounded =
          bounded_of k.counts k.locks
          (λ s l. leb-true _ _ (all_at k.counts.semaphores (λ (s : ℕ). leb (value_at k.locks s) most_value) q.values s l))
          (λ x l. leb-true _ _ (all_at k.counts.bolts (λ (b : ℕ). leb (bolt_at k.locks b).readers most_value) q.readers x l));
      tasks_ok_law = λ i l. task_untest day k.counts (task_at k.tasks i) (all_at k.counts.tasks _ q.tasks i l);
      places_ok_law = apart_of k.counts.tasks k.places q.places;
      stuck = nobody_untest k q.stuck;
      filed_ok = taken_filed day k p.tested;
    }

-- With what the rules give on file.
pub refiled : (day : ℕ) (k : State) → StateOk day k → (f : OnFile) → f ≡ file_of k → StateOk day (with_file f k)
refiled day k h f e =
    record {
      tables = record { tasks = h.tables.tasks; places = h.tables.places; semaphores = h.tables.semaphores; bolts = h.tables.bolts; enabled = h.tables.enabled };
      now_ok = h.now_ok;
      clock_ok = h.clock_ok;
      counts_ok_law = h.counts_ok_law;
      bounded = h.bounded;
      tasks_ok_law = h.tasks_ok_law;
      places_ok_law = h.places_ok_law;
      stuck = h.stuck;
      filed_ok = e;
    }

-- ---- lists in tables of the right sizes

places_for : (n : Counts) (r : Locks) → n.semaphores ≤ length r.semaphores → n.bolts ≤ length r.bolts → (w : Wait) → count_of n w ≤ places w r
places_for n r s b Nothing = omega arith
places_for n r s b Request = s
places_for n r s b Reserve = b
places_for n r s b Enter = b

pub proper_list : (day : ℕ) (k : State) → StateOk day k → (r : Locks) → SameSize k.locks r → (w : Wait) (len : ℕ) (l : List ℕ) → Listed k.counts w len l → Proper w (count_of k.counts w) r l
proper_list day k h r s w len l q =
    let a = s.semaphores ∙ h.tables.semaphores in
    let b = s.bolts ∙ h.tables.bolts in
    let c = h.counts_ok_law in
    record { room = places_for k.counts r (omega (arith, a, c.semaphores)) (omega (arith, b, c.bolts)) w; once = q.once; below = q.below }

pub task_room : (day : ℕ) (k : State) → StateOk day k → k.counts.tasks ≤ length k.tasks
task_room day k h = omega (arith, h.tables.tasks, h.counts_ok_law.tasks)
