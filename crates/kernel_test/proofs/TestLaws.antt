-- What the parts of the kernel test say: of the tasks below n, of one wait, and of all.
use mathlib.Core.Path.{◌≡◌, refl, sym, ◌∙◌}
use mathlib.Core.Bool.{Bool, true, false, not, ◌&&◌}
use mathlib.Core.List.{List, ◌∷◌}
use Prim.Native.Nat.{ℕ, zero, suc, ◌+◌, ◌≤◌, ◌<◌}
use native.Mathlib.Numerals.{add-one}
use native.Mathlib.Nat.{le_antisymm}
use native.Mathlib.Omega.{arith}
use lib.Dec.{leb, ltb}
use borrow.Author.Tests.{leb-true, not-true, not-false}
use Rattle.calendar.specs.Limits.{last_instant, is_time_of_day}
use Rattle.lists.specs.Lists.{distinct, every}
use Rattle.layout.specs.Fields.{most_numbers}
use Rattle.lock.specs.Locks.{most_locks, waiting}
use Rattle.lock.specs.declared.Locks.{Locks}
use Rattle.facts.proofs.Bools.{by_bool, contra, both, and_both}
use Rattle.lists.proofs.EveryLaws.{every_more}
use Rattle.task.specs.State.{rest_ok, wanted}
use Rattle.task.specs.declared.Task.{Task}
use Rattle.machine.specs.State.{most_tasks, task_at, count_of}
use Rattle.machine.specs.Granting.{could_be_granted, servable}
use Rattle.machine.specs.Sums.{all_below}
use Rattle.machine.specs.Test.{between, is_priority, kept_ok, hold_ok, wait_ok, schedule_ok, continuation_ok, task_ok, counts_ok, nobody_servable, valid, places_ok}
use Rattle.machine.specs.declared.Counts.{Counts}
use Rattle.machine.specs.declared.State.{State}
use Rattle.machine.proofs.Below.{all_at}
use Rattle.machine.proofs.Passed.{counts_fit, count_fits}
use Rattle.kernel_values.proofs.Owned.{Owned, values_small, readers_small}
use Rattle.kernel_test.specs.Looks.{wait_settled}
use Rattle.kernel_test.proofs.TaskFit.{fit}

-- ---- the numbers below n

-- The numbers below i pass the test f.
pub record Upto (f : ℕ → Bool) (n i : ℕ) : Type 0 where
  pub within : i ≤ n
  pub passed : all_below i f ≡ true

pub upto_none : (f : ℕ → Bool) (n : ℕ) → Upto f n 0
unfolding all_below
upto_none f n = record { within = omega arith; passed = refl }

module _ {f : ℕ → Bool} {n i : ℕ} (p : Upto f n i) where
  pub upto_fails : i < n → f i ≡ false → false ≡ all_below n f
  upto_fails less e = by_bool (all_below n f) (λ a. contra (all_at n f a i less) e) (λ a. sym a)

  pub upto_passes : i < n → f i ≡ true → Upto f n (i + 1)
  unfolding all_below
  upto_passes less e = record { within = omega arith; passed = rw add-one (and_both p.passed e) }

  pub upto_all : n ≤ i → true ≡ all_below n f
  upto_all e = rw (← le_antisymm p.within e, p.passed)

-- Two tests of each number are one.
all_both : (n : ℕ) (f g : ℕ → Bool) → (all_below n f && all_below n g) ≡ all_below n (λ i. f i && g i)
unfolding all_below
all_both zero f g = refl
all_both (suc n) f g = rw (← all_both n f g) (swap (all_below n f) (f n) (all_below n g) (g n))
  where
    swap : (a b c d : Bool) → ((a && b) && (c && d)) ≡ ((a && c) && (b && d))
    swap false b c d = refl
    swap true false false d = refl
    swap true false true d = refl
    swap true true c d = refl

-- ---- one wait: w, d, e and g are what the tests of its parts said

pub not_many : (n : ℕ) → not (between 1 most_numbers n) ≡ false → n ≤ most_numbers
not_many n e = leb-true n most_numbers (both (leb 1 n) (leb n most_numbers) (not-false (between 1 most_numbers n) e)).1

pub settled_below :
    (n : Counts) (t : Task) → counts_ok n ≡ true → {m : ℕ} {e : Bool} → m ≡ count_of n t.wait
    → e ≡ every (λ x. ltb x m) (wanted t) → not e ≡ false → every (λ x. ltb x most_locks) (wanted t) ≡ true
settled_below n t f {m} {e} count below h =
    every_more m most_locks (wanted t) (rw count (count_fits n (counts_fit n f) t.wait)) (sym below ∙ not-false e h)

module _ (n : Counts) (ts : List Task) (r : Locks) (t : Task) {w : Bool} (waits : w ≡ waiting t.wait) where
  pub settled_none : not w ≡ true → true ≡ wait_settled n ts r t
  unfolding wait_settled
  settled_none a = rw (← waits, not-true w a)

  module _ (a : not w ≡ false) where
    pub settled_long : not (between 1 most_numbers t.len) ≡ true → false ≡ wait_settled n ts r t
    unfolding wait_settled
    settled_long b = rw (← waits, not-false w a, not-true (between 1 most_numbers t.len) b)

    module _ (b : not (between 1 most_numbers t.len) ≡ false) {d : Bool} (once : d ≡ distinct (wanted t)) where
      pub settled_twice : not d ≡ true → false ≡ wait_settled n ts r t
      unfolding wait_settled
      settled_twice f = rw (← waits, not-false w a, not-false (between 1 most_numbers t.len) b, ← once, not-true d f)

      module _ (f : not d ≡ false) {m : ℕ} {e : Bool} (count : m ≡ count_of n t.wait) (below : e ≡ every (λ x. ltb x m) (wanted t)) where
        pub settled_unknown : not e ≡ true → false ≡ wait_settled n ts r t
        unfolding wait_settled
        settled_unknown h =
            rw (← waits, not-false w a, not-false (between 1 most_numbers t.len) b, ← once, not-false d f, ← count, ← below, not-true e h)

        pub settled_each : not e ≡ false → {g : Bool} → g ≡ could_be_granted n.tasks ts r t.current t.wait (wanted t) → not g ≡ wait_settled n ts r t
        unfolding wait_settled
        settled_each h said =
            rw (← waits, not-false w a, not-false (between 1 most_numbers t.len) b, ← once, not-false d f, ← count, ← below, not-false e h, said)

-- ---- the kernel

pub wait_of : (day : ℕ) (n : Counts) (t : Task) → task_ok day n t ≡ true → wait_ok n t ≡ true
unfolding task_ok
wait_of day n t e =
    let s = schedule_ok day n.interrupts t.schedule in
    let g = continuation_ok n.interrupts t.continuation t.given in
    let r = is_priority t.declared && is_priority t.current && kept_ok t.kept && hold_ok t.hold && rest_ok t in
    (both r (wait_ok n t) (both (r && wait_ok n t) s (both (r && wait_ok n t && s) g e).0).0).1

and_last : (a b c : Bool) → (a && b && c) ≡ (a && c && b)
and_last true b c = and_swap b c
  where
    and_swap : (b c : Bool) → (b && c) ≡ (c && b)
    and_swap true true = refl
    and_swap true false = refl
    and_swap false true = refl
    and_swap false false = refl
and_last false b c = refl

abbrev pub fit_at : ℕ → State → ℕ → Bool
fit_at day k i = fit day k.counts k.tasks k.locks (task_at k.tasks i)

-- The test of a kernel by its parts: o and c are what the tests of clock and counts said.
module _ (day : ℕ) (k : State) {o c : Bool} (clock : o ≡ is_time_of_day day k.clock) (counts : c ≡ counts_ok k.counts) where
  pub out_of_range : not (leb k.now.0 last_instant && o && c) ≡ true → false ≡ valid day k
  unfolding valid
  out_of_range e = rw (← clock, ← counts, not-true (leb k.now.0 last_instant && o && c) e)

  module _ (e : not (leb k.now.0 last_instant && o && c) ≡ false) where
    in_range : (leb k.now.0 last_instant && o && c) ≡ true
    in_range = not-false (leb k.now.0 last_instant && o && c) e

    pub counted : counts_ok k.counts ≡ true
    counted = sym counts ∙ (both (leb k.now.0 last_instant && o) c in_range).1

    pub tasks_fit : k.counts.tasks ≤ most_tasks
    tasks_fit = (counts_fit k.counts counted).tasks

    pub all_fit : Owned k → (all_below k.counts.tasks (fit_at day k) && places_ok k.counts.tasks k.places) ≡ valid day k
    unfolding valid nobody_servable fit
    all_fit g =
        rw (
          ← clock,
          ← counts,
          in_range,
          values_small k g k.counts.semaphores,
          readers_small k g k.counts.bolts,
          ← all_both k.counts.tasks (λ i. task_ok day k.counts (task_at k.tasks i)) (λ i. not (servable k.counts.tasks k.tasks k.locks i)),
        )
        (and_last (all_below k.counts.tasks (λ i. task_ok day k.counts (task_at k.tasks i))) _ (places_ok k.counts.tasks k.places))
