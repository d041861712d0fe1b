-- The scan for the most urgent finds the first that passes, and looks at no other numbers.
use Rattle.std.specs.Prelude.{None, Some}
use mathlib.Core.Path.{◌≡◌, refl}
use mathlib.Core.Bool.{Bool, true}
use mathlib.Core.List.{List}
use Prim.Native.Nat.{ℕ, zero, suc, ◌<◌}
use native.Mathlib.Omega.{arith}
use lib.Dec.{ltb}
use Rattle.facts.proofs.Bools.{by_bool}
use Rattle.task.specs.State.{runnable}
use Rattle.task.specs.declared.Task.{Task}
use Rattle.machine.specs.declared.State.{State}
use Rattle.machine.specs.Running.{Running, urgency, better, most_urgent, running_of, runner}
use Rattle.machine.proofs.Below.{Found, scan_finds}
use Rattle.machine.specs.State.{task_at}
use Rattle.machine.specs.Granting.{servable}
use Rattle.machine.specs.Promises.{Chosen, AreBytes, ScanFindsFirst, RunnerIsFirst, NextServedIsFirst}

-- The number orders by priority, then by place.
first_of_found : (n : ℕ) (test : ℕ → Bool) (ps : List ℕ) (ts : List Task) → AreBytes n ps → (r : Running) → Found n test (urgency ps ts) r → Chosen n test ps ts r
unfolding urgency
first_of_found n test ps ts h None f = f
first_of_found n test ps ts h (Some i) f =
    record {
      below = f.0;
      passes = f.1;
      smallest = λ j l t. omega (arith, h i f.0, h j l, f.2 j l t);
      ties = λ j l t e. omega (arith, e, f.2 j l t);
    }

pub scan_first : ScanFindsFirst
scan_first n test ps ts h = first_of_found n test ps ts h (most_urgent n test (urgency ps ts)) (scan_finds n test (urgency ps ts))

pub runner_first : RunnerIsFirst
unfolding running_of
runner_first k h = scan_first k.counts.tasks (λ i. runnable (task_at k.tasks i)) k.places k.tasks h

pub next_served_first : NextServedIsFirst
next_served_first n ps p h = scan_first n (servable n p.tasks p.locks) ps p.tasks h

-- What is found is below n.
abbrev pub Below : ℕ → Running → Type 0
Below n None = Unit {0}
Below n (Some i) = i < n

pub runner_below : (k : State) → Below k.counts.tasks (runner k)
unfolding running_of
runner_below k = below (runner k) (scan_finds k.counts.tasks (λ i. runnable (task_at k.tasks i)) (urgency k.places k.tasks))
  where
    below : (r : Running) → Found k.counts.tasks (λ i. runnable (task_at k.tasks i)) (urgency k.places k.tasks) r → Below k.counts.tasks r
    below None f = tt
    below (Some i) f = f.0

-- The scan looks only at numbers below n.
better_same : (n : ℕ) (test : ℕ → Bool) (u u' : ℕ → ℕ) → ((i : ℕ) → i < suc n → u i ≡ u' i) → (r : Running) → Found n test u r
    → better u r n ≡ better u' r n
better_same n test u u' g None f = refl
better_same n test u u' g (Some i) f = rw (g n (omega arith), g i (omega (arith, f.0)))

pub scan_same : (n : ℕ) (test test' : ℕ → Bool) (u u' : ℕ → ℕ) → ((i : ℕ) → i < n → test i ≡ test' i) → ((i : ℕ) → i < n → u i ≡ u' i)
    → most_urgent n test u ≡ most_urgent n test' u'
unfolding most_urgent
scan_same zero test test' u u' h g = refl
scan_same (suc n) test test' u u' h g =
    let ih = scan_same n test test' u u' (λ i l. h i (omega arith)) (λ i l. g i (omega arith)) in
    let b = better_same n test u u' g (most_urgent n test u) (scan_finds n test u) in
    rw (h n (omega arith), b, ih)

-- The scan goes by comparisons alone: of two that pass, whether the later one is more urgent.
pub scan_alike : (n : ℕ) (test : ℕ → Bool) (u v : ℕ → ℕ)
    → ((i j : ℕ) → i < j → j < n → test i ≡ true → test j ≡ true → ltb (u j) (u i) ≡ ltb (v j) (v i)) → most_urgent n test u ≡ most_urgent n test v
unfolding most_urgent
scan_alike zero test u v h = refl
scan_alike (suc n) test u v h =
    let ih = scan_alike n test u v (λ i j l m. h i j l (omega arith)) in
    by_bool (test n) (λ e. rw (e, ← ih) (held e (most_urgent n test u) (scan_finds n test u))) (λ e. rw (e, ih))
  where
    held : test n ≡ true → (r : Running) → Found n test u r → better u r n ≡ better v r n
    held e None f = refl
    held e (Some i) f = rw (h i n f.0 (omega arith) f.1 e)

-- So it is the same where those that pass are as urgent as they were.
pub scan_passing : (n : ℕ) (test : ℕ → Bool) (u v : ℕ → ℕ) → ((i : ℕ) → i < n → test i ≡ true → u i ≡ v i) → most_urgent n test u ≡ most_urgent n test v
scan_passing n test u v h = scan_alike n test u v (λ i j l m e f. rw (h i (omega arith) e, h j m f))
