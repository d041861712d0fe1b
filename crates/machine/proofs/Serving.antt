-- Serving: what each grant keeps all of them keep, and in the end nobody waits on a list that could be granted.
use Rattle.std.specs.Prelude.{is_some, None, Some}
use mathlib.Core.Path.{◌≡◌, refl, ◌∙◌}
use mathlib.Core.Logic.{◌≢◌}
use mathlib.Core.Bool.{Bool, true, false, ◌&&◌}
use mathlib.Core.List.{List}
use Prim.Native.Nat.{ℕ, zero, suc, ◌+◌, ◌≤◌, ◌<◌}
use native.Mathlib.Nat.{not-suc-le-zero}
use native.Mathlib.Omega.{arith}
use lib.Dec.{ltb}
use lib.ListN.{length, length-set, get_or-eq_default}
use lib.Seq.{get_or-set_same, get_or-set_other}
use borrow.Author.Tests.{ltb-true, ltb-false}
use Rattle.lock.specs.declared.Way.TheVariants.{Take}
use Rattle.lock.specs.Locks.{bit, waiting, all_free}
use Rattle.facts.proofs.Bools.{by_bool, by_eq, contra, both}
use Rattle.lock.proofs.Levels.{Proper, SameSize}
use Rattle.lock.proofs.Taking.{move_size, move_most}
use Rattle.task.specs.State.{no_task, unheld, wanted, wait_over}
use Rattle.task.specs.declared.Task.{Task}
use Rattle.task.proofs.Fairness.{rest_facts}
use Rattle.machine.specs.declared.State.{State}
use Rattle.machine.specs.declared.Counts.{Counts}
use Rattle.machine.specs.Running.{Running, urgency}
use Rattle.machine.specs.Sums.{sum_below}
use Rattle.machine.specs.State.{task_at, count_of}
use Rattle.machine.specs.Granting.{could_be_granted, servable}
use Rattle.machine.specs.Serving.{Served, next_served, grant_to, serve}
use Rattle.machine.specs.Invariants.{ServingEnds}
use Rattle.machine.proofs.Below.{most_urgent_none, most_urgent_idle, most_urgent_at, sum_update, sum_at, sum_le}
use Rattle.machine.proofs.Facts.{TaskOk, Bounded, StateOk, proper_list}
use Rattle.machine.proofs.Granting.{could_free}
use Rattle.lock.proofs.Bits.{bit_le}

-- ---- one grant

-- A task that waits stands in the table.
waiter_room : (ts : List Task) (j : ℕ) → waiting (task_at ts j).wait ≡ true → j < length ts
waiter_room ts j e =
    by_bool (ltb j (length ts)) (λ q. ltb-true j (length ts) q)
    (λ q. contra e (rw (get_or-eq_default ts no_task (ltb-false j (length ts) q))))

module _ (n : ℕ) (p : Served) (j : ℕ) (e : servable n p.tasks p.locks j ≡ true) where
  pub served_waits : waiting (task_at p.tasks j).wait ≡ true
  served_waits = (both _ _ e).0

  pub served_free : all_free (task_at p.tasks j).wait p.locks (wanted (task_at p.tasks j)) ≡ true
  served_free = could_free _ _ _ _ (task_at p.tasks j).wait (wanted (task_at p.tasks j)) (both (waiting (task_at p.tasks j).wait) _ e).1

  pub grant_at : task_at (grant_to j p).tasks j ≡ wait_over (task_at p.tasks j)
  unfolding grant_to
  grant_at = get_or-set_same p.tasks j _ no_task (waiter_room p.tasks j served_waits)

pub grant_other : (p : Served) (j i : ℕ) → i ≢ j → task_at (grant_to j p).tasks i ≡ task_at p.tasks i
unfolding grant_to
grant_other p j i ne = get_or-set_other p.tasks j i _ no_task ne

-- ---- all of them

-- What each grant keeps, serving keeps.
pub serve_keeps : (n : ℕ) (ps : List ℕ) (P : Served → Type 0) → ((p : Served) (j : ℕ) → j < n → servable n p.tasks p.locks j ≡ true → P p → P (grant_to j p))
    → (turns : ℕ) (p : Served) → P p → P (serve n ps turns p)
unfolding serve
serve_keeps n ps P one zero p h = h
serve_keeps n ps P one (suc turns) p h = go (λ q. serve_keeps n ps P one turns q) (next_served n ps p) refl
  where
    go : ((q : Served) → P q → P (serve n ps turns q)) → (r : Running) → next_served n ps p ≡ r → P (elim r [ None ↦ p | Some i ↦ serve n ps turns (grant_to i p) ])
    go ih None e = h
    go ih (Some j) e =
        let u = most_urgent_at n (servable n p.tasks p.locks) _ j e in
        ih (grant_to j p) (one p j u.0 u.1 h)

-- Where nobody can be served, serving changes nothing.
pub serve_none : (n : ℕ) (ps : List ℕ) (turns : ℕ) (p : Served) → ((i : ℕ) → i < n → servable n p.tasks p.locks i ≡ false) → serve n ps turns p ≡ p
unfolding serve
serve_none n ps zero p h = refl
serve_none n ps (suc turns) p h = rw (most_urgent_none n (servable n p.tasks p.locks) (urgency ps p.tasks) h, serve)

-- How many tasks wait.
unfoldable pub waiters : ℕ → List Task → ℕ
waiters n ts = sum_below n (λ i. bit (waiting (task_at ts i).wait))

pub grant_fewer : (n : ℕ) (p : Served) (j : ℕ) → j < n → servable n p.tasks p.locks j ≡ true → waiters n (grant_to j p).tasks + 1 ≡ waiters n p.tasks
unfolding waiters
grant_fewer n p j l e =
    sum_update n (λ i. bit (waiting (task_at (grant_to j p).tasks i).wait)) (λ i. bit (waiting (task_at p.tasks i).wait)) j 1 l
    (rw (grant_at n p j e, served_waits n p j e)) (λ i ne. rw (grant_other p j i ne))

pub waiters_le : (n : ℕ) (ts : List Task) → waiters n ts ≤ n
unfolding waiters
waiters_le n ts = sum_le n _ (λ i. bit_le (waiting (task_at ts i).wait))

pub none_waits : (n : ℕ) (p : Served) → waiters n p.tasks ≤ 0 → (i : ℕ) → i < n → servable n p.tasks p.locks i ≡ false
unfolding waiters
none_waits n p h i l = idle_then (waiting (task_at p.tasks i).wait) (omega (arith, sum_at n (λ (i : ℕ). bit (waiting (task_at p.tasks i).wait)) i l))
  where
    idle_then : (b : Bool) → bit b ≤ 0 → (b && could_be_granted n p.tasks p.locks (task_at p.tasks i).current (task_at p.tasks i).wait (wanted (task_at p.tasks i))) ≡ false
    idle_then true z = absurd (not-suc-le-zero z)
    idle_then false z = refl

serve_ends : (n : ℕ) (ps : List ℕ) (turns : ℕ) (p : Served) → waiters n p.tasks ≤ turns → (i : ℕ) → i < n → servable n (serve n ps turns p).tasks (serve n ps turns p).locks i ≡ false
unfolding serve
serve_ends n ps zero p w = none_waits n p w
serve_ends n ps (suc turns) p w = go (λ q. serve_ends n ps turns q) (next_served n ps p) refl
  where
    go : ((q : Served) → waiters n q.tasks ≤ turns → (i : ℕ) → i < n → servable n (serve n ps turns q).tasks (serve n ps turns q).locks i ≡ false)
        → (r : Running) → next_served n ps p ≡ r
        → (i : ℕ) → i < n → servable n (elim r as (λ _. Served) [ None ↦ p | Some i ↦ serve n ps turns (grant_to i p) ]).tasks (elim r as (λ _. Served) [ None ↦ p | Some i ↦ serve n ps turns (grant_to i p) ]).locks i ≡ false
    go ih None e = most_urgent_idle n (servable n p.tasks p.locks) _ e
    go ih (Some j) e =
        let u = most_urgent_at n (servable n p.tasks p.locks) _ j e in
        ih (grant_to j p) (omega (arith, grant_fewer n p j u.0 u.1))

pub serving_ends : ServingEnds
serving_ends n ps p i l = serve_ends n ps n p (waiters_le n p.tasks) i l

-- ---- the limits of the kernel test

pub over_ok : (day : ℕ) (n : Counts) (t : Task) → TaskOk day n t → TaskOk day n (wait_over t)
over_ok day n t h =
    record {
      declared_ok = h.declared_ok;
      current_ok = h.current_ok;
      kept_ok_law = h.kept_ok_law;
      hold_ok_law = h.hold_ok_law;
      rests =
          by_bool t.alive (λ e. rw e)
          (λ e.
          let r = rest_facts t.alive (is_some t.kept) (waiting t.wait) (unheld t.hold) h.rests e in
          rw (e, r.0, r.2));
      listed = λ e. contra e refl;
      schedule_ok_law = h.schedule_ok_law;
      continuation_ok_law = h.continuation_ok_law;
    }

-- Tasks and locks on the way of serving.
pub record ServedOk (day : ℕ) (k : State) (p : Served) : Type 0 where
  pub tasks_size : length p.tasks ≡ length k.tasks
  pub locks_size : SameSize k.locks p.locks
  pub bounded : Bounded k.counts p.locks
  pub tasks_ok_law : (i : ℕ) → i < k.counts.tasks → TaskOk day k.counts (task_at p.tasks i)

module _ (day : ℕ) (k : State) (h : StateOk day k) where
  pub wanted_proper : (p : Served) → ServedOk day k p → (j : ℕ) → j < k.counts.tasks → waiting (task_at p.tasks j).wait ≡ true
      → Proper (task_at p.tasks j).wait (count_of k.counts (task_at p.tasks j).wait) p.locks (wanted (task_at p.tasks j))
  wanted_proper p o j l e = proper_list day k h p.locks o.locks_size _ _ _ ((o.tasks_ok_law j l).listed e)

  pub grant_ok : (p : Served) (j : ℕ) → j < k.counts.tasks → servable k.counts.tasks p.tasks p.locks j ≡ true → ServedOk day k p → ServedOk day k (grant_to j p)
  grant_ok p j l e o =
      let w = served_waits k.counts.tasks p j e in
      let s = sizes p j o in
      record {
        tasks_size = s.0;
        locks_size = s.1;
        bounded = λ v x q. unfold grant_to in move_most Take (task_at p.tasks j).wait _ (wanted (task_at p.tasks j)) p.locks (wanted_proper p o j l w) (served_free k.counts.tasks p j e) v x (o.bounded v x q);
        tasks_ok_law = λ i q. by_eq i j (λ z. rw (z, grant_at k.counts.tasks p j e) (over_ok day k.counts _ (o.tasks_ok_law j l))) (λ z. rw (grant_other p j i z) (o.tasks_ok_law i q));
      }
    where
      sizes : (p : Served) (j : ℕ) → ServedOk day k p → (length (grant_to j p).tasks ≡ length k.tasks) × SameSize k.locks (grant_to j p).locks
      sizes p j o = unfold grant_to in
          let t = move_size Take (task_at p.tasks j).wait (wanted (task_at p.tasks j)) p.locks in
          (length-set p.tasks j _ ∙ o.tasks_size, record { semaphores = t.semaphores ∙ o.locks_size.semaphores; bolts = t.bolts ∙ o.locks_size.bolts })
