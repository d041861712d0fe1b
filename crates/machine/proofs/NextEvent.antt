-- The next event is real and earliest, and quiet ticks leave it.
use Rattle.std.specs.Prelude.{None, Some}
use mathlib.Core.Path.{◌≡◌, refl, sym, ap, ap₂, ◌∙◌}
use mathlib.Core.Bool.{true, false, ◌||◌}
use mathlib.Core.List.{List, ◌++◌}
use Prim.Native.Nat.{ℕ, zero, suc, ◌+◌, ◌-◌, ◌≤◌, ◌<◌}
use native.Mathlib.Decide.{dec_lt}
use native.Mathlib.Omega.{arith}
use lib.Dec.{ltb}
use borrow.Author.Tests.{leb-true, lt-ltb, ltb-true, ltb-false}
use Rattle.calendar.specs.Times.{instant, duration, plus}
use Rattle.calendar.specs.Moments.{has_at, earlier_than, comes_by, instant_or, first_after, Moment}
use Rattle.calendar.specs.declared.Instant.{Instant}
use Rattle.calendar.proofs.Moments.{earlier, first_none, first_is, first_append, has_append}
use Rattle.facts.proofs.Bools.{by_bool, by_eq, contra, neither}
use Rattle.task.specs.Coming.{pendings, comes}
use Rattle.task.specs.declared.Task.{Task}
use Rattle.machine.specs.declared.State.{State}
use Rattle.machine.specs.State.{task_at, begun_at}
use Rattle.machine.specs.NextEvent.{all_pending, next_among, next_event}
use Rattle.machine.specs.Quiet.{Quiet, Comes, IsNextEvent, later, NextIsNext, OneIsNext}

-- ---- all that pends

module _ (x : Instant) (ts : List Task) where
  pub pending_more : (n : ℕ) → has_at x (all_pending (suc n) ts) ≡ (comes x (task_at ts n) || has_at x (all_pending n ts))
  unfolding all_pending
  pending_more n = has_append x (pendings (task_at ts n)) (all_pending n ts)

  pub pending_none : (n : ℕ) → has_at x (all_pending n ts) ≡ false → (i : ℕ) → i < n → comes x (task_at ts i) ≡ false
  pending_none zero e i l = absurd (omega arith)
  pending_none (suc n) e i l =
      let p = neither (comes x (task_at ts n)) (has_at x (all_pending n ts)) (sym (pending_more n) ∙ e) in
      by_eq i n (λ q. rw q p.0) (λ q. pending_none n p.1 i (omega arith))

  pub pending_some : (n : ℕ) → has_at x (all_pending n ts) ≡ true → (i : ℕ) × (i < n) × (comes x (task_at ts i) ≡ true)
  unfolding all_pending
  pending_some zero e = contra e refl
  pending_some (suc n) e =
      by_bool (comes x (task_at ts n)) (λ c. (n, omega arith, c))
      (λ c. let p = pending_some n (rw (pending_more n, c) at e) in (p.0, omega arith, p.2))

-- All that pends for two tables whose first n tasks have the same to come.
module _ (ts us : List Task) where
  pub pending_alike : (n : ℕ) → ((i : ℕ) → i < n → pendings (task_at ts i) ≡ pendings (task_at us i)) → all_pending n ts ≡ all_pending n us
  unfolding all_pending
  pending_alike zero e = refl
  pending_alike (suc n) e = ap₂ (λ (a b : List Moment). a ++ b) (e n (omega arith)) (pending_alike n (λ i l. e i (omega arith)))

  pub pending_same : (n : ℕ) → ((i : ℕ) → i < n → task_at ts i ≡ task_at us i) → all_pending n ts ≡ all_pending n us
  pending_same n e = pending_alike n (λ i l. ap pendings (e i l))

-- So the next event is told by what is first for each task.
module _ (x : Instant) (ts us : List Task) where
  pub among_alike : (n : ℕ) → ((i : ℕ) → i < n → first_after x (pendings (task_at ts i)) ≡ first_after x (pendings (task_at us i)))
      → next_among x n ts ≡ next_among x n us
  unfolding next_among all_pending
  among_alike zero e = refl
  among_alike (suc n) e =
      first_append x (pendings (task_at ts n)) (all_pending n ts)
      ∙ ap₂ (λ (a b : Moment). earlier a b) (e n (omega arith)) (among_alike n (λ i l. e i (omega arith)))
      ∙ sym (first_append x (pendings (task_at us n)) (all_pending n us))

  pub among_same : (n : ℕ) → ((i : ℕ) → i < n → task_at ts i ≡ task_at us i) → next_among x n ts ≡ next_among x n us
  among_same n e = among_alike n (λ i l. ap (λ (t : Task). first_after x (pendings t)) (e i l))

-- An instant that comes by l.
pub instant_by : (l : ℕ) (n : Instant) (m : Moment) → comes_by l m ≡ true → (instant_or n m).0 ≤ l
instant_by l n None e = contra e refl
instant_by l n (Some x) e = leb-true x.0 l e

before_before : (m : Moment) (x y : ℕ) → x ≤ y → earlier_than (instant y) m ≡ true → earlier_than (instant x) m ≡ true
before_before None x y l e = refl
before_before (Some n) x y l e = lt-ltb x n.0 (omega (arith, ltb-true y n.0 e))

-- ---- the next event

pub next_is_next : NextIsNext
unfolding next_among
next_is_next k =
    let n = k.counts.tasks in
    let ps = all_pending n k.tasks in
    record {
      quiet = λ d b i l x a c.
          pending_none (instant x) k.tasks n (first_none k.now (instant x) a ps (before_before (next_event k) x _ c b)) i l;
      later = λ x e. (first_is k.now ps x e).0;
      comes = λ x e. pending_some x k.tasks n (first_is k.now ps x e).1;
    }

module _ {k : State} where
  -- What comes is not before the next event.
  not_before_law : {m : Moment} → IsNextEvent k m → (a : Instant) → k.now.0 < a.0 → Comes a k → earlier_than a m ≡ true → ⊥
  not_before_law p a l c b =
      let e : k.now.0 + (a.0 - k.now.0) ≡ a.0 = omega arith in
      contra c.2 (p.quiet (a.0 - k.now.0) (rw e b) c.0 c.1 a.0 l (omega arith))

  pub same_next : (m m' : Moment) → IsNextEvent k m → IsNextEvent k m' → m ≡ m'
  same_next None None p q = refl
  same_next None (Some b) p q = absurd (not_before_law p b (q.later b refl) (q.comes b refl) refl)
  same_next (Some a) None p q = absurd (not_before_law q a (p.later a refl) (p.comes a refl) refl)
  same_next (Some a) (Some b) p q =
      by_eq a.0 b.0 (λ e. ap (λ (x : ℕ). Some (instant x)) e)
      (λ ne. absurd (go (dec_lt a.0 b.0) ne))
    where
      go : Dec (a.0 < b.0) → (a.0 ≡ b.0 → ⊥) → ⊥
      go (yes l) ne = not_before_law q a (p.later a refl) (p.comes a refl) (lt-ltb a.0 b.0 l)
      go (no l) ne = not_before_law p b (q.later b refl) (q.comes b refl) (lt-ltb b.0 a.0 (omega arith))

pub one_is_next : OneIsNext
one_is_next k m p = same_next m (next_event k) p (next_is_next k)

-- While nothing comes, it is later.
pub quiet_before : (k : State) (d : ℕ) → Quiet d k → earlier_than (plus k.now (duration d)) (next_event k) ≡ true
quiet_before k d q = go (next_event k) (next_is_next k)
  where
    go : (m : Moment) → IsNextEvent k m → earlier_than (plus k.now (duration d)) m ≡ true
    go None p = refl
    go (Some x) p =
        let c = p.comes x refl in
        by_bool (ltb (k.now.0 + d) x.0) (λ e. e)
        (λ e. contra c.2 (q c.0 c.1 x.0 (p.later x refl) (ltb-false (k.now.0 + d) x.0 e)))

-- It is the same d quiet ticks later.
pub next_later : (k : State) (d : ℕ) → earlier_than (plus k.now (duration d)) (next_event k) ≡ true → next_event (later d k) ≡ next_event k
unfolding later
next_later k zero b = refl
next_later k (suc d) b =
    let p = next_is_next k in
    sym (one_is_next (begun_at (plus k.now (duration (suc d))) k) (next_event k)
    (record {
      quiet = λ e c i l x y z.
          let sum : k.now.0 + (suc d + e) ≡ k.now.0 + suc d + e = omega arith in
          p.quiet (suc d + e) (rw sum c) i l x (omega arith) (omega arith);
      later = λ n e. ltb-true _ n.0 (rw e at b);
      comes = p.comes;
    }))
