-- The running task, the test of a kernel and refusals look only at what is declared.
use mathlib.Core.Path.{◌≡◌, refl, ap, ◌∙◌}
use mathlib.Core.Bool.{Bool, true, false, not, ◌&&◌, ◌||◌}
use mathlib.Core.List.{List}
use Prim.Native.Nat.{ℕ, zero, suc, ◌<◌}
use native.Mathlib.Omega.{arith}
use lib.Dec.{leb, ltb, eqb}
use borrow.Author.Tests.{ltb-true}
use Rattle.calendar.specs.Limits.{last_instant, is_time_of_day}
use Rattle.calendar.specs.declared.Instant.{Instant}
use Rattle.calendar.specs.Moments.{Moment}
use Rattle.layout.specs.declared.Mark.{Mark}
use Rattle.layout.specs.declared.Mark.TheVariants.{AC, TE, SU, CO}
use Rattle.layout.specs.declared.Call.{Call}
use Rattle.record.specs.Refusals.{most_value, named, first_refusal}
use Rattle.lock.specs.Locks.{waiting, returnable, can_move_all, value_at, bolt_at}
use Rattle.lock.specs.declared.Way.{Way}
use Rattle.lock.specs.declared.Way.TheVariants.{Take, Give}
use Rattle.lock.specs.declared.Wait.{Wait}
use Rattle.lock.specs.declared.Wait.TheVariants.{Nothing, Request, Reserve, Enter}
use Rattle.lock.specs.declared.Locks.{Locks}
use Rattle.facts.proofs.Bools.{both}
use Rattle.lists.proofs.EveryLaws.{every_below}
use Rattle.lock.proofs.Alike.{below, Seen, can_alike}
use Rattle.task.specs.State.{wanted}
use Rattle.task.specs.declared.Task.{Task}
use Rattle.machine.specs.declared.Counts.{Counts}
use Rattle.machine.specs.declared.State.{State}
use Rattle.machine.specs.Running.{Running, urgency, running_of, runner}
use Rattle.machine.specs.declared.Sort.{Sort}
use Rattle.machine.specs.declared.Sort.TheVariants.{Declaration, OneTask, TheRunner, ListAsked, ListGiven, AnInterrupt, EveryTask}
use Rattle.machine.specs.State.{task_at, count_of, with_state, place_at, with_places}
use Rattle.machine.specs.NextEvent.{next_among, next_event}
use Rattle.machine.specs.Granting.{available, could_be_granted, servable}
use Rattle.machine.specs.Sums.{all_below}
use Rattle.machine.specs.Test.{task_ok, counts_ok, nobody_servable, valid, places_ok, filed, kernel_refusal}
use Rattle.machine.specs.Sorts.{sort_of, given_kind, naming, runner_at, task_of}
use Rattle.machine.specs.Refusals.{list_declared, declared_by, declared_in, formal_refusal, refusal_by, state_refusal}
use Rattle.machine.proofs.Urgency.{scan_same}
use Rattle.machine.proofs.NextEvent.{pending_same}
use Rattle.machine.proofs.Below.{all_at, all_same}
use Rattle.machine.proofs.Granting.{could_alike, unopposed_same}
use Rattle.machine.proofs.Sorts.{other_mark}
use Rattle.machine.proofs.Passed.{refusal_of, formal, Listed, listed_task}
use Rattle.lists.specs.Lists.{every}

pub count_below : (n : Counts) (w : Wait) → count_of n w ≡ below n.semaphores n.bolts w
count_below n Nothing = refl
count_below n Request = refl
count_below n Reserve = refl
count_below n Enter = refl

pub and_then : (a b b' : Bool) → (a ≡ true → b ≡ b') → (a && b) ≡ (a && b')
and_then true b b' h = h refl
and_then false b b' h = refl

before_then : (n m m' : ℕ) → (n ≡ 0 → m ≡ m') → first_refusal n m ≡ first_refusal n m'
before_then zero m m' h = h refl
before_then (suc n) m m' h = refl

module _ (n : Counts) (ts ts' : List Task) (same : (i : ℕ) → i < n.tasks → task_at ts i ≡ task_at ts' i) where
  module _ (ps ps' : List ℕ) (stand : (i : ℕ) → i < n.tasks → place_at ps i ≡ place_at ps' i) where
    pub urgency_same : (i : ℕ) → i < n.tasks → urgency ps ts i ≡ urgency ps' ts' i
    unfolding urgency
    urgency_same i l = rw (same i l, stand i l)

    pub running_same : running_of n.tasks ps ts ≡ running_of n.tasks ps' ts'
    unfolding running_of
    running_same = scan_same n.tasks _ _ _ _ (λ i l. rw (same i l)) urgency_same

  pub next_among_law : (x : Instant) → next_among x n.tasks ts ≡ next_among x n.tasks ts'
  unfolding next_among
  next_among_law x = rw (pending_same ts ts' n.tasks same)

  module _ (r r' : Locks) (seen : Seen n.semaphores n.bolts r r') where
    pub moves_same : (way : Way) (w : Wait) (l : List ℕ) → every (λ x. ltb x (count_of n w)) l ≡ true → can_move_all way w r l ≡ can_move_all way w r' l
    moves_same way w l e =
        every_below _ _ (count_of n w) l e (λ x lt. can_alike _ _ r r' seen way w x (rw (count_below n w) at lt))

    pub could_same : (q : ℕ) (w : Wait) (l : List ℕ) → every (λ x. ltb x (count_of n w)) l ≡ true
        → could_be_granted n.tasks ts r q w l ≡ could_be_granted n.tasks ts' r' q w l
    unfolding available
    could_same q w l e =
        could_alike n.tasks ts r q w l n.tasks ts' r' (count_of n w) e
        (λ x lt. rw (can_alike _ _ r r' seen Take w x (rw (count_below n w) at lt), unopposed_same n.tasks ts ts' q x (λ i z. rw (same i z))))

    pub servable_same : (i : ℕ) → i < n.tasks → Listed n (task_at ts i) → servable n.tasks ts r i ≡ servable n.tasks ts' r' i
    servable_same i l h =
        let t = task_at ts i in
        rw (← same i l) (and_then (waiting t.wait) _ _ (λ w. could_same t.current t.wait (wanted t) (h w)))

-- ---- the test of a kernel, in four parts

abbrev limits_ok : ℕ → State → Bool
limits_ok day k =
    leb k.now.0 last_instant
    && is_time_of_day day k.clock
    && counts_ok k.counts
    && all_below k.counts.semaphores (λ s. leb (value_at k.locks s) most_value)
    && all_below k.counts.bolts (λ b. leb (bolt_at k.locks b).readers most_value)

abbrev tasks_ok : ℕ → State → Bool
tasks_ok day k = all_below k.counts.tasks (λ i. task_ok day k.counts (task_at k.tasks i))

in_parts : (day : ℕ) (k : State) → valid day k ≡ (limits_ok day k && tasks_ok day k && places_ok k.counts.tasks k.places && nobody_servable k)
unfolding valid
in_parts day k = refl

-- A call that names no task isn't refused for one.
unlooked : (m : Mark) (c : Call) (x : Running) (l : Locks) (n : Instant) (y : Moment) → naming (sort_of m) ≡ false → (t t' : Task)
    → refusal_by m c x t l n y ≡ refusal_by m c x t' l n y
unfolding refusal_by
unlooked m c x l n y e t t' = rw (other_mark naming m AC refl e, other_mark naming m TE refl e, other_mark naming m SU refl e, other_mark naming m CO refl e)

-- ---- a kernel and one with other tables

module _ (k : State) (ts : List Task) (ps : List ℕ) (r : Locks) (is : List Bool)
    (same : (i : ℕ) → i < k.counts.tasks → task_at k.tasks i ≡ task_at ts i)
    (stand : (i : ℕ) → i < k.counts.tasks → place_at k.places i ≡ place_at ps i)
    (seen : Seen k.counts.semaphores k.counts.bolts k.locks r) where
  abbrev k' : State
  k' = with_places ps (with_state ts r is k)

  limits_same : (day : ℕ) → limits_ok day k ≡ limits_ok day k'
  limits_same day =
      rw (
        all_same k.counts.semaphores (λ s. leb (value_at k.locks s) most_value) (λ s. leb (value_at r s) most_value) (λ s l. rw (seen.values s l)),
        all_same k.counts.bolts (λ b. leb (bolt_at k.locks b).readers most_value) (λ b. leb (bolt_at r b).readers most_value) (λ b l. rw (seen.bolts b l)),
      )

  tasks_same : (day : ℕ) → tasks_ok day k ≡ tasks_ok day k'
  tasks_same day = all_same k.counts.tasks _ _ (λ i l. rw (same i l))

  places_same : places_ok k.counts.tasks k.places ≡ places_ok k.counts.tasks ps
  unfolding places_ok
  places_same =
      all_same k.counts.tasks _ _
      (λ i l. rw (stand i l, all_same i (λ j. not (eqb (place_at k.places j) (place_at ps i))) (λ j. not (eqb (place_at ps j) (place_at ps i))) (λ j m. rw (stand j (omega arith)))))

  nobody_same : ((i : ℕ) → i < k.counts.tasks → Listed k.counts (task_at k.tasks i)) → nobody_servable k ≡ nobody_servable k'
  unfolding nobody_servable
  nobody_same h =
      all_same k.counts.tasks _ _ (λ i l. ap not (servable_same k.counts k.tasks ts same k.locks r seen i l (h i l)))

  valid_same : (day : ℕ) → valid day k ≡ valid day k'
  valid_same day =
      let places = places_ok k.counts.tasks k.places in
      rw (in_parts day k, in_parts day k', ← limits_same day, ← tasks_same day, ← places_same)
      (and_then (limits_ok day k && tasks_ok day k && places) (nobody_servable k) (nobody_servable k')
      (λ e. nobody_same (λ i l. listed_task day k.counts (task_at k.tasks i)
      (all_at k.counts.tasks _ (both (limits_ok day k) (tasks_ok day k) (both (limits_ok day k && tasks_ok day k) places e).0).1 i l))))

  pub runner_same : runner k ≡ runner k'
  runner_same = running_same k.counts k.tasks ts same k.places ps stand

  pub next_same : next_event k ≡ next_event k'
  next_same = next_among_law k.counts k.tasks ts same k.now

  pub kernel_same : (day : ℕ) → kernel_refusal day k ≡ kernel_refusal day k'
  unfolding kernel_refusal filed
  kernel_same day = rw (valid_same day, runner_same, next_same)

  -- ---- refusals 8 to 15 and 17

  task_same : (i : ℕ) → ltb i k.counts.tasks ≡ true → task_at k.tasks i ≡ task_at ts i
  task_same i e = same i (ltb-true i k.counts.tasks e)

  gives_same : (w : Wait) (c : Call) → list_declared k.counts w c ≡ true → every (returnable w k.locks) (named c) ≡ every (returnable w r) (named c)
  gives_same w c e = moves_same k.counts k.tasks ts same k.locks r seen Give w (named c) e

  -- What is given back, where the call is of a sort.
  given_same : (s : Sort) (c : Call) → declared_by s k.counts c ≡ true
      → (not (waiting (given_kind s)) || every (returnable (given_kind s) k.locks) (named c)) ≡ (not (waiting (given_kind s)) || every (returnable (given_kind s) r) (named c))
  unfolding declared_by
  given_same Declaration c e = refl
  given_same OneTask c e = refl
  given_same TheRunner c e = refl
  given_same (ListAsked w b) c e = refl
  given_same (ListGiven w) c e = rw (gives_same w c e)
  given_same AnInterrupt c e = refl
  given_same EveryTask c e = refl

  -- The task is looked at where the call names one.
  about_same : (m : Mark) (c : Call) (x : Running) (l : Locks) (n : Instant) (y : Moment) → declared_in m k.counts c ≡ true
      → refusal_by m c x (task_at k.tasks (task_of (sort_of m) c.head x)) l n y ≡ refusal_by m c x (task_at ts (task_of (sort_of m) c.head x)) l n y
  about_same m c x l n y = go (sort_of m) refl
    where
      unseen : naming (sort_of m) ≡ false → (i : ℕ) → refusal_by m c x (task_at k.tasks i) l n y ≡ refusal_by m c x (task_at ts i) l n y
      unseen e i = unlooked m c x l n y e (task_at k.tasks i) (task_at ts i)

      go : (s : Sort) → sort_of m ≡ s → declared_by s k.counts c ≡ true
          → refusal_by m c x (task_at k.tasks (task_of s c.head x)) l n y ≡ refusal_by m c x (task_at ts (task_of s c.head x)) l n y
      go Declaration q e = unseen (rw q) (runner_at x)
      go OneTask q e =
          ap (λ (t : Task). refusal_by m c x t l n y)
          (task_same c.head.number (unfold declared_by in (both (ltb c.head.number k.counts.tasks) _ e).0))
      go TheRunner q e = unseen (rw q) (runner_at x)
      go (ListAsked w b) q e = unseen (rw q) (runner_at x)
      go (ListGiven w) q e = unseen (rw q) (runner_at x)
      go AnInterrupt q e = unseen (rw q) (runner_at x)
      go EveryTask q e = unseen (rw q) (runner_at x)

  locks_same : (m : Mark) (c : Call) (x : Running) (t : Task) (n : Instant) (y : Moment) → declared_in m k.counts c ≡ true
      → refusal_by m c x t k.locks n y ≡ refusal_by m c x t r n y
  unfolding refusal_by
  locks_same m c x t n y e = rw (given_same (sort_of m) c e)

  pub state_same : (m : Mark) (c : Call) → declared_in m k.counts c ≡ true → state_refusal m k c ≡ state_refusal m k' c
  state_same m c e =
      rw (← runner_same, ← next_same)
      (about_same m c (runner k) k.locks k.now (next_event k) e ∙ locks_same m c (runner k) _ k.now (next_event k) e)

  pub refusal_same : (day : ℕ) (c : Call) → refusal_of day k c ≡ refusal_of day k' c
  unfolding refusal_of
  refusal_same day c =
      before_then (formal_refusal day k.counts k.begun c) _ _ (λ e. state_same c.head.mark c (formal day k.counts k.begun c e).known)
