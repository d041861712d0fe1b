-- The turns of all tasks, one after the other: what the tables and the sets are with the first i turns made.
use Rattle.std.specs.Prelude.{is_some, None}
use mathlib.Core.Path.{◌≡◌, refl, sym, ◌∙◌, ap}
use mathlib.Core.Bool.{Bool, true, false, not, ◌&&◌}
use mathlib.Core.List.{List, [], ◌∷◌, ◌++◌, map}
use Prim.Native.Nat.{ℕ, zero, suc, ◌+◌, ◌*◌, ◌^◌, ◌≤◌, ◌<◌}
use native.Mathlib.Nat.{not-suc-le-zero, pow-suc, one-mul}
use native.Mathlib.Numerals.{add-one}
use native.Mathlib.Omega.{arith}
use lib.Bits.{bit_or, or_shifted_r}
use lib.ListN.{length, take, drop, set, length-map}
use lib.Seq.{length-take-le, set-get_or}
use lib.Dec.{eqb}
use borrow.Author.Tests.{eqb-true, not-false}
use Rattle.calendar.specs.declared.Instant.{Instant}
use Rattle.calendar.specs.Moments.{Moment}
use Rattle.lock.specs.Locks.{bit, waiting}
use Rattle.facts.proofs.Bools.{and_both, by_bool, by_eq, contra}
use Rattle.task.specs.State.{no_task, unheld}
use Rattle.task.specs.Turns.{unmarked, tick_turn, trigger_turn}
use Rattle.task.specs.declared.Task.{Task}
use Rattle.task.specs.declared.Turn.{Turn}
use Rattle.task.proofs.Fairness.{rest_facts}
use Rattle.task.proofs.Waits.{SameWait, NoNewWait, no_wait_tick, tick_keeps_wait}
use Rattle.machine.specs.Sets.{set_of, mark, each_set, no_sets}
use Rattle.machine.specs.State.{most_tasks, task_at, enabled_at, with_state, begun_at, with_places, with_file}
use Rattle.machine.specs.Work.{only_enabled, turns, every_turn}
use Rattle.machine.specs.Running.{running_of, Running}
use Rattle.machine.specs.NextEvent.{next_among}
use Rattle.machine.specs.Serving.{next_served}
use Rattle.machine.specs.Test.{valid}
use Rattle.machine.specs.Calls.{trigger_in}
use Rattle.machine.specs.Step.{finish}
use Rattle.machine.specs.declared.Counts.{Counts}
use Rattle.machine.specs.declared.State.{State}
use Rattle.machine.specs.declared.Stepped.{Stepped}
use Rattle.machine.proofs.Below.{all_at, all_from, most_urgent_none}
use Rattle.machine.proofs.Facts.{TaskOk, task_test, task_untest, nobody_untest}
use Rattle.machine.proofs.Granting.{WaitsAlike, servable_alike}
use Rattle.machine.proofs.Passed.{parts, tested}
use Rattle.machine.proofs.Works.{turn_at}
use Rattle.machine.proofs.SetLaws.{members_each, each_same, set_of_lt}
use Rattle.machine.specs.declared.Sets.{Sets}
use Rattle.machine.specs.Places.{event, moved}
use Rattle.kernel_sets.specs.Puts.{put_if, put_marks}
use Rattle.kernel_test.proofs.TestLaws.{wait_of}
use Rattle.kernel_test.specs.Looks.{waits_ok}
use Rattle.kernel_serving.specs.Served.{served, served_of}
use Rattle.kernel_serving.proofs.ServeLaws.{served_idle}
use Rattle.kernel_finish.specs.Ends.{work_here, next_filed, as_before}
use Rattle.kernel_finish.proofs.EndLaws.{next_of_work}
use Rattle.kernel_test.proofs.SoundLaws.{sound}
use Rattle.kernel_values.specs.Answers.{answer_of}

-- ---- a set with one more place

set_more : (bs : List Bool) (b : Bool) → set_of (bs ++ (b ∷ [])) ≡ bit b * 2 ^ length bs + set_of bs
unfolding set_of
set_more [] true = refl
set_more [] false = refl
set_more (x ∷ bs) true = rw (pow-suc 2 (length bs), set_more bs true) (omega arith)
set_more (x ∷ bs) false = rw (set_more bs false) (omega arith)

put_more : (bs : List Bool) (b : Bool) → put_if (length bs) b (set_of bs) ≡ set_of (bs ++ (b ∷ []))
put_more bs true = rw set_more (ap (bit_or (set_of bs)) (sym (one-mul (2 ^ length bs))) ∙ or_shifted_r 1 (length bs) (set_of bs) (set_of_lt bs))
put_more bs false = rw set_more (omega arith)

-- ---- one more turn

module _ (f : Task → Turn) where
  -- The tasks, with the turns of the first i made.
  unfoldable pub tasks_after : ℕ → List Task → List Task
  tasks_after i ts = map (λ u. u.task) (turns i f ts) ++ drop i ts

  -- The set of those of the first i whose turns say so.
  unfoldable pub set_after : (Turn → Bool) → ℕ → List Task → ℕ
  set_after g i ts = set_of (map g (turns i f ts))

  -- The tasks whose turns are to come.
  after_later : (i j : ℕ) (ts : List Task) → i ≤ j → task_at (tasks_after i ts) j ≡ task_at ts j
  unfolding tasks_after
  after_later zero j ts h = refl
  after_later (suc i) j [] h = refl
  after_later (suc i) zero (t ∷ ts) h = absurd (not-suc-le-zero h)
  after_later (suc i) (suc j) (t ∷ ts) h = after_later i j ts (omega arith)

  after_long : (i : ℕ) (ts : List Task) → length (tasks_after i ts) ≡ length ts
  unfolding tasks_after
  after_long zero ts = refl
  after_long (suc i) [] = refl
  after_long (suc i) (t ∷ ts) = ap suc (after_long i ts)

  after_more : (i : ℕ) (ts : List Task) → i < length ts → set (tasks_after i ts) i (f (task_at ts i)).task ≡ tasks_after (suc i) ts
  unfolding tasks_after
  after_more i [] h = absurd (not-suc-le-zero h)
  after_more zero (t ∷ ts) h = refl
  after_more (suc i) (t ∷ ts) h = ap (λ l. (f t).task ∷ l) (after_more i ts (omega arith))

  bits_more : (g : Turn → Bool) (i : ℕ) (ts : List Task) → i < length ts → map g (turns (suc i) f ts) ≡ map g (turns i f ts) ++ (g (f (task_at ts i)) ∷ [])
  bits_more g i [] h = absurd (not-suc-le-zero h)
  bits_more g zero (t ∷ ts) h = refl
  bits_more g (suc i) (t ∷ ts) h = ap (λ l. g (f t) ∷ l) (bits_more g i ts (omega arith))

  bits_long : (g : Turn → Bool) (i : ℕ) (ts : List Task) → i < length ts → length (map g (turns i f ts)) ≡ i
  bits_long g i ts h = length-map (turns i f ts) g ∙ length-map (take i ts) f ∙ length-take-le i ts (omega arith)

  set_after_more : (g : Turn → Bool) (i : ℕ) (ts : List Task) → i < length ts → put_if i (g (f (task_at ts i))) (set_after g i ts) ≡ set_after g (suc i) ts
  unfolding set_after
  set_after_more g i ts h =
      ap (λ (x : ℕ). put_if x (g (f (task_at ts i))) (set_of (map g (turns i f ts)))) (sym (bits_long g i ts h))
      ∙ put_more (map g (turns i f ts)) (g (f (task_at ts i)))
      ∙ ap set_of (sym (bits_more g i ts h))

  abbrev pub sets_after : ℕ → List Task → Sets
  sets_after i ts = each_set (λ x. set_after (λ u. mark x u.marks) i ts)

  sets_after_more : (i : ℕ) (ts : List Task) → i < length ts → put_marks i (f (task_at ts i)).marks (sets_after i ts) ≡ sets_after (suc i) ts
  sets_after_more i ts h =
      each_same _ _
      (λ x. ap (put_if i (mark x (f (task_at ts i)).marks)) (members_each x (λ y. set_after (λ u. mark y u.marks) i ts))
      ∙ set_after_more (λ u. mark x u.marks) i ts h)

-- The turns f of the first i tasks of the kernel k have made the kernel `next` and the sets s.
pub record Made (f : Task → Turn) (k : State) (i : ℕ) (next : State) (s : Sets) : Type 0 where
  pub state : next ≡ with_state (tasks_after f i k.tasks) k.locks k.enabled k
  pub sets : s ≡ sets_after f i k.tasks

module _ (f : Task → Turn) (k : State) where
  pub made_none : Made f k 0 k no_sets
  unfolding tasks_after set_after set_of
  made_none = record { state = refl; sets = refl }

  pub made_all : {i : ℕ} {next : State} {s : Sets} (n : Instant) → i ≡ k.counts.tasks → Made f k i next s
      → (next ≡ with_state (every_turn k n f).tasks k.locks k.enabled k) × (s ≡ (every_turn k n f).sets)
  unfolding tasks_after set_after every_turn
  made_all n e h =
      (h.state ∙ ap (λ (x : ℕ). with_state (tasks_after f x k.tasks) k.locks k.enabled k) e, h.sets ∙ ap (λ (x : ℕ). sets_after f x k.tasks) e)

  pub made_long : {i : ℕ} {next : State} {s : Sets} → Made f k i next s → length next.tasks ≡ length k.tasks
  made_long {i} h = ap (λ (q : State). length q.tasks) h.state ∙ after_long f i k.tasks

  module _ (i : ℕ) (l : i < length k.tasks) {next : State} {s : Sets} (h : Made f k i next s) where
    pub task_now : task_at next.tasks i ≡ task_at k.tasks i
    task_now = ap (λ (q : State). task_at q.tasks i) h.state ∙ after_later f i i k.tasks (omega arith)

    made_turn : (u : Turn) → u ≡ f (task_at next.tasks i)
        → Made f k (i + 1) (with_state (set next.tasks i u.task) next.locks next.enabled next) (put_marks i u.marks s)
    made_turn u e =
        let v : u ≡ f (task_at k.tasks i) = e ∙ ap f task_now in
        rw (add-one, h.state, h.sets, v)
        (record {
          state = rw (after_more f i k.tasks l);
          sets = sets_after_more f i k.tasks l;
        })

    module _ {next' : State} {s' : Sets} where
      -- Task i has its turn,
      pub made_more : (u : Turn) → u ≡ f (task_at next.tasks i)
          → next' ≡ with_state (set next.tasks i u.task) next.locks next.enabled next → s' ≡ put_marks i u.marks s
          → Made f k (i + 1) next' s'
      made_more u e a b = rw (a, b) (made_turn u e)

      -- or is passed over, if it would change nothing.
      pub made_still : f (task_at next.tasks i) ≡ unmarked (task_at next.tasks i) → next' ≡ next → s' ≡ s → Made f k (i + 1) next' s'
      made_still e a b =
          let q = made_turn (unmarked (task_at next.tasks i)) (sym e) in
          record {
            state = a ∙ ap (λ (ts : List Task). with_state ts next.locks next.enabled next) (sym (set-get_or next.tasks i no_task)) ∙ q.state;
            sets = b ∙ q.sets;
          }

-- ---- what they leave of a kernel that passes the test

-- The kernel in which every task has had its turn, before the instant moves to n.
abbrev pub every_done : State → Instant → (Task → Turn) → State
every_done k n f = with_state (every_turn k n f).tasks k.locks k.enabled k

pub every_finish : (k : State) (f : Task → Turn) {next : State} {s : Sets}
    → next ≡ every_done k k.now f → s ≡ (every_turn k k.now f).sets → {m : Moment} → m ≡ next_among k.now k.counts.tasks next.tasks
    → next_filed m (finish (as_before k.tasks next) (work_here next s)) ≡ finish k (every_turn k k.now f)
unfolding finish every_turn
every_finish k f {next} {s} a b e = next_of_work (as_before k.tasks next) (work_here next s) (e ∙ rw a) ∙ rw (a, b)

module _ (day : ℕ) (k : State) (v : valid day k ≡ true) where
  -- Turns that keep the limits of a task keep the limits of the waits.
  pub every_waits : length k.tasks ≡ most_tasks → (n : Instant) (f : Task → Turn)
      → ((t : Task) → TaskOk day k.counts t → TaskOk day k.counts (f t).task)
      → {next : State} → next ≡ every_done k n f → waits_ok next ≡ true
  unfolding waits_ok every_turn
  every_waits long n f keeps a =
      let room : k.counts.tasks ≤ length k.tasks = omega (arith, long, (tested day k v).fits.tasks) in
      rw a
      (and_both (sound day k v).counts
      (all_from k.counts.tasks _
      (λ i l. rw (turn_at k.counts.tasks f k.tasks room i l)
      (wait_of day k.counts _ (task_test day k.counts _ (keeps (task_at k.tasks i) (task_untest day k.counts (task_at k.tasks i) (all_at k.counts.tasks _ (sound day k v).tasks i l))))))))

-- ---- turns that begin and end no wait

-- A turn that makes of a task that waits one that waits for the same, and of no other one that waits.
pub record KeepsWait (t u : Task) : Type 0 where
  pub begins : NoNewWait t u
  pub ends : waiting t.wait ≡ true → SameWait t u

-- A turn that leaves its priority to a task that waits.
abbrev pub Unaltered : Task → Task → Type 0
Unaltered t u = waiting u.wait ≡ true → u.current ≡ t.current

-- The turns f of the first i tasks are such.
abbrev pub Steady : (Task → Turn) → List Task → ℕ → Type 0
Steady f ts i = (j : ℕ) → j < i → Unaltered (task_at ts j) (f (task_at ts j)).task

module _ (f : Task → Turn) (ts : List Task) (i : ℕ) (h : Steady f ts i) where
  steady_next : Unaltered (task_at ts i) (f (task_at ts i)).task → Steady f ts (i + 1)
  steady_next e j l = by_eq j i (λ q. rw q e) (λ q. h j (omega arith))

  -- Task i has had its turn u, of which b says whether it altered the priority of one who waits,
  pub steady_more : (t : Task) (u : Turn) → t ≡ task_at ts i → u ≡ f t → {b : Bool} → b ≡ (waiting u.task.wait && not (eqb u.task.current t.current)) → b ≡ false → Steady f ts (i + 1)
  steady_more t u e z said q =
      steady_next (rw (← e, ← z) (λ w. eqb-true _ _ (not-false _ (sym (rw w at said) ∙ q))))

  -- or was passed over.
  pub steady_still : f (task_at ts i) ≡ unmarked (task_at ts i) → Steady f ts (i + 1)
  steady_still e = steady_next (rw e (λ w. refl))

-- A tick is such a turn for a task that passes the test.
pub tick_keeps : (day : ℕ) (n : Counts) (m : Instant) (t : Task) → TaskOk day n t → KeepsWait t (tick_turn m t).task
tick_keeps day n m t h =
    record {
      begins = no_wait_tick t m;
      ends = λ w. tick_keeps_wait m t (by_bool t.alive (λ e. e) (λ e. contra w (rest_facts t.alive (is_some t.kept) (waiting t.wait) (unheld t.hold) h.rests e).1));
    }

alike : (t u : Task) → KeepsWait t u → Unaltered t u → WaitsAlike t u
alike t u k s =
    record {
      idle = λ e. by_bool (waiting u.wait) (λ w. contra (ap waiting (sym (k.begins w).0) ∙ w) e) (λ w. w);
      same = λ e. let x = k.ends e in (x.0, x.1, x.2, s (ap waiting x.0 ∙ e));
    }

-- They leave nobody to serve, where nobody is altered.
pub every_idle : (day : ℕ) (k : State) → valid day k ≡ true → length k.tasks ≡ most_tasks → (n : Instant) (f : Task → Turn)
    → ((t : Task) → TaskOk day k.counts t → KeepsWait t (f t).task) → Steady f k.tasks k.counts.tasks
    → next_served k.counts.tasks k.places (served (every_done k n f) 0) ≡ None
unfolding every_turn
every_idle day k v long n f keeps steady =
    let c = k.counts.tasks in
    let ts = (every_turn k n f).tasks in
    let room : c ≤ length k.tasks = omega (arith, long, (tested day k v).fits.tasks) in
    most_urgent_none c _ _
    (λ i l. sym (servable_alike c k.tasks ts k.locks
    (λ j b. rw (turn_at c f k.tasks room j b) (alike (task_at k.tasks j) (f (task_at k.tasks j)).task (keeps (task_at k.tasks j) (task_untest day k.counts (task_at k.tasks j) (all_at c _ (sound day k v).tasks j b))) (steady j b))) i l)
    ∙ nobody_untest k (parts day k v).stuck i l)

-- Who has an event in a call in which every task has its turn, and where nobody is served.
abbrev pub every_event : State → Instant → (Task → Turn) → ℕ → Bool
every_event k n f = event k.tasks (every_turn k n f).tasks (every_turn k n f).sets.started

-- The call ends at instant n where nobody is to be served once every task has had its turn.
pub every_unserved : (k : State) (n : Instant) (f : Task → Turn) {next now : State} {s : Sets} {ps : List ℕ} {r : Running} {m : Moment}
    → next ≡ every_done k n f → s ≡ (every_turn k n f).sets → next_served k.counts.tasks k.places (served (every_done k n f) 0) ≡ None
    → ps ≡ moved k.counts.tasks (every_event k n f) k.places → r ≡ running_of k.counts.tasks ps (every_turn k n f).tasks
    → now ≡ with_places ps next → m ≡ next_among n k.counts.tasks next.tasks
    → record { state = begun_at n (with_file (record { running = r; next = m }) now); answer = answer_of 0 r s } ≡ finish k (every_turn k n f)
unfolding finish served_of every_turn
every_unserved k n f a b h o e q x = rw (q, x, a, b, e, o, served_idle (every_done k n f) (every_turn k n f).sets.granted h)

-- Or where those who wait have been served at the instant before.
pub every_served : (k : State) (n : Instant) (f : Task → Turn) {next : State} {s : Sets} {z : Stepped} {next' : State} {s' : Sets} {r : Running} {m : Moment}
    → next ≡ every_done k n f → s ≡ (every_turn k n f).sets → z ≡ next_filed m (finish (as_before k.tasks next) (work_here next s))
    → next' ≡ z.state → s' ≡ z.answer.sets → r ≡ z.answer.running → m ≡ next_among n k.counts.tasks next.tasks
    → record { state = begun_at n (with_file (record { running = r; next = m }) next'); answer = answer_of 0 r s' } ≡ finish k (every_turn k n f)
unfolding finish every_turn
every_served k n f {m = m} a b e x y q w =
    rw (x, y, q, e, a, b) (next_of_work k (every_turn k n f) (w ∙ rw a))

-- ---- a disabled interrupt changes nothing

module _ (day : ℕ) (k : State) (i : ℕ) where
  pub trigger_on : enabled_at k i ≡ true → trigger_in day k i ≡ every_turn k k.now (trigger_turn day k.clock k.now i)
  unfolding trigger_in
  trigger_on e = rw e

  pub trigger_off : enabled_at k i ≡ false → trigger_in day k i ≡ only_enabled k k.enabled
  unfolding trigger_in
  trigger_off e = rw e
