-- The places are the order of the last events, and turns are taken.
use mathlib.Core.Path.{◌≡◌, refl, sym, ◌∙◌}
use mathlib.Core.Logic.{◌≢◌}
use mathlib.Core.Bool.{Bool, true, false, not, cond, ◌&&◌}
use mathlib.Core.List.{List, [], ◌∷◌}
use Prim.Native.Nat.{ℕ, suc, ◌≤◌, ◌<◌}
use native.Mathlib.Nat.{not-suc-le-zero}
use native.Mathlib.Omega.{arith}
use lib.Dec.{ltb}
use lib.ListN.{length, set}
use lib.Seq.{get_or-set_same, get_or-set_other, set_out}
use borrow.Author.Tests.{ltb-true, ltb-false, lt-ltb, le-ltb, eq-eqb, ne_eqb, not-true}
use Rattle.layout.specs.declared.Mark.{Mark}
use Rattle.layout.specs.declared.Call.{Call}
use Rattle.lock.specs.Locks.{waiting}
use Rattle.facts.proofs.Bools.{by_bool, by_eq, contra, both}
use Rattle.task.specs.State.{no_task, unheld, runnable}
use Rattle.task.specs.declared.Task.{Task}
use Rattle.machine.specs.declared.State.{State}
use Rattle.machine.specs.Running.{Running, urgency, running_of, most_urgent}
use Rattle.machine.specs.declared.Stepped.{Stepped}
use Rattle.machine.specs.Sets.{Started}
use Rattle.machine.specs.State.{most_tasks, task_at, place_at, fresh_task, nothing}
use Rattle.calendar.specs.Moments.{first_after}
use Rattle.machine.specs.NextEvent.{all_pending, next_among}
use Rattle.machine.specs.Places.{event, stands_before}
use Rattle.machine.specs.Work.{Work}
use Rattle.machine.specs.Test.{valid}
use Rattle.machine.specs.Calls.{add_task, add_semaphore, add_bolt, add_interrupt, declaration, work_of}
use Rattle.machine.specs.Step.{answered, finish, declared, carry_out, step}
use Rattle.machine.specs.Log.{AllOctets, final}
use Rattle.machine.specs.Promises.{AreBytes}
use Rattle.machine.specs.Invariants.{IsDay, Passes}
use Rattle.machine.specs.Turns.{Permutation, TestedPlaces, PlacesStay, UrgencyTellsApart, MovesToEnd, event_in, StepMoves, RefusedHasNoEvent, DeclarationHasNoEvent, runnable_in, RunnableHasNoEvent, waits_in, WaiterHasNoEvent, last_from, earlier, PlacesTellEvents, StaysRunnable, Behind, TurnsAreTaken, RestartedStandsBehind, StaysBehind, StaysWaiting, WhoAskedFirst}
use Rattle.machine.proofs.Places.{Apart, apart_of, reached, moved_order, no_event}
use Rattle.machine.proofs.Urgency.{runner_first}
use Rattle.machine.proofs.Filing.{taken_valid}
use Rattle.machine.proofs.Passed.{Passed, passed, as_mark, room_task, tested, parts}
use Rattle.machine.proofs.Facts.{bounded_of, passes_of_ok, ok_of_passes}
use Rattle.machine.proofs.Cases.{out_cases, declaration_cases, step_cases}
use Rattle.machine.proofs.Invariants.{step_passes}
use Rattle.machine.proofs.Refused.{refused_untouched}
use Rattle.machine.proofs.Accepted.{step_out}
use Rattle.machine.proofs.Unholding.{final_passes, final_declared}
use Rattle.machine.proofs.Untouched.{still_declared}
use Rattle.machine.proofs.Sorted.{urgency_apart}

-- ---- n tasks have n places

permuted : (n : ℕ) (ps : List ℕ) → Apart n ps → Permutation n ps
permuted n ps a = record { range = a.range; apart = a.apart; onto = reached n (place_at ps) a.range a.apart }

tested_apart : (day : ℕ) (k : State) → valid day k ≡ true → Apart k.counts.tasks k.places
tested_apart day k v = apart_of k.counts.tasks k.places (parts day k v).places

pub tested_places : TestedPlaces
tested_places day k v = permuted k.counts.tasks k.places (tested_apart day k v)

pub places_stay : PlacesStay
places_stay day is_day k p s o = tested_places day (step day k s).state (taken_valid day _ (step_passes day is_day k p s o).tested)

pub urgency_tells_apart : UrgencyTellsApart
urgency_tells_apart day k v =
    urgency_apart k.counts.tasks k.places k.tasks (tested day k v).fits.tasks (tested_apart day k v)

pub moves_to_end : MovesToEnd
moves_to_end n e ps q room = moved_order n e ps (apart_of n ps q) room

-- ---- who has no event

refuse_no_event : (k : State) (n : ℕ) (r : Running) (i : ℕ) → event_in k (answered k n r) i ≡ false
unfolding answered
refuse_no_event k n r i = no_event k.tasks i

-- A task that was just declared is neither runnable nor waiting.
added_no_event : (ts : List Task) (n p i : ℕ) → event ts (set ts n (fresh_task p)) 0 i ≡ false
unfolding event fresh_task
added_no_event ts n p i =
    by_eq i n
    (λ e. by_bool (ltb n (length ts)) (λ l. rw (e, get_or-set_same ts n (fresh_task p) no_task (ltb-true _ _ l)))
    (λ l. rw (set_out ts n (fresh_task p) (ltb-false _ _ l)) (no_event ts i)))
    (λ e. rw (get_or-set_other ts n i (fresh_task p) no_task e) (no_event ts i))

declared_no_event : (k : State) (m : Mark) (c : Call) (i : ℕ) → event_in k (declared k (declaration m c k)) i ≡ false
unfolding declared
declared_no_event k m c i =
    declaration_cases m c k (λ d. event k.tasks d.tasks 0 i ≡ false)
    (λ e. unfold add_task in added_no_event k.tasks k.counts.tasks c.head.priority i)
    (λ e. unfold add_semaphore in no_event k.tasks i) (λ e. unfold add_bolt in no_event k.tasks i)
    (λ e. unfold add_interrupt in no_event k.tasks i) (λ e. no_event k.tasks i) (no_event k.tasks i)

pub refused_has_no_event : RefusedHasNoEvent
refused_has_no_event day k s i ne =
    let u = refused_untouched day k s ne in rw (u.state, u.sets Started) (no_event k.tasks i)

pub declaration_has_no_event : DeclarationHasNoEvent
declaration_has_no_event day k s c i a d =
    rw (step_out day k s c a) (out_cases day k c (λ t. event_in k t i ≡ false) (λ e. declared_no_event k c.head.mark c i) (λ e. contra d e))

runnable_unwaits : (t : Task) → runnable t ≡ true → waiting t.wait ≡ false
runnable_unwaits t e = not-true (waiting t.wait) (both (t.alive && unheld t.hold) (not (waiting t.wait)) e).1

waiter_rests : (t : Task) → waiting t.wait ≡ true → runnable t ≡ false
waiter_rests t e = by_bool (runnable t) (λ r. contra e (runnable_unwaits t r)) (λ r. r)

pub runnable_has_no_event : RunnableHasNoEvent
unfolding event
runnable_has_no_event k s i a b c = rw (b, a, c, runnable_unwaits (task_at s.state.tasks i) b)

pub waiter_has_no_event : WaiterHasNoEvent
unfolding event
waiter_has_no_event k s i a b = rw (waiter_rests (task_at s.state.tasks i) b, a, b)

-- ---- one step

-- The step t from k moves the tasks that have an event.
abbrev Moves : State → Stepped → Type 0
Moves k t =
    (i j : ℕ) → i < k.counts.tasks → j < k.counts.tasks
    → ltb (place_at t.state.places i) (place_at t.state.places j) ≡ stands_before (event_in k t) k.places i j

module _ (k : State) where
  moves_nobody : (t : Stepped) → ((i : ℕ) → event_in k t i ≡ false)
      → ((i : ℕ) → i < k.counts.tasks → place_at t.state.places i ≡ place_at k.places i) → Moves k t
  moves_nobody t e f i j l m = rw (e i, e j, f i l, f j m)

  moves_refuse : (n : ℕ) (r : Running) → Moves k (answered k n r)
  moves_refuse n r = moves_nobody (answered k n r) (refuse_no_event k n r) (λ i l. unfold answered in refl)

  -- A declaration leaves the places of the tasks before it.
  kept_places : (m : Mark) (c : Call) (i : ℕ) → i < k.counts.tasks → place_at (declaration m c k).places i ≡ place_at k.places i
  kept_places m c i l =
      declaration_cases m c k (λ d. place_at d.places i ≡ place_at k.places i)
      (λ e. unfold add_task in get_or-set_other k.places k.counts.tasks i k.counts.tasks 0 (λ z. omega arith))
      (λ e. unfold add_semaphore in refl) (λ e. unfold add_bolt in refl) (λ e. unfold add_interrupt in refl) (λ e. refl) refl

  moves_declared : (m : Mark) (c : Call) → Moves k (declared k (declaration m c k))
  moves_declared m c =
      moves_nobody (declared k (declaration m c k)) (declared_no_event k m c) (λ i l. unfold declared in kept_places m c i l)

  moves_finish : Apart k.counts.tasks k.places → k.counts.tasks ≤ length k.places → (w : Work) → Moves k (finish k w)
  unfolding finish
  moves_finish a room w = moved_order k.counts.tasks _ k.places a room

module _ (day : ℕ) (k : State) (p : Passes day k) where
  finish_moves : (w : Work) → Moves k (finish k w)
  finish_moves =
      let h = ok_of_passes day k p in
      moves_finish k h.places_ok_law (omega (arith, h.tables.places, h.counts_ok_law.tasks))

  moves : (s : List ℕ) → Moves k (step day k s)
  moves s =
      step_cases day k (Moves k) (λ v. moves_refuse k 1 _) (λ v m. moves_refuse k 16 _) (λ v n a b. moves_refuse k n _)
      (λ v c e. out_cases day k c (Moves k) (λ d. moves_declared k c.head.mark c) (λ d. finish_moves (work_of day k c))) s

pub step_moves : StepMoves
step_moves = moves

-- ---- any list of records

-- After n records, of which the m i-th was the last with an event of task i, the places of k are the order of those.
record Told (k : State) (n : ℕ) (m : ℕ → ℕ) : Type 0 where
  order : (i j : ℕ) → i < k.counts.tasks → j < k.counts.tasks → ltb (place_at k.places i) (place_at k.places j) ≡ earlier m i j
  most : (i : ℕ) → m i ≤ n
  fresh : k.begun ≡ false → (i : ℕ) → m i ≡ 0

-- One more record.
abbrev next : State → Stepped → ℕ → (ℕ → ℕ) → ℕ → ℕ
next k t n m i = cond (event_in k t i) (suc n) (m i)

-- Where both are of the same record the numbers tell.
earlier_same : (m : ℕ → ℕ) (i j : ℕ) → m i ≡ m j → earlier m i j ≡ ltb i j
earlier_same m i j e = rw (e, le-ltb (m j) (m j) (omega arith), eq-eqb (m j) (m j) refl)

module _ (k : State) (n : ℕ) (m : ℕ → ℕ) (h : Told k n m) where
  next_most : (t : Stepped) (i : ℕ) → next k t n m i ≤ suc n
  next_most t i = by_bool (event_in k t i) (λ e. rw e (omega arith)) (λ e. rw e (let z = h.most i in omega arith))

  -- As many tasks as before.
  told_same : (t : Stepped) → Moves k t → t.state.counts.tasks ≡ k.counts.tasks
      → (t.state.begun ≡ false → (k.begun ≡ false) × ((i : ℕ) → event_in k t i ≡ false)) → Told t.state (suc n) (next k t n m)
  told_same t f same young =
      record {
        order = λ i j l o. f i j (rw same at l) (rw same at o) ∙ go i j (rw same at l) (rw same at o);
        most = next_most t;
        fresh = λ b i. let y = young b in rw (y.1 i) (h.fresh y.0 i);
      }
    where
      go : (i j : ℕ) → i < k.counts.tasks → j < k.counts.tasks → stands_before (event_in k t) k.places i j ≡ earlier (next k t n m) i j
      go i j l o =
          let a = h.most i in
          let b = h.most j in
          by_bool (event_in k t i)
          (λ e. by_bool (event_in k t j) (λ q. rw (e, q) (sym (earlier_same (λ x. suc n) i j refl)))
          (λ q. rw (e, q, le-ltb (suc n) (m j) (omega arith), ne_eqb (suc n) (m j) (λ z. omega arith))))
          (λ e. by_bool (event_in k t j) (λ q. rw (e, q, lt-ltb (m i) (suc n) (omega arith))) (λ q. rw (e, q) (h.order i j l o)))

  module _ (day : ℕ) (p : Passes day k) where
    told_refuse : (a : ℕ) (r : Running) → Told (answered k a r).state (suc n) (next k (answered k a r) n m)
    unfolding answered
    told_refuse a r = told_same (answered k a r) (moves_refuse k a r) refl (λ b. (b, refuse_no_event k a r))

    told_finish : (w : Work) → Told (finish k w).state (suc n) (next k (finish k w) n m)
    unfolding finish
    told_finish w = told_same (finish k w) (finish_moves day k p w) refl (λ b. contra refl b)

    -- Before the first accepted call the places are the numbers' order, and a task that is declared goes last.
    module _ (unbegun : k.begun ≡ false) where
      abbrev InOrder : State → Type 0
      InOrder d = (i j : ℕ) → i < d.counts.tasks → j < d.counts.tasks → ltb (place_at d.places i) (place_at d.places j) ≡ ltb i j

      in_order : InOrder k
      in_order i j l o = h.order i j l o ∙ earlier_same m i j (h.fresh unbegun i ∙ sym (h.fresh unbegun j))

      added_order : (q : ℕ) → k.counts.tasks < most_tasks → InOrder (add_task q k)
      unfolding add_task
      added_order q room i j l o =
          let x = k.counts.tasks in
          let a = ok_of_passes day k p in
          let self = get_or-set_same k.places x x 0 (omega (arith, a.tables.places)) in
          let other : (b : ℕ) → b ≢ x → place_at (set k.places x x) b ≡ place_at k.places b = λ b e. get_or-set_other k.places x b x 0 e in
          let low = a.places_ok_law.range in
          by_eq i x
          (λ e. by_eq j x (λ f. rw (e, f, self))
          (λ f. let z = low j (omega arith) in rw (e, self, other j f, le-ltb x (place_at k.places j) (omega arith), le-ltb x j (omega arith))))
          (λ e. by_eq j x (λ f. let z = low i (omega arith) in rw (f, self, other i e, lt-ltb (place_at k.places i) x z, lt-ltb i x (omega arith)))
          (λ f. rw (other i e, other j f) (in_order i j (omega arith) (omega arith))))

      declared_order : (c : Call) → Passed day c.head.mark k c → InOrder (declaration c.head.mark c k)
      declared_order c q =
          declaration_cases c.head.mark c k InOrder (λ e. added_order _ (room_task k.counts (as_mark e q).formal.room))
          (λ e. unfold add_semaphore in in_order) (λ e. unfold add_bolt in in_order) (λ e. unfold add_interrupt in in_order) (λ e. in_order) in_order

      told_declared : (c : Call) → Passed day c.head.mark k c
          → let t = declared k (declaration c.head.mark c k) in Told t.state (suc n) (next k t n m)
      unfolding declared
      told_declared c q =
          let t = declared k (declaration c.head.mark c k) in
          let none : (i : ℕ) → next k t n m i ≡ 0 = λ i. rw (declared_no_event k c.head.mark c i) (h.fresh unbegun i) in
          record {
            order = λ i j l o. declared_order c q i j l o ∙ sym (earlier_same (next k t n m) i j (none i ∙ sym (none j)));
            most = next_most t;
            fresh = λ b. none;
          }

    told_out : (c : Call) → Passed day c.head.mark k c → Told (carry_out day k c).state (suc n) (next k (carry_out day k c) n m)
    told_out c q =
        out_cases day k c (λ t. Told t.state (suc n) (next k t n m))
        (λ d. told_declared (by_bool k.begun (λ b. contra q.formal.timely (rw (b, d))) (λ b. b)) c q) (λ d. told_finish (work_of day k c))

    told_step : (s : List ℕ) → Told (step day k s).state (suc n) (next k (step day k s) n m)
    told_step s =
        step_cases day k (λ t. Told t.state (suc n) (next k t n m)) (λ v. told_refuse 1 _) (λ v y. told_refuse 16 _) (λ v a x y. told_refuse a _)
        (λ v c e. told_out c (passed day k c e)) s

module _ (day : ℕ) (is_day : IsDay day) where
  told_all : (rs : List (List ℕ)) → AllOctets rs → (k : State) → Passes day k → (n : ℕ) (m : ℕ → ℕ) → Told k n m
      → let z = final day k rs in (i j : ℕ) → i < z.counts.tasks → j < z.counts.tasks
      → ltb (place_at z.places i) (place_at z.places j) ≡ earlier (λ x. last_from day k n (m x) rs x) i j
  unfolding AllOctets final last_from
  told_all [] o k p n m h = h.order
  told_all (r ∷ rs) o k p n m h =
      told_all rs o.1 (step day k r).state (step_passes day is_day k p r o.0) (suc n) (next k (step day k r) n m) (told_step k n m h day p r)

  pub nothing_passes : Passes day nothing
  unfolding nothing
  nothing_passes =
      passes_of_ok day nothing
      (record {
        tables = record { tasks = refl; places = refl; semaphores = refl; bolts = refl; enabled = refl };
        now_ok = omega arith;
        clock_ok = is_day.some;
        counts_ok_law = record { tasks = omega arith; semaphores = omega arith; bolts = omega arith; interrupts = omega arith };
        bounded = bounded_of (record { tasks = 0; semaphores = 0; bolts = 0; interrupts = 0 }) _ (λ s l. absurd (not-suc-le-zero l)) (λ b l. absurd (not-suc-le-zero l));
        tasks_ok_law = λ i l. absurd (not-suc-le-zero l);
        places_ok_law = record { range = λ i l. absurd (not-suc-le-zero l); apart = λ i j l m e. absurd (not-suc-le-zero l) };
        stuck = λ i l. absurd (not-suc-le-zero l);
        filed_ok = unfold running_of in unfold most_urgent in unfold next_among in unfold all_pending in unfold first_after in refl;
      })

  nothing_told : Told nothing 0 (λ i. 0)
  unfolding nothing
  nothing_told = record { order = λ i j l o. absurd (not-suc-le-zero l); most = λ i. omega arith; fresh = λ b i. refl }

pub places_tell_events : PlacesTellEvents
places_tell_events day is_day rs o = told_all day is_day rs o nothing (nothing_passes day is_day) 0 (λ i. 0) (nothing_told day is_day)

-- ---- turns are taken

abbrev StandsBehind : State → ℕ → ℕ → Type 0
StandsBehind k i j = place_at k.places j < place_at k.places i

-- At the same priority the task in front is the more urgent, so the other doesn't run.
behind : (day : ℕ) (k : State) → Passes day k → (i j : ℕ) → i < k.counts.tasks → j < k.counts.tasks
    → StandsBehind k i j → Behind k i j
unfolding urgency
behind day k p i j l m h =
    record {
      place = h;
      less_urgent = λ e. omega (arith, e);
      yields = λ e b r. let c = rw r at (runner_first k bytes) in omega (arith, c.ties j m b (sym e));
    }
  where
    bytes : AreBytes k.counts.tasks k.places
    bytes x y = let a = ok_of_passes day k p in omega (arith, a.places_ok_law.range x y, a.counts_ok_law.tasks)

module _ (day : ℕ) (k : State) (p : Passes day k) (s : List ℕ) (i j : ℕ) (l : i < k.counts.tasks) (m : j < k.counts.tasks)
    (stays : event_in k (step day k s) j ≡ false) where
  -- Who has an event goes behind one who has none,
  goes_behind : event_in k (step day k s) i ≡ true → StandsBehind (step day k s).state i j
  goes_behind e = ltb-true _ _ (rw (stays, e) at (moves day k p s j i m l))

  -- and who stood there stays.
  stays_behind_one : StandsBehind k i j → StandsBehind (step day k s).state i j
  stays_behind_one b =
      by_bool (event_in k (step day k s) i) goes_behind
      (λ e. ltb-true _ _ (rw (stays, e, lt-ltb _ _ b) at (moves day k p s j i m l)))

pub restarted_stands_behind : RestartedStandsBehind
unfolding event
restarted_stands_behind day is_day k p s o i j l m start after a b c =
    let z = step day k s in
    behind day z.state (step_passes day is_day k p s o) i j (still_declared day k i l s) (still_declared day k j m s)
    (goes_behind day k p s i j l m (runnable_has_no_event k z j a b c) (rw (after, start) (by_bool (runnable_in k i) (λ e. rw e) (λ e. rw e))))

-- Task j has no event in a list of records.
Unmoved : ℕ → State → List (List ℕ) → ℕ → Type 0
Unmoved day k [] j = Unit {0}
Unmoved day k (r ∷ rs) j = (event_in k (step day k r) j ≡ false) × Unmoved day (step day k r).state rs j

module _ (day : ℕ) (is_day : IsDay day) (i j : ℕ) where
  keeps_behind : (rs : List (List ℕ)) → AllOctets rs → (k : State) → Passes day k → i < k.counts.tasks → j < k.counts.tasks
      → StandsBehind k i j → Unmoved day k rs j → StandsBehind (final day k rs) i j
  unfolding AllOctets final Unmoved
  keeps_behind [] o k p l m b h = b
  keeps_behind (r ∷ rs) o k p l m b h =
      keeps_behind rs o.1 (step day k r).state (step_passes day is_day k p r o.0) (still_declared day k i l r) (still_declared day k j m r)
      (stays_behind_one day k p r i j l m h.0 b) h.1

  -- Task i comes to pass a test, which is an event, in the first record or in the others.
  module _ (q : State → Bool) (comes : (k : State) (s : Stepped) → q k ≡ false → q s.state ≡ true → event_in k s i ≡ true) where
    comes_behind : (rs : List (List ℕ)) → AllOctets rs → (k : State) → Passes day k → i < k.counts.tasks → j < k.counts.tasks
        → q k ≡ false → Unmoved day k rs j → q (final day k rs) ≡ true → StandsBehind (final day k rs) i j
    unfolding AllOctets final Unmoved
    comes_behind [] o k p l m b h e = contra e b
    comes_behind (r ∷ rs) o k p l m b h e =
        let z = step day k r in
        let a = step_passes day is_day k p r o.0 in
        let f = still_declared day k i l r in
        let g = still_declared day k j m r in
        by_bool (q z.state) (λ x. keeps_behind rs o.1 z.state a f g (goes_behind day k p r i j l m h.0 (comes k z b x)) h.1)
        (λ x. comes_behind rs o.1 z.state a f g x h.1 e)

behind_after : (day : ℕ) → IsDay day → (k : State) → Passes day k → (rs : List (List ℕ)) → AllOctets rs → (i j : ℕ)
    → i < k.counts.tasks → j < k.counts.tasks → StandsBehind (final day k rs) i j → Behind (final day k rs) i j
behind_after day is_day k p rs o i j l m b =
    behind day (final day k rs) (final_passes day is_day k p rs o) i j (final_declared day k i l rs) (final_declared day k j m rs) b

runnable_comes : (i : ℕ) (k : State) (s : Stepped) → runnable_in k i ≡ false → runnable_in s.state i ≡ true → event_in k s i ≡ true
unfolding event
runnable_comes i k s a b = rw (b, a)

pub waiting_comes : (i : ℕ) (k : State) (s : Stepped) → waits_in k i ≡ false → waits_in s.state i ≡ true → event_in k s i ≡ true
unfolding event
waiting_comes i k s a b = rw (waiter_rests (task_at s.state.tasks i) b, b, a)

runnable_unmoved : (day : ℕ) (k : State) (rs : List (List ℕ)) (j : ℕ) → StaysRunnable day k rs j → Unmoved day k rs j
unfolding StaysRunnable Unmoved
runnable_unmoved day k [] j h = tt
runnable_unmoved day k (r ∷ rs) j h =
    (runnable_has_no_event k (step day k r) j h.0 (now rs h.2) h.1, runnable_unmoved day (step day k r).state rs j h.2)
  where
    now : (rs : List (List ℕ)) → StaysRunnable day (step day k r).state rs j → runnable_in (step day k r).state j ≡ true
    now [] q = q
    now (s ∷ ss) q = q.0

waiting_unmoved : (day : ℕ) (k : State) (rs : List (List ℕ)) (j : ℕ) → StaysWaiting day k rs j → Unmoved day k rs j
unfolding StaysWaiting Unmoved
waiting_unmoved day k [] j h = tt
waiting_unmoved day k (r ∷ rs) j h =
    (waiter_has_no_event k (step day k r) j h.0 (now rs h.1), waiting_unmoved day (step day k r).state rs j h.1)
  where
    now : (rs : List (List ℕ)) → StaysWaiting day (step day k r).state rs j → waits_in (step day k r).state j ≡ true
    now [] q = q
    now (s ∷ ss) q = q.0

pub turns_are_taken : TurnsAreTaken
turns_are_taken day is_day k p rs o i j l m b h e =
    behind_after day is_day k p rs o i j l m
    (comes_behind day is_day i j (λ k. runnable_in k i) (runnable_comes i) rs o k p l m b (runnable_unmoved day k rs j h) e)

pub who_asked_first : WhoAskedFirst
who_asked_first day is_day k p rs o i j l m b h e =
    behind_after day is_day k p rs o i j l m
    (comes_behind day is_day i j (λ k. waits_in k i) (waiting_comes i) rs o k p l m b (waiting_unmoved day k rs j h) e)

pub stays_behind : StaysBehind
stays_behind day is_day k p rs o i j l m b h =
    behind_after day is_day k p rs o i j l m (keeps_behind day is_day i j rs o k p l m b (runnable_unmoved day k rs j h))
