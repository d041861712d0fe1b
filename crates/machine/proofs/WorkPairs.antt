-- The works of a call on two kernels that agree are alike in what is declared.
use Rattle.std.specs.Prelude.{None, Some}
use mathlib.Core.Path.{◌≡◌, refl, sym, ap, ◌∙◌}
use mathlib.Core.Bool.{Bool, true, false, not, ◌||◌}
use mathlib.Core.List.{List, ◌++◌, map}
use Prim.Native.Nat.{ℕ, ◌<◌}
use native.Mathlib.Omega.{arith}
use lib.ListN.{length, take, drop, length-map, get_or-append}
use lib.Seq.{length-take-le, get_or-take}
use lib.Dec.{ltb, eqb}
use borrow.Author.Tests.{ltb-true}
use Rattle.calendar.specs.declared.Instant.{Instant}
use Rattle.layout.specs.declared.Head.{Head}
use Rattle.layout.specs.declared.Call.{Call}
use Rattle.layout.specs.Marks.{is as bears}
use Rattle.layout.specs.declared.Mark.{Mark}
use Rattle.layout.specs.declared.Mark.TheVariants.{AC, TE, SU, PR, RE, TG}
use Rattle.record.specs.Refusals.{named}
use Rattle.lock.specs.Locks.{give_all}
use Rattle.lock.specs.declared.Way.TheVariants.{Take, Give}
use Rattle.lock.specs.declared.Wait.{Wait}
use Rattle.lock.specs.declared.Locks.{Locks}
use Rattle.facts.proofs.Bools.{by_bool, contra, both}
use Rattle.facts.proofs.Tables.{Like, like_set, like_take, like_front}
use Rattle.lock.proofs.Alike.{Alike, Seen, seen, move_alike}
use Rattle.task.specs.State.{no_task, wait_for}
use Rattle.task.specs.Turns.{unmarked}
use Rattle.task.specs.declared.Task.{Task}
use Rattle.task.specs.declared.Turn.{Turn}
use Rattle.task.proofs.Waits.{NoNewWait, no_wait_due, no_wait_end, no_wait_suspend, no_wait_prevent, no_wait_continue, no_wait_resume, no_wait_later, no_wait_rest, no_wait_schedule, no_wait_tick, no_wait_trigger}
use Rattle.machine.specs.declared.Counts.{Counts}
use Rattle.machine.specs.declared.State.{State}
use Rattle.machine.specs.Running.{Running, runner, someone}
use Rattle.machine.specs.declared.Sort.{Sort}
use Rattle.machine.specs.declared.Sort.TheVariants.{Declaration, OneTask, TheRunner, ListAsked, ListGiven, AnInterrupt, EveryTask}
use Rattle.machine.specs.State.{most_tasks, most_semaphores, most_bolts, most_interrupts, task_at, place_at, enabled_at, with_state, with_places}
use Rattle.machine.specs.Granting.{could_be_granted}
use Rattle.machine.specs.Sets.{only}
use Rattle.machine.specs.Sorts.{needs_runner, runner_at}
use Rattle.machine.specs.Work.{Work, by_locks, changed, only_enabled, turns, every_turn}
use Rattle.machine.specs.Refusals.{list_declared, declared_by}
use Rattle.machine.specs.Calls.{named_turn, runner_turn, ask_for, change_of, trigger_in, interrupt_by, arrive, arrival, work_by}
use Rattle.machine.specs.Activation.{alarm_by, activate_by, continue_by, resume_by}
use Rattle.machine.proofs.Urgency.{Below, runner_below}
use Rattle.machine.proofs.Passed.{Listed, Fits}
use Rattle.machine.proofs.Looks.{next_among_law, could_same, runner_same}
use Rattle.machine.proofs.Pairs.{Pair, listed_on, pair_set}
use Rattle.machine.proofs.Works.{one_turn, only_locks, locks_alone, enabled_alone, map_at}

pub record WorkPair (n : Counts) (w w' : Work) : Type 0 where
  pub now : w.now ≡ w'.now
  pub pair : Pair n w.tasks w'.tasks w.locks w'.locks
  pub enabled : Like false most_interrupts n.interrupts w.enabled w'.enabled
  pub sets : w.sets ≡ w'.sets

no_wait_activate : (day clock : ℕ) (n : Instant) (h : Head) (t : Task) → NoNewWait t (activate_by day clock n h t).task
unfolding activate_by
no_wait_activate day clock n h t =
    by_bool (eqb h.kind 0) (λ e. rw e (no_wait_due t _)) (λ e. rw e (no_wait_schedule t n _))

no_wait_go_on : (day clock : ℕ) (n : Instant) (h : Head) (t : Task) → NoNewWait t (continue_by day clock n h t).task
unfolding continue_by
no_wait_go_on day clock n h t =
    by_bool (eqb h.kind 0) (λ e. rw e (no_wait_continue t h.priority)) (λ e. rw e (no_wait_later t n (alarm_by day clock n h) h.priority false))

no_wait_resume_by : (day clock : ℕ) (n : Instant) (h : Head) (t : Task) → NoNewWait t (resume_by day clock n h t).task
unfolding resume_by
no_wait_resume_by day clock n h t =
    by_bool (eqb h.kind 0) (λ e. rw e (no_wait_resume t _)) (λ e. rw e (no_wait_rest t n (alarm_by day clock n h)))

pub no_wait_named : (day clock : ℕ) (n : Instant) (m : Mark) (h : Head) (t : Task) → NoNewWait t (named_turn day clock n m h t).task
unfolding named_turn
no_wait_named day clock n m h t =
    by_bool (bears m AC) (λ e. rw e (no_wait_activate day clock n h t))
    (λ e. rw e (by_bool (bears m TE) (λ e. rw e (no_wait_end t))
    (λ e. rw e (by_bool (bears m SU) (λ e. rw e (no_wait_suspend t))
    (λ e. rw e (by_bool (bears m PR) (λ e. rw e (no_wait_prevent t)) (λ e. rw e (no_wait_go_on day clock n h t))))))))

pub no_wait_runner : (day clock : ℕ) (n : Instant) (m : Mark) (h : Head) (t : Task) → NoNewWait t (runner_turn day clock n m h t).task
unfolding runner_turn
no_wait_runner day clock n m h t = by_bool (bears m RE) (λ e. rw e (no_wait_resume_by day clock n h t)) (λ e. rw e (no_wait_end t))

module _ (k : State) (ts : List Task) (ps : List ℕ) (r : Locks) (is : List Bool) (f : Fits k.counts) (h : Pair k.counts k.tasks ts k.locks r)
    (stand : (i : ℕ) → i < k.counts.tasks → place_at k.places i ≡ place_at ps i)
    (ints : Like false most_interrupts k.counts.interrupts k.enabled is) where
  abbrev n : Counts
  n = k.counts

  abbrev k' : State
  k' = with_places ps (with_state ts r is k)

  abbrev sees : Seen n.semaphores n.bolts k.locks r
  sees = seen most_semaphores most_bolts n.semaphores n.bolts f.semaphores f.bolts k.locks r h.locks

  same_runner : runner k ≡ runner k'
  same_runner = runner_same k ts ps r is h.tasks.below stand sees

  -- ---- no turn

  only_pair : (s s' : Locks) (js js' : List Bool) (g : ℕ) → Alike most_semaphores most_bolts n.semaphores n.bolts s s'
      → Like false most_interrupts n.interrupts js js' → WorkPair n (only_locks k s js g) (only_locks k' s' js' g)
  unfolding only_locks
  only_pair s s' js js' g a b =
      record {
        now = refl;
        pair = record { tasks = h.tasks; locks = a; listed = h.listed };
        enabled = b;
        sets = refl;
      }

  enabled_pair : (js js' : List Bool) → Like false most_interrupts n.interrupts js js' → WorkPair n (only_enabled k js) (only_enabled k' js')
  enabled_pair js js' b = rw (enabled_alone k js, enabled_alone k' js') (only_pair k.locks r js js' 0 h.locks b)

  -- ---- one turn

  one_pair : (i : ℕ) (u u' : Turn) → u ≡ u' → Listed n u.task → WorkPair n (one_turn k i u) (one_turn k' i u')
  unfolding changed
  one_pair i u u' e l =
      rw (← e)
      (record {
        now = refl;
        pair = pair_set n f k.tasks ts k.locks r k.locks r h h.locks i u.task u.task (λ m. refl) l;
        enabled = ints;
        sets = refl;
      })

  module _ (turn : Task → Turn) (waits : (t : Task) → NoNewWait t (turn t).task) where
    still_listed : (i : ℕ) → i < n.tasks → Listed n (turn (task_at k.tasks i)).task
    still_listed i l =
        let t = task_at k.tasks i in
        listed_on n t (turn t).task (waits t) (h.listed i l)

    turn_pair : (i : ℕ) → i < n.tasks → WorkPair n (one_turn k i (turn (task_at k.tasks i))) (one_turn k' i (turn (task_at ts i)))
    turn_pair i l = one_pair i _ _ (ap turn (h.tasks.below i l)) (still_listed i l)

    -- ---- every turn

    abbrev turned : List Task
    turned = map (λ u. u.task) (turns n.tasks turn k.tasks)

    long : length (take n.tasks k.tasks) ≡ n.tasks
    long = length-take-le n.tasks k.tasks (omega (arith, h.tasks.long, f.tasks))

    turned_long : length turned ≡ n.tasks
    turned_long = length-map (turns n.tasks turn k.tasks) (λ u. u.task) ∙ length-map (take n.tasks k.tasks) turn ∙ long

    turned_at : (i : ℕ) → i < n.tasks → task_at (turned ++ drop n.tasks k.tasks) i ≡ (turn (task_at k.tasks i)).task
    turned_at i l =
        get_or-append turned (drop n.tasks k.tasks) no_task i (omega (arith, turned_long))
        ∙ map_at (λ u. u.task) (turns n.tasks turn k.tasks) i (turn no_task) no_task (omega (arith, length-map (take n.tasks k.tasks) turn, long))
        ∙ ap (λ u. u.task) (map_at turn (take n.tasks k.tasks) i no_task (turn no_task) (omega (arith, long)))
        ∙ ap (λ t. (turn t).task) (get_or-take n.tasks k.tasks i no_task l)

    pub every_pair : (m : Instant) → WorkPair n (every_turn k m turn) (every_turn k' m turn)
    unfolding every_turn
    every_pair m =
        rw (← like_take no_task most_tasks n.tasks k.tasks ts h.tasks f.tasks)
        (record {
          now = refl;
          pair =
              record {
                tasks = like_front no_task most_tasks n.tasks k.tasks ts h.tasks f.tasks turned turned_long;
                locks = h.locks;
                listed = λ i l. rw (turned_at i l) (still_listed i l);
              };
          enabled = ints;
          sets = refl;
        })

  -- ---- interrupts and time

  arrival_same : (m : Mark) → arrival m k ≡ arrival m k'
  unfolding arrival
  arrival_same m = rw (next_among_law n k.tasks ts h.tasks.below k.now)

  arrive_pair : (x : Instant) → WorkPair n (arrive k x) (arrive k' x)
  unfolding arrive
  arrive_pair x = every_pair _ (λ t. no_wait_tick t _) _

  trigger_pair : (day i : ℕ) → i < n.interrupts → WorkPair n (trigger_in day k i) (trigger_in day k' i)
  unfolding trigger_in
  trigger_pair day i l =
      rw (← ints.below i l)
      (by_bool (enabled_at k i)
      (λ e. rw e (every_pair _ (λ t. no_wait_trigger t day k.clock k.now i) k.now)) (λ e. rw e (enabled_pair k.enabled is ints)))

  interrupt_pair : (day : ℕ) (m : Mark) (i : ℕ) → i < n.interrupts → WorkPair n (interrupt_by day m k i) (interrupt_by day m k' i)
  unfolding interrupt_by
  interrupt_pair day m i l =
      by_bool (bears m TG) (λ e. rw e (trigger_pair day i l))
      (λ e. rw e (enabled_pair _ _ (like_set false most_interrupts n.interrupts k.enabled is ints f.interrupts i _ _ (λ l. refl))))

  -- ---- lists

  locks_pair : (i : ℕ) (s s' : Locks) (b : Bool) → Alike most_semaphores most_bolts n.semaphores n.bolts s s'
      → WorkPair n (changed k i (by_locks (task_at k.tasks i) s b)) (changed k' i (by_locks (task_at ts i) s' b))
  locks_pair i s s' b a = rw (locks_alone k i s b, locks_alone k' i s' b) (only_pair s s' k.enabled is (only i b) a ints)

  module _ (w : Wait) (waits : Bool) (c : Call) (e : list_declared n w c ≡ true) where
    abbrev wait : Task → Turn
    wait t = unmarked (wait_for w c.head.len c.list t)

    could : (i : ℕ) → i < n.tasks
        → could_be_granted n.tasks k.tasks k.locks (task_at k.tasks i).current w (named c)
        ≡ could_be_granted n.tasks ts r (task_at ts i).current w (named c)
    could i l = rw (← h.tasks.below i l) (could_same n k.tasks ts h.tasks.below k.locks r sees (task_at k.tasks i).current w (named c) e)

    ask_pair : (i : ℕ) → i < n.tasks
        → WorkPair n (changed k i (ask_for n.tasks k.tasks w waits c (task_at k.tasks i) k.locks)) (changed k' i (ask_for n.tasks ts w waits c (task_at ts i) r))
    unfolding ask_for
    ask_pair i l =
        by_bool (could_be_granted n.tasks k.tasks k.locks (task_at k.tasks i).current w (named c))
        (λ b. rw (b, sym (could i l) ∙ b)
        (locks_pair i _ _ true (move_alike most_semaphores most_bolts n.semaphores n.bolts f.semaphores f.bolts Take w (named c) k.locks r h.locks)))
        (λ b. rw (b, sym (could i l) ∙ b)
        (by_bool waits (λ q. rw q (one_pair i (wait (task_at k.tasks i)) (wait (task_at ts i)) (ap wait (h.tasks.below i l)) (λ z. e)))
        (λ q. rw q (locks_pair i k.locks r false h.locks))))

  -- ---- all sorts

  -- The running task, which has to be there.
  runner_pair : (g : State → ℕ → Work) → ((i : ℕ) → i < n.tasks → WorkPair n (g k i) (g k' i)) → someone (runner k) ≡ true
      → WorkPair n (g k (runner_at (runner k))) (g k' (runner_at (runner k')))
  runner_pair g q = rw (← same_runner) (go (runner k) (runner_below k))
    where
      go : (x : Running) → Below n.tasks x → someone x ≡ true → WorkPair n (g k (runner_at x)) (g k' (runner_at x))
      go None l e = contra e refl
      go (Some i) l e = q i l

  pub work_pair : (day : ℕ) (c : Call) (s : Sort) → declared_by s n c ≡ true → (not (needs_runner s) || someone (runner k)) ≡ true
      → WorkPair n (work_by day s k c) (work_by day s k' c)
  unfolding declared_by work_by change_of
  work_pair day c Declaration e a = enabled_pair k.enabled is ints
  work_pair day c OneTask e a =
      turn_pair (named_turn day k.clock k.now c.head.mark c.head) (no_wait_named day k.clock k.now c.head.mark c.head) c.head.number
      (ltb-true _ _ (both (ltb c.head.number n.tasks) _ e).0)
  work_pair day c TheRunner e a =
      runner_pair (λ z i. one_turn z i (runner_turn day k.clock k.now c.head.mark c.head (task_at z.tasks i)))
      (turn_pair (runner_turn day k.clock k.now c.head.mark c.head) (no_wait_runner day k.clock k.now c.head.mark c.head)) a
  work_pair day c (ListAsked w b) e a =
      runner_pair (λ z i. changed z i (ask_for n.tasks z.tasks w b c (task_at z.tasks i) z.locks)) (ask_pair w b c e) a
  work_pair day c (ListGiven w) e a =
      runner_pair (λ z i. changed z i (by_locks (task_at z.tasks i) (give_all w z.locks (named c)) false))
      (λ i l. locks_pair i _ _ false (move_alike most_semaphores most_bolts n.semaphores n.bolts f.semaphores f.bolts Give w (named c) k.locks r h.locks)) a
  work_pair day c AnInterrupt e a = interrupt_pair day c.head.mark c.head.number (ltb-true _ n.interrupts e)
  work_pair day c EveryTask e a = rw (arrival_same c.head.mark) (arrive_pair (arrival c.head.mark k'))
