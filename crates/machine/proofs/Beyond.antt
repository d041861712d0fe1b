-- Steps on two kernels that differ at most in places beyond the counts match.
use mathlib.Core.Path.{◌≡◌, refl, ap, sym, subst}
use mathlib.Core.Bool.{Bool, true, false}
use mathlib.Core.List.{List, [], ◌∷◌}
use Prim.Native.Nat.{ℕ, zero, suc, ◌<◌}
use native.Mathlib.Omega.{arith}
use Rattle.layout.specs.Marks.{is as bears}
use Rattle.layout.specs.declared.Mark.{Mark}
use Rattle.layout.specs.declared.Mark.TheVariants.{DT, DS, DB, IT, DC}
use Rattle.layout.proofs.MarksLaws.{is_mark}
use Rattle.layout.specs.declared.Call.{Call}
use Rattle.lock.specs.Locks.{empty_bolt}
use Rattle.lock.specs.declared.Locks.{Locks}
use Rattle.facts.proofs.Bools.{by_bool}
use Rattle.record.specs.Reading.{opened}
use Rattle.facts.proofs.Tables.{Like, like_add}
use Rattle.lock.proofs.Alike.{Alike, Seen}
use Rattle.task.specs.State.{no_task}
use Rattle.task.specs.declared.Task.{Task}
use Rattle.machine.specs.declared.Counts.{Counts}
use Rattle.machine.specs.declared.State.{State}
use Rattle.machine.specs.declared.OnFile.{OnFile}
use Rattle.machine.specs.State.{most_tasks, most_semaphores, most_bolts, most_interrupts, fresh_task, with_state, with_clock, with_places, with_file}
use Rattle.machine.specs.Running.{runner}
use Rattle.machine.specs.NextEvent.{file_of}
use Rattle.machine.specs.Sorts.{sort_of, declares}
use Rattle.machine.specs.Work.{Work}
use Rattle.machine.specs.Serving.{Served, serve}
use Rattle.machine.specs.Test.{kernel_refusal}
use Rattle.machine.specs.Refusals.{room_for}
use Rattle.machine.specs.Calls.{add_task, add_semaphore, add_bolt, add_interrupt, declaration}
use Rattle.machine.specs.declared.Sets.{Sets}
use Rattle.machine.specs.Sets.{with_granted}
use Rattle.machine.specs.Step.{answered, finish, declared, or_refuse, or_turn_away, carry_out, carry_on, step}
use Rattle.machine.specs.Log.{log}
use Rattle.machine.specs.Invariants.{Tables}
use Rattle.machine.specs.Beyond.{Agree, Match, StepsAgree, LogsAgree}
use Rattle.machine.proofs.Filing.{taken_valid}
use Rattle.machine.proofs.Passed.{refusal_of, unrefused, Passed, passed, Fits, Tested, tested, room_task, room_semaphore, room_bolt, room_interrupt}
use Rattle.machine.proofs.Cases.{opened_cases, carried_by, step_opened, read_opened}
use Rattle.machine.proofs.Looks.{running_same, next_among_law, runner_same, next_same, kernel_same, refusal_same}
use Rattle.machine.proofs.Pairs.{Pair, serve_pair}
use Rattle.machine.proofs.WorkPairs.{WorkPair, work_pair}
use Rattle.machine.specs.Places.{event, moved}
use Rattle.machine.proofs.Places.{moved_like}

-- Two kernels with the same counts agree where their tables are alike.
pub alike_agree : (k : State) (ts : List Task) (ps : List ℕ) (r : Locks) (is : List Bool) → Like no_task most_tasks k.counts.tasks k.tasks ts
    → Like 0 most_tasks k.counts.tasks k.places ps
    → Alike most_semaphores most_bolts k.counts.semaphores k.counts.bolts k.locks r
    → Like false most_interrupts k.counts.interrupts k.enabled is → Agree k (with_places ps (with_state ts r is k))
alike_agree k ts ps r is a s b c =
    record {
      counts = refl;
      clock = refl;
      now = refl;
      begun = refl;
      file = refl;
      tasks = a.below;
      places = s.below;
      semaphores = b.semaphores.below;
      bolts = b.bolts.below;
      enabled = c.below;
      tables = record { tasks = a.long; places = s.long; semaphores = b.semaphores.long; bolts = b.bolts.long; enabled = c.long };
      tables' = record { tasks = a.long'; places = s.long'; semaphores = b.semaphores.long'; bolts = b.bolts.long'; enabled = c.long' };
    }

-- With the same on file.
refiled_agree : (d d' : State) → Agree d d' → (x y : OnFile) → x ≡ y → Agree (with_file x d) (with_file y d')
refiled_agree d d' b x y e =
    record {
      counts = b.counts;
      clock = b.clock;
      now = b.now;
      begun = b.begun;
      file = e;
      tasks = b.tasks;
      places = b.places;
      semaphores = b.semaphores;
      bolts = b.bolts;
      enabled = b.enabled;
      tables = tables_refiled d b.tables x;
      tables' = tables_refiled d' b.tables' y;
    }
  where
    tables_refiled : (d : State) → Tables d → (x : OnFile) → Tables (with_file x d)
    tables_refiled d t x = record { tasks = t.tasks; places = t.places; semaphores = t.semaphores; bolts = t.bolts; enabled = t.enabled }

abbrev served : Work → Served
served w = record { tasks = w.tasks; locks = w.locks; granted = w.sets.granted }

module _ (day : ℕ) (k : State) (ts : List Task) (ps : List ℕ) (r : Locks) (is : List Bool) (a : Agree k (with_places ps (with_state ts r is k))) where
  abbrev n : Counts
  n = k.counts

  abbrev k' : State
  k' = with_places ps (with_state ts r is k)

  tasks : Like no_task most_tasks n.tasks k.tasks ts
  tasks = record { long = a.tables.tasks; long' = a.tables'.tasks; below = a.tasks }

  places : Like 0 most_tasks n.tasks k.places ps
  places = record { long = a.tables.places; long' = a.tables'.places; below = a.places }

  locks : Alike most_semaphores most_bolts n.semaphores n.bolts k.locks r
  locks =
      record {
        semaphores = record { long = a.tables.semaphores; long' = a.tables'.semaphores; below = a.semaphores };
        bolts = record { long = a.tables.bolts; long' = a.tables'.bolts; below = a.bolts };
      }

  ints : Like false most_interrupts n.interrupts k.enabled is
  ints = record { long = a.tables.enabled; long' = a.tables'.enabled; below = a.enabled }

  sees : Seen n.semaphores n.bolts k.locks r
  sees = record { values = a.semaphores; bolts = a.bolts }

  same_runner : runner k ≡ runner k'
  same_runner = runner_same k ts ps r is a.tasks a.places sees

  same_file_law : file_of k ≡ file_of k'
  same_file_law = let e = next_same k ts ps r is a.tasks a.places sees in λ i. record { running = same_runner i; next = e i }

  refuse_match : (m : ℕ) → Match (answered k m (runner k)) (answered k' m (runner k'))
  unfolding answered
  refuse_match m = record { answer = rw same_runner; state = a }

  declared_match : (d d' : State) → Agree d d' → Match (declared k d) (declared k' d')
  unfolding declared
  declared_match d d' b = record { answer = rw same_runner; state = refiled_agree d d' b (file_of k) (file_of k') same_file_law }

  module _ (f : Fits n) where
    finish_match : (w w' : Work) → WorkPair n w w' → Match (finish k w) (finish k' w')
    unfolding finish event
    finish_match w w' q =
        let z = serve n.tasks k.places n.tasks (served w) in
        let z' = serve n.tasks ps n.tasks (served w') in
        let (p, g) = serve_pair n f k.places ps a.places n.tasks (served w) (served w') (q.pair, ap (λ (s : Sets). s.granted) q.sets) in
        let o = event k.tasks z.tasks w.sets.started in
        let o' = event ts z'.tasks w'.sets.started in
        let m = moved_like most_tasks n.tasks f.tasks o o' k.places ps places n.tasks (omega arith) (λ i l. rw (a.tasks i l, p.tasks.below i l, q.sets)) in
        let e = running_same n z.tasks z'.tasks p.tasks.below (moved n.tasks o k.places) (moved n.tasks o' ps) m.below in
        let x = next_among_law n z.tasks z'.tasks p.tasks.below w.now in
        record {
          answer = λ i. record {
            number = 0;
            running = e i;
            sets = with_granted (g i) (q.sets i);
          };
          state = rw (← q.now, ← e, ← x) (alike_agree (finish k w).state _ _ _ _ p.tasks m p.locks q.enabled);
        }

    -- ---- declarations

    add_task_law : (p : ℕ) → n.tasks < most_tasks → Agree (add_task p k) (add_task p k')
    unfolding add_task
    add_task_law p l =
        alike_agree (add_task p k) _ _ _ _ (like_add no_task most_tasks n.tasks k.tasks ts tasks l (fresh_task p))
        (like_add 0 most_tasks n.tasks k.places ps places l n.tasks) locks ints

    add_semaphore_law : (v : ℕ) → n.semaphores < most_semaphores → Agree (add_semaphore v k) (add_semaphore v k')
    unfolding add_semaphore
    add_semaphore_law v l =
        alike_agree (add_semaphore v k) _ _ _ _ tasks places
        (record { semaphores = like_add 0 most_semaphores n.semaphores k.locks.semaphores r.semaphores locks.semaphores l v; bolts = locks.bolts }) ints

    add_bolt_law : n.bolts < most_bolts → Agree (add_bolt k) (add_bolt k')
    unfolding add_bolt
    add_bolt_law l =
        alike_agree (add_bolt k) _ _ _ _ tasks places
        (record { semaphores = locks.semaphores; bolts = like_add empty_bolt most_bolts n.bolts k.locks.bolts r.bolts locks.bolts l empty_bolt }) ints

    add_interrupt_law : n.interrupts < most_interrupts → Agree (add_interrupt k) (add_interrupt k')
    unfolding add_interrupt
    add_interrupt_law l =
        alike_agree (add_interrupt k) _ _ _ _ tasks places locks (like_add false most_interrupts n.interrupts k.enabled is ints l false)

    -- ---- accepted records

    module _ (t : Tested k) where
      pair : Pair n k.tasks ts k.locks r
      pair = record { tasks = tasks; locks = locks; listed = t.listed }

      declaration_match : (m : Mark) (c : Call) → room_for m n ≡ true → Agree (declaration m c k) (declaration m c k')
      unfolding declaration
      declaration_match m c o =
          by_bool (bears m DT) (λ e. rw e (add_task_law _ (room_task n (rw (is_mark m DT e) at o))))
          (λ e. rw e (by_bool (bears m DS) (λ e. rw e (add_semaphore_law _ (room_semaphore n (rw (is_mark m DS e) at o))))
          (λ e. rw e (by_bool (bears m DB) (λ e. rw e (add_bolt_law (room_bolt n (rw (is_mark m DB e) at o))))
          (λ e. rw e (by_bool (bears m IT) (λ e. rw e (add_interrupt_law (room_interrupt n (rw (is_mark m IT e) at o))))
          (λ e. rw e (by_bool (bears m DC) (λ e. rw e (alike_agree (with_clock c.head.first k) ts ps r is tasks places locks ints)) (λ e. rw e a)))))))))

      out_match : (c : Call) → Passed day c.head.mark k c → Match (carry_out day k c) (carry_out day k' c)
      unfolding carry_out
      out_match c p =
          let u = unrefused c.head.mark c (runner k) _ k.locks k.now _ p.state in
          by_bool (declares c.head.mark)
          (λ e. rw e (declared_match _ _ (declaration_match c.head.mark c p.formal.room)))
          (λ e. rw e (finish_match _ _ (work_pair k ts ps r is f pair a.places ints day c (sort_of c.head.mark) p.formal.known u.runs)))

      on_match : (c : Call) → Match (carry_on day k c) (carry_on day k' c)
      on_match c = rw (carried_by day k c, carried_by day k' c, ← refusal_same k ts ps r is a.tasks a.places sees day c) (go (refusal_of day k c) refl)
        where
          go : (m : ℕ) → refusal_of day k c ≡ m → Match (or_refuse k m (carry_out day k c)) (or_refuse k' m (carry_out day k' c))
          go zero e = out_match c (passed day k c e)
          go (suc m) e = refuse_match (suc m)

  step_match : (s : List ℕ) → Match (step day k s) (step day k' s)
  unfolding step
  step_match s = rw (← kernel_same k ts ps r is a.tasks a.places sees day, read_opened day k s, read_opened day k' s) (go (kernel_refusal day k) refl)
    where
      go : (m : ℕ) → kernel_refusal day k ≡ m
          → Match (or_turn_away k m (step_opened day k (opened s).answer (opened s).list)) (or_turn_away k' m (step_opened day k' (opened s).answer (opened s).list))
      go zero v =
          let t = tested day k (taken_valid day k v) in
          opened_cases s (λ o. Match (step_opened day k o.answer o.list) (step_opened day k' o.answer o.list)) (refuse_match 2) (on_match t.fits t)
      go (suc m) v = unfold answered in record { answer = refl; state = a }

-- A kernel that agrees with k is k with other tables.
pub steps_agree : StepsAgree
steps_agree day k k' a s =
    let e : with_places k'.places (with_state k'.tasks k'.locks k'.enabled k) ≡ k' = λ i. record {
      tasks = k'.tasks;
      places = k'.places;
      locks = k'.locks;
      enabled = k'.enabled;
      counts = a.counts i;
      clock = a.clock i;
      now = a.now i;
      begun = a.begun i;
      file = a.file i;
    } in
    subst (λ (z : State). Match (step day k s) (step day z s)) e
    (step_match day k k'.tasks k'.places k'.locks k'.enabled (subst (λ (z : State). Agree k z) (sym e) a) s)

pub logs_agree : LogsAgree
unfolding log
logs_agree day k k' a [] = refl
logs_agree day k k' a (s ∷ rs) =
    let m = steps_agree day k k' a s in
    rw (m.answer, logs_agree day (step day k s).state (step day k' s).state m.state rs)
