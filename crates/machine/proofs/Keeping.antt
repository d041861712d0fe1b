-- An accepted call keeps what the kernel test asks.
use mathlib.Core.Path.{◌≡◌, refl, ◌∙◌}
use mathlib.Core.Bool.{Bool, true}
use mathlib.Core.List.{List}
use Prim.Native.Nat.{ℕ, ◌≤◌, ◌<◌}
use native.Mathlib.Omega.{arith}
use lib.ListN.{length, take, length-set}
use lib.Seq.{get_or-set_same, get_or-set_other}
use Rattle.calendar.specs.Limits.{last_instant}
use Rattle.calendar.specs.declared.Instant.{Instant}
use Rattle.layout.specs.declared.Call.{Call}
use Rattle.record.specs.Refusals.{named}
use Rattle.lock.specs.declared.Way.TheVariants.{Take, Give}
use Rattle.lock.specs.declared.Wait.{Wait}
use Rattle.lock.specs.declared.Locks.{Locks}
use Rattle.facts.proofs.Bools.{by_eq}
use Rattle.lock.proofs.Levels.{SameSize, size_refl}
use Rattle.lock.proofs.Taking.{move_size, move_most}
use Rattle.task.specs.State.{no_task, wait_for}
use Rattle.task.specs.declared.Task.{Task}
use Rattle.task.specs.declared.Turn.{Turn}
use Rattle.machine.specs.declared.State.{State}
use Rattle.machine.specs.declared.Counts.{Counts}
use Rattle.machine.specs.State.{task_at}
use Rattle.machine.specs.Work.{Work, changed, every_turn}
use Rattle.machine.specs.Step.{finish}
use Rattle.machine.specs.OnePass.{unserved}
use Rattle.machine.proofs.Facts.{Listed, TaskOk, Bounded, StateOk, proper_list, task_room}
use Rattle.machine.proofs.Works.{one_turn, only_locks, turn_at, every_length}
use Rattle.machine.proofs.Done.{Role, Did, turned, everyone, quiet, gave, got, waits, tried, runs}
use Rattle.machine.proofs.Serving.{ServedOk, grant_ok, serve_keeps, serving_ends}
use Rattle.machine.proofs.Places.{moved_size, moved_apart}

-- A work that serving may start from.
pub record WorkOk (day : ℕ) (k : State) (w : Work) : Type 0 where
  pub now_ok : w.now.0 ≤ last_instant
  pub enabled_size : length w.enabled ≡ length k.enabled
  pub tasks_size : length w.tasks ≡ length k.tasks
  pub locks_size : SameSize k.locks w.locks
  pub bounded : Bounded k.counts w.locks
  pub tasks_ok_law : (i : ℕ) → i < k.counts.tasks → TaskOk day k.counts (task_at w.tasks i)

wait_ok_law : (day : ℕ) (n : Counts) (w : Wait) (len : ℕ) (l : List ℕ) (t : Task) → t.alive ≡ true → Listed n w len (take len l) → TaskOk day n t → TaskOk day n (wait_for w len l t)
wait_ok_law day n w len l t a q h =
    record {
      declared_ok = h.declared_ok;
      current_ok = h.current_ok;
      kept_ok_law = h.kept_ok_law;
      hold_ok_law = h.hold_ok_law;
      rests = rw a;
      listed = λ e. q;
      schedule_ok_law = h.schedule_ok_law;
      continuation_ok_law = h.continuation_ok_law;
    }

module _ (day : ℕ) (k : State) (h : StateOk day k) where
  one_ok : (i : ℕ) (u : Turn) → i < k.counts.tasks → TaskOk day k.counts u.task → WorkOk day k (one_turn k i u)
  unfolding changed
  one_ok i u l o =
      record {
        now_ok = h.now_ok;
        enabled_size = refl;
        tasks_size = length-set k.tasks i u.task;
        locks_size = size_refl k.locks;
        bounded = h.bounded;
        tasks_ok_law = λ j q. by_eq j i (λ z. rw (z, get_or-set_same k.tasks i u.task no_task (omega (arith, task_room day k h))) o) (λ z. rw (get_or-set_other k.tasks i j u.task no_task z) (h.tasks_ok_law j q));
      }

  -- The tasks stay.
  locks_ok : (r : Locks) (es : List Bool) (g : ℕ) → length es ≡ length k.enabled → SameSize k.locks r → Bounded k.counts r → WorkOk day k (only_locks k r es g)
  unfolding only_locks
  locks_ok r es g e s b =
      record { now_ok = h.now_ok; enabled_size = e; tasks_size = refl; locks_size = s; bounded = b; tasks_ok_law = h.tasks_ok_law }

  every_ok : (n : Instant) (f : Task → Turn) → n.0 ≤ last_instant → ((i : ℕ) → i < k.counts.tasks → TaskOk day k.counts (f (task_at k.tasks i)).task) → WorkOk day k (every_turn k n f)
  unfolding every_turn
  every_ok n f l o =
      record {
        now_ok = l;
        enabled_size = refl;
        tasks_size = every_length k n f (task_room day k h);
        locks_size = size_refl k.locks;
        bounded = h.bounded;
        tasks_ok_law = λ i q. rw (turn_at k.counts.tasks f k.tasks (task_room day k h) i q) (o i q);
      }

  pub did_ok : {c : Call} {r : Role} {w : Work} → Did day k c r w → WorkOk day k w
  did_ok (turned p i u l q g) = one_ok i u l g.ok
  did_ok (everyone n f l g) = every_ok n f l (λ i q. (g i q).ok)
  did_ok (quiet es e) = locks_ok k.locks es 0 e (size_refl k.locks) h.bounded
  did_ok {c} (gave w l e) =
      let p = proper_list day k h k.locks (size_refl k.locks) w c.head.len (named c) l in
      locks_ok _ k.enabled 0 refl (move_size Give w (named c) k.locks) (λ v x q. move_most Give w _ (named c) k.locks p e v x (h.bounded v x q))
  did_ok {c} (got w s i z r l e) =
      let p = proper_list day k h k.locks (size_refl k.locks) w c.head.len (named c) l in
      locks_ok _ k.enabled _ refl (move_size Take w (named c) k.locks) (λ v x q. move_most Take w _ (named c) k.locks p e v x (h.bounded v x q))
  did_ok {c} (waits w i z r l) =
      let u = runs k i r in
      one_ok i _ u.0 (wait_ok_law day k.counts w c.head.len c.list (task_at k.tasks i) u.1 l (h.tasks_ok_law i u.0))
  did_ok (tried w i z r) = locks_ok k.locks k.enabled 0 refl (size_refl k.locks) h.bounded

  pub unserved_ok : (w : Work) → WorkOk day k w → ServedOk day k (unserved w)
  unserved_ok w a = record { tasks_size = a.tasks_size; locks_size = a.locks_size; bounded = a.bounded; tasks_ok_law = a.tasks_ok_law }

  pub finish_ok : (w : Work) → WorkOk day k w → StateOk day (finish k w).state
  unfolding finish
  finish_ok w a =
      let n = k.counts.tasks in
      let s = serve_keeps n k.places (ServedOk day k) (grant_ok day k h) n (unserved w) (unserved_ok w a) in
      record {
        tables =
            record {
              tasks = s.tasks_size ∙ h.tables.tasks;
              places = moved_size n _ n k.places ∙ h.tables.places;
              semaphores = s.locks_size.semaphores ∙ h.tables.semaphores;
              bolts = s.locks_size.bolts ∙ h.tables.bolts;
              enabled = a.enabled_size ∙ h.tables.enabled;
            };
        now_ok = a.now_ok;
        clock_ok = h.clock_ok;
        counts_ok_law = h.counts_ok_law;
        bounded = s.bounded;
        tasks_ok_law = s.tasks_ok_law;
        places_ok_law = moved_apart n _ k.places h.places_ok_law (omega (arith, h.tables.places, h.counts_ok_law.tasks));
        stuck = serving_ends n k.places (unserved w);
        filed_ok = refl;
      }
