-- What a call's own work, before the waiting tasks are served, does to the wait of each task.
use Rattle.std.specs.Prelude.{Some}
use mathlib.Core.Path.{◌≡◌, refl, sym, ◌∙◌}
use mathlib.Core.Bool.{Bool, true, false, not}
use mathlib.Core.List.{List}
use Prim.Native.Nat.{ℕ, ◌<◌}
use native.Mathlib.Omega.{arith}
use lib.Seq.{get_or-set_other}
use borrow.Author.Tests.{not-true}
use Rattle.layout.specs.declared.Call.{Call}
use Rattle.layout.specs.declared.Mark.TheVariants.{RL}
use Rattle.record.specs.Refusals.{named}
use Rattle.lock.specs.Locks.{waiting, give_all}
use Rattle.lock.specs.declared.Wait.TheVariants.{Request}
use Rattle.lock.specs.declared.Locks.{Locks}
use Rattle.facts.proofs.Bools.{by_eq, contra, both}
use Rattle.task.specs.State.{no_task, wanted}
use Rattle.task.specs.Promises.{Fair}
use Rattle.task.specs.Turns.{unmarked}
use Rattle.task.specs.declared.Task.{Task}
use Rattle.task.specs.declared.Turn.{Turn}
use Rattle.task.proofs.Alike.{like_refl}
use Rattle.task.proofs.Fairness.{fair_unmarked}
use Rattle.machine.specs.Sets.{Ended, holds, mark}
use Rattle.machine.specs.State.{task_at}
use Rattle.machine.specs.Sorts.{runner_at}
use Rattle.machine.specs.Running.{runner}
use Rattle.machine.specs.Calls.{change_of, work_by, work_of}
use Rattle.machine.specs.Turns.{waits_in}
use Rattle.machine.specs.Work.{Work, changed, every_turn}
use Rattle.machine.specs.declared.State.{State}
use Rattle.machine.proofs.SetLaws.{has_empty, has_only, has_only_other}
use Rattle.machine.proofs.Facts.{StateOk, task_room}
use Rattle.machine.proofs.Works.{one_turn, only_locks, locks_alone, set_at}
use Rattle.machine.proofs.Accepted.{one_at, every_at}
use Rattle.machine.proofs.Done.{Role, Did, turned, everyone, quiet, gave, got, waits, tried, runs}
use Rattle.lock.proofs.Bits.{eqb_bit}

-- The running task i begins to wait for the list of its call.
pub record Begins (k : State) (c : Call) (r : Role) (i : ℕ) (u : Task) : Type 0 where
  pub runs : runner k ≡ Some i
  pub kind : r.asks ≡ u.wait
  pub stays : r.stays ≡ true
  pub list : wanted u ≡ named c
  pub current : u.current ≡ (task_at k.tasks i).current

-- The wait of t goes on as that of u.
pub record SameWait (t u : Task) : Type 0 where
  pub kind : u.wait ≡ t.wait
  pub list : wanted u ≡ wanted t

pub record Waited (k : State) (c : Call) (r : Role) (i : ℕ) (ended : Bool) (u : Task) : Type 0 where
  pub goes_on_law : waits_in k i ≡ true → ended ≡ false → waiting u.wait ≡ true
  pub same : waits_in k i ≡ true → waiting u.wait ≡ true → SameWait (task_at k.tasks i) u × (ended ≡ false)
  pub begins : waits_in k i ≡ false → waiting u.wait ≡ true → Begins k c r i u

-- By a fair turn.
fair_waited : (k : State) (c : Call) (r : Role) (i : ℕ) (p : Bool) (u : Turn) → Fair p (task_at k.tasks i) u
    → Waited k c r i u.marks.ended u.task
fair_waited k c r i p u f =
    record {
      goes_on_law = λ w e. rw (f.waits, w, e);
      same = λ w v. let s = f.wants v in
          (record { kind = s.0; list = s.1 }, not-true u.marks.ended (both (waits_in k i) (not u.marks.ended) (sym f.waits ∙ v)).1);
      begins = λ w v. contra v (f.waits ∙ rw w);
    }

module _ (day : ℕ) (k : State) (h : StateOk day k) (c : Call) where
  abbrev WaitedIn : Role → Work → ℕ → Type 0
  WaitedIn r w i = Waited k c r i (holds i w.sets.ended) (task_at w.tasks i)

  -- A task that has no turn.
  rests : (r : Role) (w : Work) (i : ℕ) → task_at w.tasks i ≡ task_at k.tasks i → holds i w.sets.ended ≡ false → WaitedIn r w i
  rests r w i t e =
      let u = task_at k.tasks i in
      rw (t, e) (fair_waited k c r i false (unmarked u) (fair_unmarked u u (like_refl u)))

  one : (r : Role) (i : ℕ) (u : Turn) (j : ℕ) → i < k.counts.tasks → (i ≡ j → Waited k c r i u.marks.ended u.task) → WaitedIn r (one_turn k i u) j
  one r i u j l f =
      by_eq i j
      (λ q. rw (← q, one_at k i _ (omega (arith, task_room day k h))) (unfold changed in rw (has_only i u.marks.ended, eqb_bit u.marks.ended) (f q)))
      (λ q. rests r (one_turn k i u) j (unfold changed in get_or-set_other k.tasks i j u.task no_task (λ z. q (sym z)))
      (unfold changed in rw (has_only_other i j u.marks.ended (λ z. q (sym z)))))

  none : (r : Role) (ls : Locks) (es : List Bool) (g i : ℕ) → WaitedIn r (only_locks k ls es g) i
  unfolding only_locks
  none r ls es g i = rests r (only_locks k ls es g) i refl (rw (has_empty i))

  pub work_waited : {r : Role} {w : Work} → Did day k c r w → (j : ℕ) → j < k.counts.tasks → WaitedIn r w j
  work_waited {r} (turned p i u l q g) j m = one r i u j l (λ z. fair_waited k c r i p u g.fair)
  work_waited {r} (everyone n f l g) j m =
      let t = task_at k.tasks j in
      let room = task_room day k h in
      rw (every_at k n f room j m)
      (unfold every_turn in rw (set_at k.counts.tasks f k.tasks room (λ u. mark Ended u.marks) j m, eqb_bit (f t).marks.ended)
      (fair_waited k c r j false (f t) (g j m).fair))
  work_waited {r} (quiet es e) j m = none r _ _ _ j
  work_waited {r} (gave w l e) j m = none r _ _ _ j
  work_waited {r} (got w s i z q l e) j m = none r _ _ _ j
  work_waited {r} (tried w i z q) j m = none r _ _ _ j
  work_waited {r} (waits w i z q l) j m =
      let a = runs k i q in
      one r i _ j a.0 (λ y.
      record {
        goes_on_law = λ b e. contra b a.2;
        same = λ b v. contra b a.2;
        begins = λ b v. record { runs = q; kind = refl; stays = refl; list = refl; current = refl };
      })

-- A RELEASE gives back, and no task has a turn.
pub release_work : (day : ℕ) (k : State) (c : Call) → c.head.mark ≡ RL → work_of day k c ≡ only_locks k (give_all Request k.locks (named c)) k.enabled 0
unfolding work_by change_of
release_work day k c m = rw m (locks_alone k (runner_at (runner k)) (give_all Request k.locks (named c)) false)
