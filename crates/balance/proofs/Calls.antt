-- The books of each accepted call, before the waiting tasks are served.
use Rattle.std.specs.Prelude.{Some}
use mathlib.Core.Path.{◌≡◌, refl, ap, ◌∙◌}
use mathlib.Core.Logic.{◌≢◌}
use mathlib.Core.Bool.{Bool, true, false}
use mathlib.Core.List.{List}
use Prim.Native.Nat.{ℕ, ◌^◌, ◌<◌}
use native.Mathlib.Omega.{arith}
use borrow.Author.Tests.{eq-eqb, ne_eqb}
use Rattle.record.specs.Refusals.{named}
use Rattle.layout.specs.declared.Call.{Call}
use Rattle.lock.specs.Locks.{bit, waiting, level}
use Rattle.lock.specs.declared.Way.TheVariants.{Take, Give}
use Rattle.lock.specs.declared.Wait.{Wait}
use Rattle.lock.specs.declared.Wait.TheVariants.{Nothing}
use Rattle.lock.specs.declared.Locks.{Locks}
use Rattle.facts.proofs.Bools.{tests, by_eq, contra}
use Rattle.lock.proofs.Levels.{Law, Proper, size_refl}
use Rattle.lock.proofs.Taking.{move_law}
use Rattle.lock.proofs.Exclusion.{Exclusive, move_exclusive}
use Rattle.task.specs.State.{wait_for}
use Rattle.task.specs.Turns.{unmarked}
use Rattle.task.specs.declared.Task.{Task}
use Rattle.task.specs.declared.Turn.{Turn}
use Rattle.machine.specs.declared.State.{State}
use Rattle.machine.specs.State.{task_at, count_of}
use Rattle.machine.specs.Running.{runner}
use Rattle.machine.specs.Work.{Work, changed}
use Rattle.machine.proofs.Works.{one_turn, only_locks}
use Rattle.machine.proofs.SetLaws.{unmarked_none, has_empty, has_one, has_other}
use Rattle.machine.proofs.Facts.{StateOk, proper_list}
use Rattle.machine.proofs.Done.{Role, asking, giving, Lists, Did, turned, everyone, quiet, gave, got, waits, tried, runs}
use Rattle.balance.specs.Counting.{Named, Asking, counts, issued_by, grants_in}
use Rattle.balance.proofs.Grants.{no_grants, one_grant, no_kind}
use Rattle.balance.proofs.Works.{marked_as, still_marked, granted_marked, only_granted, Ties, asks_if, last_if, WorkBooks, unmoved, none_granted, at_turn, at_other, one_marked, one_declared, turned_books, every_books}
use Rattle.facts.proofs.Numbers.{pow_pos, pow_lt}

module _ (day : ℕ) (k : State) (h : StateOk day k) (c : Call) (last : Asking) where
  abbrev n : ℕ
  n = k.counts.tasks

  abbrev t : ℕ → Task
  t i = task_at k.tasks i

  -- No task has a turn and none asks.
  quiet_books : (w : Wait) (r : Locks) (es : List Bool)
      → ((v : Wait) (x : ℕ) → Law v (level v r x) (grants_in n v x last 0) (counts v x (record { kind = w; list = named c })) (level v k.locks x))
      → (Exclusive k.counts.bolts k.locks → Exclusive k.counts.bolts r)
      → WorkBooks k c (giving w) last last (only_locks k r es 0)
  unfolding only_locks
  quiet_books w r es v x =
      record {
        marked = λ i l. granted_marked (t i) i 0;
        ties = λ b. b;
        waits = λ i l. rw has_empty (simp tests);
        asked = λ i l e. none_granted i e;
        values = v;
        exclusive = x;
        declared = only_granted n 0 (pow_pos n);
      }

  -- ---- the runner asks for a list

  module _ (w : Wait) (i : ℕ) (z : waiting w ≡ true) (q : runner k ≡ Some i) where
    abbrev names : Named
    names = record { kind = w; list = named c }

    abbrev over : Asking
    over = issued_by (Some i) names last

    over_same : over i ≡ names
    over_same = rw (eq-eqb i i refl)

    over_other : (j : ℕ) → j ≢ i → over j ≡ last j
    over_other j ne = rw (ne_eqb j i ne)

    declared : i < n
    declared = (runs k i q).0

    unwaiting : waiting (t i).wait ≡ false
    unwaiting = (runs k i q).2

    -- The runner waits for nothing, so its last asking may change.
    over_ties : Ties n k.tasks last → Ties n k.tasks over
    over_ties b j l e = by_eq j i (λ y. contra e (rw y unwaiting)) (λ y. over_other j y ∙ b j l e)

    asks_now_law : asks_if w (runner k) i ≡ true
    asks_now_law = rw (z, q, eq-eqb i i refl)

    asks_not : (j : ℕ) → j ≢ i → asks_if w (runner k) j ≡ false
    asks_not j ne = rw (z, q, ne_eqb j i ne)

    -- Its list is granted.
    got_books : (s : Bool) (r : Locks) → ((v : Wait) (x : ℕ) → Law v (level v r x) (counts v x names) 0 (level v k.locks x))
        → (Exclusive k.counts.bolts k.locks → Exclusive k.counts.bolts r)
        → WorkBooks k c (asking w s) last over (only_locks k r k.enabled (2 ^ i))
    unfolding only_locks
    got_books s r v x =
        record {
          marked = λ j y. granted_marked (t j) j (2 ^ i);
          ties = over_ties;
          waits = λ j y. by_eq j i (λ e. rw (e, has_one i, unwaiting) (simp tests)) (λ e. rw (has_empty j, has_other i j e, asks_not j e) (simp tests));
          asked = λ j y e. by_eq j i (λ m. rw m asks_now_law) (λ m. absurd (omega (arith, has_other i j m)));
          values = λ u y. rw (one_grant n u y over i declared, over_same, no_kind u y (named c)) (v u y);
          exclusive = x;
          declared = only_granted n (2 ^ i) (pow_lt i n declared);
        }

    -- It tried, and does not wait.
    tried_books : WorkBooks k c (asking w false) last over (only_locks k k.locks k.enabled 0)
    unfolding only_locks
    tried_books =
        record {
          marked = λ j y. granted_marked (t j) j 0;
          ties = over_ties;
          waits = λ j y. rw has_empty (simp tests);
          asked = λ j y e. none_granted j e;
          values = unmoved k (named c) over;
          exclusive = λ e. e;
          declared = only_granted n 0 (pow_pos n);
        }

    -- It waits.
    waits_books : WorkBooks k c (asking w true) last over (one_turn k i (unmarked (wait_for w c.head.len c.list (t i))))
    waits_books =
        let u : Turn = unmarked (wait_for w c.head.len c.list (t i)) in
        let here = at_turn day k h c i u declared in
        let there = at_other day k h c i u declared in
        record {
          marked = λ j y. one_marked day k h c i u declared false (λ e. contra e refl) (marked_as (λ x. 0) _ (λ x. ap bit (unmarked_none x u.task)) (still_marked (t i) u.task refl refl)) j;
          ties = λ b j y e. by_eq j i (λ m. rw (m, here) over_same) (λ m. over_other j m ∙ rw (there j m) (b j y (rw (there j m) at e)));
          waits = λ j y. by_eq j i (λ m. rw (m, here) (unfold changed in rw (has_empty i, asks_now_law, z) (simp tests)))
              (λ m. rw (there j m) (unfold changed in rw (has_empty j, asks_not j m) (simp tests)));
          asked = unfold changed in λ j y e. none_granted j e;
          values = unfold changed in unmoved k (named c) over;
          exclusive = unfold changed in λ e. e;
          declared = one_declared day k h c i u declared;
        }

  -- ---- all shapes

  proper : (w : Wait) → Lists day k c w → Proper w (count_of k.counts w) k.locks (named c)
  proper w l = proper_list day k h k.locks (size_refl k.locks) w c.head.len (named c) l

  pub did_books : {r : Role} {w : Work} → Did day k c r w → WorkBooks k c r last (last_if (record { kind = r.asks; list = named c }) (runner k) last) w
  did_books (turned p i u l q g) = turned_books day k h c i u l last p q g.fair
  did_books (everyone m f l g) = every_books day k h c last m f (λ i q. (g i q).fair)
  did_books (quiet es e) = quiet_books Nothing k.locks es (unmoved k (named c) last) (λ e. e)
  did_books (gave w l e) =
      quiet_books w _ k.enabled (λ v x. rw (no_grants n v x last) (move_law Give w _ (named c) k.locks (proper w l) e v x))
      (move_exclusive k.counts.bolts Give w _ (named c) k.locks (proper w l) e)
  did_books (got w s i z q l e) =
      rw (z, q) (got_books w i z q s _ (λ v x. move_law Take w _ (named c) k.locks (proper w l) e v x) (move_exclusive k.counts.bolts Take w _ (named c) k.locks (proper w l) e))
  did_books (waits w i z q l) = rw (z, q) (waits_books w i z q)
  did_books (tried w i z q) = rw (z, q) (tried_books w i z q)
