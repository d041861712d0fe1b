-- The books while the waiting tasks are served: what each grant takes is counted by its task's last asking.
use mathlib.Core.Path.{◌≡◌, refl, sym, ◌∙◌}
use mathlib.Core.Logic.{◌≢◌}
use mathlib.Core.Bool.{Bool, true, false, not, ◌&&◌}
use Prim.Native.Nat.{ℕ, ◌+◌, ◌^◌, ◌<◌}
use native.Mathlib.Omega.{arith}
use borrow.Author.Tests.{eqb-false, not-true}
use Rattle.lock.specs.Locks.{waiting, level}
use Rattle.lock.specs.declared.Way.TheVariants.{Take}
use Rattle.lock.specs.declared.Wait.{Wait}
use Rattle.facts.proofs.Bools.{by_eq, contra, both}
use Rattle.lock.proofs.Levels.{Law}
use Rattle.lock.proofs.Taking.{move_law}
use Rattle.lock.proofs.Exclusion.{Exclusive, move_exclusive}
use Rattle.task.specs.State.{wanted}
use Rattle.task.specs.declared.Task.{Task}
use Rattle.machine.specs.declared.State.{State}
use Rattle.machine.specs.Sets.{has}
use Rattle.machine.specs.State.{task_at}
use Rattle.machine.specs.Granting.{servable}
use Rattle.machine.specs.Serving.{Served, grant_to, serve}
use Rattle.machine.proofs.SetLaws.{has_le, has_put, has_put_other, put_lt}
use Rattle.machine.proofs.Facts.{StateOk}
use Rattle.machine.proofs.Serving.{ServedOk, served_waits, served_free, grant_at, grant_other, wanted_proper, grant_ok, serve_keeps}
use Rattle.balance.specs.Counting.{Asking, counts, grants_in, Open, is_in}
use Rattle.balance.proofs.Grants.{Moved, moved_more, put_grant}
use Rattle.balance.proofs.Works.{Ties}

-- before: who waits where serving begins, but for grants made already; asking: whose asking is open then.
pub record ServedBooks (day : ℕ) (k : State) (last : Asking) (before asking : Open) (p q : Served) : Type 0 where
  pub ok : ServedOk day k q
  pub kept_same : (i : ℕ) → (task_at q.tasks i).kept ≡ (task_at p.tasks i).kept
  pub alive_same : (i : ℕ) → (task_at q.tasks i).alive ≡ (task_at p.tasks i).alive
  pub ties : Ties k.counts.tasks q.tasks last
  pub waits : (i : ℕ) → i < k.counts.tasks → waiting (task_at q.tasks i).wait ≡ (before i && not (is_in q.granted i))
  pub asked : (i : ℕ) → i < k.counts.tasks → has i q.granted ≡ 1 → asking i ≡ true
  pub granted_lt : q.granted < 2 ^ k.counts.tasks
  pub values : (v : Wait) (x : ℕ) → Moved v (level v q.locks x) (grants_in k.counts.tasks v x last q.granted) (level v p.locks x) (grants_in k.counts.tasks v x last p.granted)
  pub exclusive : Exclusive k.counts.bolts q.locks

unmarked_has : (i g : ℕ) → is_in g i ≡ false → has i g ≡ 0
unmarked_has i g e = let ne = eqb-false (has i g) 1 e in by_eq (has i g) 1 (λ z. absurd (ne z)) (λ z. omega (arith, has_le i g))

none_left : (b : Bool) → false ≡ (b && not true)
none_left true = refl
none_left false = refl

module _ (day : ℕ) (k : State) (h : StateOk day k) (last : Asking) (before asking : Open) (sub : (i : ℕ) → before i ≡ true → asking i ≡ true) (p : Served) where
  abbrev n : ℕ
  n = k.counts.tasks

  module _ (q : Served) (j : ℕ) (lt : j < n) (e : servable n q.tasks q.locks j ≡ true) (b : ServedBooks day k last before asking p q) where
    abbrev t : Task
    t = task_at q.tasks j

    waits : waiting t.wait ≡ true
    waits = served_waits n q j e

    mask : (before j ≡ true) × (is_in q.granted j ≡ false)
    mask = let z = both (before j) (not (is_in q.granted j)) (sym (b.waits j lt) ∙ waits) in (z.0, not-true _ z.1)

    value : (v : Wait) (x : ℕ) → Law v (level v (grant_to j q).locks x) (counts v x (last j)) 0 (level v q.locks x)
    unfolding grant_to
    value v x =
        rw (b.ties j lt waits)
        (move_law Take t.wait _ (wanted t) q.locks (wanted_proper day k h q b.ok j lt waits) (served_free n q j e) v x)

    marks : (v : Wait) (x : ℕ) → grants_in n v x last q.granted + counts v x (last j) ≡ grants_in n v x last (grant_to j q).granted
    unfolding grant_to
    marks v x = put_grant n v x last q.granted j lt (unmarked_has j q.granted mask.1)

    same_at : (i : ℕ) → ((task_at (grant_to j q).tasks i).kept ≡ (task_at q.tasks i).kept) × ((task_at (grant_to j q).tasks i).alive ≡ (task_at q.tasks i).alive)
    same_at i = by_eq i j (λ z. rw (z, grant_at n q j e) (refl, refl)) (λ z. rw (grant_other q j i z) (refl, refl))

    over : (i : ℕ) → i ≡ j → waiting (task_at (grant_to j q).tasks i).wait ≡ false
    over i z = rw (z, grant_at n q j e)

    now_in : is_in (grant_to j q).granted j ≡ true
    unfolding grant_to
    now_in = rw (has_put j q.granted)

    other_has : (i : ℕ) → i ≢ j → has i (grant_to j q).granted ≡ has i q.granted
    unfolding grant_to
    other_has i z = has_put_other j i q.granted z

    grant_books : ServedBooks day k last before asking p (grant_to j q)
    grant_books =
        record {
          ok = grant_ok day k h q j lt e b.ok;
          kept_same = λ i. (same_at i).0 ∙ b.kept_same i;
          alive_same = λ i. (same_at i).1 ∙ b.alive_same i;
          ties = λ i l w. by_eq i j (λ z. contra w (over i z)) (λ z. rw (grant_other q j i z) (b.ties i l (rw (grant_other q j i z) at w)));
          waits = λ i l. by_eq i j (λ z. over i z ∙ rw (z, now_in) (none_left (before j))) (λ z. rw (grant_other q j i z, other_has i z) (b.waits i l));
          asked = λ i l w. by_eq i j (λ z. rw z (sub j mask.0)) (λ z. b.asked i l (rw (other_has i z) at w));
          granted_lt = unfold grant_to in put_lt n j q.granted lt b.granted_lt;
          values = λ v x. rw (← marks v x) (moved_more v (level v p.locks x) (grants_in n v x last p.granted) (level v q.locks x) (grants_in n v x last q.granted) (level v (grant_to j q).locks x) (counts v x (last j)) (b.values v x) (value v x));
          exclusive = unfold grant_to in move_exclusive k.counts.bolts Take t.wait _ (wanted t) q.locks (wanted_proper day k h q b.ok j lt waits) (served_free n q j e) b.exclusive;
        }

  pub served_books : ServedBooks day k last before asking p p → ServedBooks day k last before asking p (serve n k.places n p)
  served_books b = serve_keeps n k.places (ServedBooks day k last before asking p) grant_books n p b
