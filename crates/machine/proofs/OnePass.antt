-- Serving goes once through the tasks by urgency: whom it passes over it never comes back to.
use Rattle.std.specs.Prelude.{None, Some}
use mathlib.Core.Path.{◌≡◌, refl, sym, ap, ◌∙◌}
use mathlib.Core.Bool.{true, false}
use mathlib.Core.List.{List, [], ◌∷◌}
use Prim.Native.Nat.{ℕ, zero, suc, ◌≤◌, ◌<◌}
use native.Mathlib.Omega.{arith}
use lib.Dec.{ltb}
use lib.ListN.{length}
use borrow.Author.Tests.{ltb-true}
use Rattle.lists.specs.Lists.{names, every}
use Rattle.lock.specs.declared.Way.TheVariants.{Take}
use Rattle.lock.specs.Locks.{waiting}
use Rattle.facts.proofs.Bools.{by_bool, by_eq, contra, both}
use Rattle.lists.proofs.EveryLaws.{names_head, names_same, every_more, every_at, names_tail}
use Rattle.lock.proofs.Taking.{move_size}
use Rattle.task.specs.State.{wanted}
use Rattle.machine.specs.declared.State.{State}
use Rattle.machine.specs.Running.{Running, urgency}
use Rattle.machine.specs.State.{task_at}
use Rattle.machine.specs.Serving.{Served, next_served, grant_to, serve}
use Rattle.machine.specs.Sorts.{sort_of, declares}
use Rattle.machine.specs.Calls.{work_of}
use Rattle.machine.specs.Step.{finish}
use Rattle.machine.specs.OnePass.{can_be_served, Placed, in_turn, ascending, ServesInOnePass, unserved, CallsServeInOnePass}
use Rattle.machine.proofs.Below.{Found, scan_finds, most_urgent_none}
use Rattle.machine.proofs.Passed.{passed}
use Rattle.machine.proofs.Opened.{opened_priority}
use Rattle.machine.proofs.Facts.{StateOk, ok_of_passes}
use Rattle.machine.proofs.Done.{call_done}
use Rattle.machine.proofs.Serving.{grant_at, grant_other, waiters, waiters_le, grant_fewer, none_waits, ServedOk, wanted_proper}
use Rattle.machine.proofs.Keeping.{did_ok, unserved_ok}
use Rattle.machine.proofs.Accepted.{no_refusal, step_work}
use Rattle.machine.proofs.Helping.{grants_help_nobody}

-- ---- one grant

module _ (n : ℕ) (p : Served) (j : ℕ) (e : can_be_served n p j ≡ true) where
  grant_urgency : (ps : List ℕ) (i : ℕ) → urgency ps (grant_to j p).tasks i ≡ urgency ps p.tasks i
  unfolding urgency
  grant_urgency ps i = by_eq i j (λ z. rw (z, grant_at n p j e)) (λ z. rw (grant_other p j i z))

  grant_places : length (grant_to j p).locks.bolts ≡ length p.locks.bolts
  unfolding grant_to
  grant_places = (move_size Take (task_at p.tasks j).wait (wanted (task_at p.tasks j)) p.locks).bolts

  grant_placed : (i : ℕ) → Placed p i → Placed (grant_to j p) i
  grant_placed i h =
      rw grant_places
      (by_eq i j (λ z. rw (z, grant_at n p j e) (λ r. contra refl (ap waiting (sym r)))) (λ z. rw (grant_other p j i z) h))

  granted_idle : can_be_served n (grant_to j p) j ≡ false
  granted_idle = rw (grant_at n p j e)

-- ---- the pass

-- Where serving stands, with the list of those who may still be served.
record Ahead (n : ℕ) (ps : List ℕ) (u : ℕ → ℕ) (l : List ℕ) (turns : ℕ) (p : Served) : Type 0 where
  placed : (i : ℕ) → i < n → Placed p i
  urgent : (i : ℕ) → urgency ps p.tasks i ≡ u i
  named : (i : ℕ) → i < n → can_be_served n p i ≡ true → names l i ≡ true
  below : (i : ℕ) → names l i ≡ true → i < n
  enough : waiters n p.tasks ≤ turns

nobody_left : (n : ℕ) (ps : List ℕ) (turns : ℕ) (p : Served) → ((i : ℕ) → i < n → can_be_served n p i ≡ false) → serve n ps turns p ≡ p
unfolding serve
nobody_left n ps zero p h = refl
nobody_left n ps (suc turns) p h = rw (most_urgent_none n (can_be_served n p) (urgency ps p.tasks) h, serve)

module _ (n : ℕ) (ps : List ℕ) (u : ℕ → ℕ) where
  -- Who stands first in the list and can be served is the next.
  first_next : (x : ℕ) (l : List ℕ) (turns : ℕ) (p : Served) → Ahead n ps u (x ∷ l) turns p → every (λ y. ltb (u x) (u y)) l ≡ true
      → can_be_served n p x ≡ true → next_served n ps p ≡ Some x
  first_next x l turns p a o e = go (next_served n ps p) (scan_finds n (can_be_served n p) (urgency ps p.tasks))
    where
      go : (r : Running) → Found n (can_be_served n p) (urgency ps p.tasks) r → r ≡ Some x
      go None f = contra e (f x (a.below x (names_same x l)))
      go (Some i) f =
          by_eq x i (λ z. rw z)
          (λ z.
          let m = rw (names_head x i l z) at (a.named i f.0 f.1) in
          let lt = ltb-true (u x) (u i) (every_at (λ (y : ℕ). ltb (u x) (u y)) l i o m) in
          let le = f.2 x (a.below x (names_same x l)) e in
          absurd (omega (arith, a.urgent i, a.urgent x)))

  -- Who can't be served is passed over.
  passed_over : (x : ℕ) (l : List ℕ) (turns : ℕ) (p : Served) → Ahead n ps u (x ∷ l) turns p → can_be_served n p x ≡ false → Ahead n ps u l turns p
  passed_over x l turns p a e =
      record {
        placed = a.placed;
        urgent = a.urgent;
        named = λ i b s. by_eq x i (λ z. contra s (rw (← z) e)) (λ z. rw (names_head x i l z) at (a.named i b s));
        below = λ i m. a.below i (names_tail x i l m);
        enough = a.enough;
      }

  -- After a grant nobody else has come.
  grant_ahead : (x : ℕ) (l : List ℕ) (turns : ℕ) (p : Served) → Ahead n ps u (x ∷ l) (suc turns) p → can_be_served n p x ≡ true
      → Ahead n ps u l turns (grant_to x p)
  grant_ahead x l turns p a e =
      let b = a.below x (names_same x l) in
      record {
        placed = λ i c. grant_placed n p x e i (a.placed i c);
        urgent = λ i. grant_urgency n p x e ps i ∙ a.urgent i;
        named = λ i c s. by_eq x i (λ z. contra s (rw (← z) (granted_idle n p x e)))
            (λ z. rw (names_head x i l z) at (a.named i c (grants_help_nobody n p x i (a.placed x b) e s)));
        below = λ i m. a.below i (names_tail x i l m);
        enough = omega (arith, grant_fewer n p x b e, a.enough);
      }

  pass : (l : List ℕ) (turns : ℕ) (p : Served) → ascending u l ≡ true → Ahead n ps u l turns p → serve n ps turns p ≡ in_turn n l p
  unfolding in_turn ascending serve
  pass [] turns p o a =
      nobody_left n ps turns p (λ i b. by_bool (can_be_served n p i) (λ e. contra (a.named i b e) (unfold names in refl)) (λ e. e))
  pass (x ∷ l) turns p o a =
      let d = both (every (λ y. ltb (u x) (u y)) l) (ascending u l) o in
      by_bool (can_be_served n p x) (λ e. rw e (granted turns d.0 e a (λ t q b. pass l t q d.1 b)))
      (λ e. rw e (pass l turns p d.1 (passed_over x l turns p a e)))
    where
      granted : (turns : ℕ) → every (λ y. ltb (u x) (u y)) l ≡ true → can_be_served n p x ≡ true → Ahead n ps u (x ∷ l) turns p
          → ((t : ℕ) (q : Served) → Ahead n ps u l t q → serve n ps t q ≡ in_turn n l q) → serve n ps turns p ≡ in_turn n l (grant_to x p)
      granted zero f e a ih = contra e (none_waits n p a.enough x (a.below x (names_same x l)))
      granted (suc t) f e a ih = rw (first_next x l (suc t) p a f e, serve) (ih t (grant_to x p) (grant_ahead x l t p a e))

pub serves_in_one_pass : ServesInOnePass
serves_in_one_pass n ps p l h b =
    pass n ps (urgency ps p.tasks) l n p b.order
    (record { placed = h; urgent = λ i. refl; named = λ i c s. b.all i c; below = b.only; enough = waiters_le n p.tasks })

-- ---- every call

-- Lists of declared bolts have places.
served_placed : (day : ℕ) (k : State) → StateOk day k → (p : Served) → ServedOk day k p → (i : ℕ) → i < k.counts.tasks → Placed p i
served_placed day k h p o i l r =
    let t = task_at p.tasks i in
    let q = wanted_proper day k h p o i l (rw r) in
    every_more k.counts.bolts (length p.locks.bolts) (wanted t) (rw r at q.room) (rw r at q.below)

pub calls_serve_in_one_pass : CallsServeInOnePass
unfolding finish declares
calls_serve_in_one_pass day is_day k p s o c a d l b =
    let h = ok_of_passes day k p in
    let byte = opened_priority s c.head o (ap (λ r. r.answer) a.opens) in
    let done = call_done day is_day k h c (omega arith) d (passed day k c (no_refusal day k s c a)) in
    let start = unserved_ok day k h (work_of day k c) (did_ok day k h done) in
    rw (step_work day k s c a (sort_of c.head.mark) refl d)
    (serves_in_one_pass k.counts.tasks k.places (unserved (work_of day k c)) l (served_placed day k h (unserved (work_of day k c)) start) b)
