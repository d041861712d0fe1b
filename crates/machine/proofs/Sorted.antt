-- The tasks can be listed by urgency: one after the other is put in its place.
use mathlib.Core.Path.{◌≡◌, refl}
use mathlib.Core.Logic.{◌≢◌}
use mathlib.Core.Bool.{Bool, true, false, ◌||◌, cond}
use mathlib.Core.List.{List, [], ◌∷◌}
use Prim.Native.Nat.{ℕ, zero, suc, ◌≤◌, ◌<◌}
use native.Mathlib.Nat.{not-suc-le-zero}
use native.Mathlib.Omega.{arith}
use lib.Dec.{ltb, eqb}
use borrow.Author.Tests.{ltb-true, ltb-false, lt-ltb}
use Rattle.lists.specs.Lists.{names, every}
use Rattle.facts.proofs.Bools.{by_bool, by_eq, contra, both, and_both}
use Rattle.lists.proofs.EveryLaws.{names_head, names_same, every_at, every_then, names_tail, every_from}
use Rattle.task.specs.declared.Task.{Task}
use Rattle.machine.specs.State.{most_tasks}
use Rattle.machine.specs.Running.{urgency}
use Rattle.machine.specs.OnePass.{ascending, ByUrgency, OrderExists}
use Rattle.machine.proofs.Places.{Apart, apart_of}

module _ (u : ℕ → ℕ) where
  insert : ℕ → List ℕ → List ℕ
  insert x [] = x ∷ []
  insert x (y ∷ l) = cond (ltb (u x) (u y)) (x ∷ y ∷ l) (y ∷ insert x l)

  sorted : ℕ → List ℕ
  sorted zero = []
  sorted (suc n) = insert n (sorted n)

or_swap : (a b c : Bool) → (a || (b || c)) ≡ (b || (a || c))
or_swap true true c = refl
or_swap true false c = refl
or_swap false b c = refl

module _ (u : ℕ → ℕ) where
  insert_names : (x : ℕ) (l : List ℕ) (i : ℕ) → names (insert u x l) i ≡ names (x ∷ l) i
  unfolding names insert
  insert_names x [] i = refl
  insert_names x (y ∷ l) i =
      by_bool (ltb (u x) (u y)) (λ e. rw e) (λ e. rw (e, insert_names x l i) (or_swap (eqb y i) (eqb x i) (names l i)))

  insert_order : (x : ℕ) (l : List ℕ) → ((y : ℕ) → names l y ≡ true → u x ≢ u y) → ascending u l ≡ true → ascending u (insert u x l) ≡ true
  unfolding ascending every insert
  insert_order x [] h o = refl
  insert_order x (y ∷ l) h o =
      let d = both (every (λ z. ltb (u y) (u z)) l) (ascending u l) o in
      by_bool (ltb (u x) (u y))
      (λ e. let lt = ltb-true (u x) (u y) e in
      rw (e, e) (and_both (every_then (λ z. ltb (u y) (u z)) (λ z. ltb (u x) (u z)) l (λ z q. lt-ltb (u x) (u z) (omega (arith, ltb-true (u y) (u z) q))) d.0) o))
      (λ e. let le = ltb-false (u x) (u y) e in
      let ne = h y (names_same y l) in
      rw e (and_both
      (every_from (λ z. ltb (u y) (u z)) (insert u x l)
      (λ z m. by_eq x z (λ q. rw (← q) (lt-ltb (u y) (u x) (omega arith)))
      (λ q. every_at (λ (z : ℕ). ltb (u y) (u z)) l z d.0 (rw (insert_names x l z, names_head x z l q) at m))))
      (insert_order x l (λ z m. h z (names_tail y z l m)) d.1)))

-- No two tasks that have places of their own are as urgent as each other.
pub urgency_apart : (n : ℕ) (ps : List ℕ) (ts : List Task) → n ≤ most_tasks → Apart n ps → (i j : ℕ) → i < n → j < n
    → urgency ps ts i ≡ urgency ps ts j → i ≡ j
unfolding urgency
urgency_apart n ps ts h a i j l m e = a.apart i j l m (omega (arith, a.range i l, a.range j m, e))

module _ (most : ℕ) (ps : List ℕ) (ts : List Task) (small : most ≤ most_tasks) (a : Apart most ps) where
  listed : (n : ℕ) → n ≤ most → ByUrgency n ps ts (sorted (urgency ps ts) n)
  unfolding sorted
  listed zero h =
      record { all = λ i l. absurd (not-suc-le-zero l); only = λ i m. contra m (unfold names in refl); order = unfold ascending in refl }
  listed (suc n) h =
      let u = urgency ps ts in
      let s = sorted u n in
      let b = listed n (omega arith) in
      record {
        all = λ i l. rw (insert_names u n s i) (by_eq n i (λ q. rw (← q) (names_same n s)) (λ q. names_tail n i s (b.all i (omega arith))));
        only = λ i m. by_eq n i (λ q. omega arith)
            (λ q. let z = b.only i (rw (insert_names u n s i, names_head n i s q) at m) in omega arith);
        order = insert_order u n s (λ y m. let z = b.only y m in λ e. let q = urgency_apart most ps ts small a n y (omega arith) (omega arith) e in omega arith) b.order;
      }

pub order_exists : OrderExists
order_exists n ps ts h e = (sorted (urgency ps ts) n, listed n ps ts h (apart_of n ps e) n (omega arith))
