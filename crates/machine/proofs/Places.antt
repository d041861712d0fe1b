-- Laws of the order of events: who goes to the end stands behind all others, and the others keep their order.
use mathlib.Core.Path.{◌≡◌, refl, sym, ap, ◌∙◌}
use mathlib.Core.Logic.{◌≢◌}
use mathlib.Core.Bool.{Bool, true, false, not, ◌&&◌, ◌||◌, or-false}
use mathlib.Core.List.{List, map}
use Prim.Native.Nat.{ℕ, zero, suc, ◌+◌, ◌-◌, ◌≤◌, ◌<◌}
use native.Mathlib.Nat.{not-suc-le-zero}
use native.Mathlib.Omega.{arith}
use lib.Dec.{ltb, eqb}
use lib.ListN.{length, set, length-set, length-map, get_or-map}
use lib.Seq.{get_or-set_same, get_or-set_other, set_out}
use borrow.Author.Tests.{ltb-true, ltb-false, lt-ltb, le-ltb, eq-eqb, ne_eqb, not-true}
use Rattle.facts.proofs.Numbers.{ltb_alike}
use Rattle.facts.proofs.Tables.{Like}
use Rattle.facts.proofs.Bools.{by_bool, by_eq, contra, both, and_both, not_of_false}
use Rattle.lock.specs.Locks.{waiting}
use Rattle.task.specs.State.{unheld, runnable}
use Rattle.task.specs.declared.Task.{Task}
use Rattle.machine.specs.State.{place_at, task_at}
use Rattle.machine.specs.Sets.{holds}
use Rattle.machine.specs.Sums.{all_below}
use Rattle.machine.specs.Test.{places_ok}
use Rattle.machine.specs.Places.{close_up, to_end, moved_below, moved, stands_before, event}
use Rattle.machine.proofs.SetLaws.{has_empty}
use Rattle.machine.proofs.Below.{all_at, all_from}

-- n tasks have n places, each its own.
pub record Apart (n : ℕ) (ps : List ℕ) : Type 0 where
  pub range : (i : ℕ) → i < n → place_at ps i < n
  pub apart : (i j : ℕ) → i < n → j < n → place_at ps i ≡ place_at ps j → i ≡ j

-- ---- the kernel test of the places

module _ (n : ℕ) (ps : List ℕ) where
  abbrev free : ℕ → Bool
  free i = all_below i (λ j. not (eqb (place_at ps j) (place_at ps i)))

  below_differs : places_ok n ps ≡ true → (i j : ℕ) → i < n → j < i → place_at ps j ≢ place_at ps i
  unfolding places_ok
  below_differs e i j l m q =
      contra (eq-eqb _ _ q) (not-true _ (all_at i _ (both (ltb (place_at ps i) n) (free i) (all_at n _ e i l)).1 j m))

  pub apart_of : places_ok n ps ≡ true → Apart n ps
  unfolding places_ok
  apart_of e =
      record {
        range = λ i l. ltb-true _ _ (both (ltb (place_at ps i) n) (free i) (all_at n _ e i l)).0;
        apart = λ i j l m q. by_bool (ltb i j) (λ c. absurd (below_differs e j i m (ltb-true i j c) q))
            (λ c. by_eq i j (λ r. r) (λ r. let le = ltb-false i j c in absurd (below_differs e i j l (omega (arith, le, r)) (sym q))));
      }

  pub places_test : Apart n ps → places_ok n ps ≡ true
  unfolding places_ok
  places_test a =
      all_from n _ (λ i l. and_both (lt-ltb _ _ (a.range i l))
      (all_from i _ (λ j m. not_of_false _ (ne_eqb _ _ (λ q. let r = a.apart j i (omega arith) l q in omega arith)))))

-- One more task, at the place of its number.
pub added_apart : (n : ℕ) (ps : List ℕ) → Apart n ps → n < length ps → Apart (n + 1) (set ps n n)
added_apart n ps a room =
    let self = get_or-set_same ps n n 0 room in
    let other : (i : ℕ) → i ≢ n → place_at (set ps n n) i ≡ place_at ps i = λ i e. get_or-set_other ps n i n 0 e in
    record {
      range = λ i l. by_eq i n (λ e. rw (e, self) (omega arith)) (λ e. rw (other i e) (let z = a.range i (omega arith) in omega arith));
      apart = λ i j l m q. by_eq i n
          (λ e. by_eq j n (λ f. rw (e, f)) (λ f. let z = a.range j (omega arith) in absurd (omega (arith, rw (e, self, other j f) at q))))
          (λ e. by_eq j n (λ f. let z = a.range i (omega arith) in absurd (omega (arith, rw (f, self, other i e) at q)))
          (λ f. a.apart i j (omega arith) (omega arith) (rw (other i e, other j f) at q)));
    }

-- ---- one task goes to the end

close_behind : (p q : ℕ) → p < q → close_up p q ≡ q - 1
close_behind p q l = rw (lt-ltb p q l)

close_before : (p q : ℕ) → q ≤ p → close_up p q ≡ q
close_before p q l = rw (le-ltb p q l)

pub close_le : (p q : ℕ) → close_up p q ≤ q
close_le p q = by_bool (ltb p q) (λ e. rw e (omega arith)) (λ e. rw e (omega arith))

-- Closing up keeps the order of all who don't stand at p.
close_order : (p a b : ℕ) → a ≢ p → b ≢ p → ltb (close_up p a) (close_up p b) ≡ ltb a b
close_order p a b f g =
    by_bool (ltb p a)
    (λ x. let l = ltb-true p a x in by_bool (ltb p b)
    (λ y. let m = ltb-true p b y in rw (x, y) (ltb_alike (a - 1) (b - 1) a b (λ h. omega arith) (λ h. omega arith)))
    (λ y. let m = ltb-false p b y in rw (x, y) (ltb_alike (a - 1) b a b (λ h. absurd (g (omega arith))) (λ h. omega arith))))
    (λ x. let l = ltb-false p a x in by_bool (ltb p b)
    (λ y. let m = ltb-true p b y in rw (x, y) (ltb_alike a (b - 1) a b (λ h. omega arith) (λ h. by_eq a p (λ q. absurd (f q)) (λ q. omega arith))))
    (λ y. rw (x, y)))

-- They stay apart,
close_apart : (p a b : ℕ) → a ≢ p → b ≢ p → close_up p a ≡ close_up p b → a ≡ b
close_apart p a b f g q =
    by_bool (ltb a b)
    (λ e. contra (close_order p a b f g ∙ e) (le-ltb (close_up p a) (close_up p b) (omega (arith, q))))
    (λ e. by_bool (ltb b a)
    (λ z. contra (close_order p b a g f ∙ z) (le-ltb (close_up p b) (close_up p a) (omega (arith, q))))
    (λ z. omega (arith, ltb-false a b e, ltb-false b a z)))

-- and leave the last place free.
close_lower : (n p a : ℕ) → a ≢ p → a < n → p < n → close_up p a < n - 1
close_lower n p a f h k =
    by_bool (ltb p a) (λ e. let z = ltb-true p a e in rw e (omega arith))
    (λ e. let z = ltb-false p a e in rw e (by_eq a p (λ x. absurd (f x)) (λ x. omega arith)))

-- ---- n tasks fill n places

-- A map of the numbers below n into them that keeps them apart reaches each: without the last one, closed up, it does.
pub reached : (n : ℕ) (f : ℕ → ℕ) → ((i : ℕ) → i < n → f i < n) → ((i j : ℕ) → i < n → j < n → f i ≡ f j → i ≡ j)
    → (p : ℕ) → p < n → (i : ℕ) × (i < n) × (f i ≡ p)
reached zero f range apart p l = absurd (not-suc-le-zero l)
reached (suc n) f range apart p l =
    by_eq p (f n) (λ e. (n, omega arith, sym e))
    (λ e. let z = reached n (λ i. close_up q (f i)) (λ i m. lower (f i) (other i m) (range i (omega arith)))
    (λ i j m h x. apart i j (omega arith) (omega arith) (close_apart q (f i) (f j) (other i m) (other j h) x)) (close_up q p) (lower p e l) in
    (z.0, omega (arith, z.1), close_apart q (f z.0) p (other z.0 z.1) e z.2))
  where
    q : ℕ
    q = f n

    other : (i : ℕ) → i < n → f i ≢ f n
    other i m x = let y = apart i n (omega arith) (omega arith) x in omega arith

    lower : (a : ℕ) → a ≢ f n → a < suc n → close_up (f n) a < n
    lower a x m = let y = close_lower (suc n) (f n) a x m (range n (omega arith)) in omega arith

-- So one that has a way back keeps them apart.
pub filled_apart : (n : ℕ) (f g : ℕ → ℕ) → ((p : ℕ) → p < n → g p < n) → ((p : ℕ) → p < n → f (g p) ≡ p)
    → (i j : ℕ) → i < n → j < n → f i ≡ f j → i ≡ j
filled_apart n f g range back i j l m e =
    let reach = reached n g range (λ p q x y z. sym (back p x) ∙ ap f z ∙ back q y) in
    let a = reach i l in
    let b = reach j m in
    sym a.2 ∙ ap g (sym (back a.0 a.1) ∙ rw (a.2, b.2) e ∙ back b.0 b.1) ∙ b.2

-- ---- one task goes to the end

pub map_at : (p : ℕ) (ps : List ℕ) (j : ℕ) → place_at (map (close_up p) ps) j ≡ close_up p (place_at ps j)
map_at p ps j = rw (le-ltb p 0 (omega arith)) at (get_or-map (close_up p) ps j 0)

pub end_size : (n i : ℕ) (ps : List ℕ) → length (to_end n i ps) ≡ length ps
unfolding to_end
end_size n i ps = length-set (map (close_up (place_at ps i)) ps) i (n - 1) ∙ length-map ps (close_up (place_at ps i))

pub end_other : (n i : ℕ) (ps : List ℕ) (j : ℕ) → j ≢ i → place_at (to_end n i ps) j ≡ close_up (place_at ps i) (place_at ps j)
unfolding to_end
end_other n i ps j ne = get_or-set_other (map (close_up (place_at ps i)) ps) i j (n - 1) 0 ne ∙ map_at (place_at ps i) ps j

module _ (n i : ℕ) (ps : List ℕ) (l : i < n) (room : n ≤ length ps) where
  end_self : place_at (to_end n i ps) i ≡ n - 1
  unfolding to_end
  end_self = get_or-set_same (map (close_up (place_at ps i)) ps) i (n - 1) 0 (rw (length-map ps (close_up (place_at ps i))) (omega arith))

  module _ (a : Apart n ps) where
    elsewhere : (j : ℕ) → j < n → j ≢ i → place_at ps j ≢ place_at ps i
    elsewhere j m ne z = ne (a.apart j i m l z)

    end_lower : (j : ℕ) → j < n → j ≢ i → close_up (place_at ps i) (place_at ps j) < n - 1
    end_lower j m ne = close_lower n (place_at ps i) (place_at ps j) (elsewhere j m ne) (a.range j m) (a.range i l)

    pub end_apart : Apart n (to_end n i ps)
    end_apart =
        record {
          range = λ j m. by_eq j i (λ e. rw (e, end_self) (omega arith)) (λ e. rw (end_other n i ps j e) (let z = end_lower j m e in omega arith));
          apart = λ j h m k q. by_eq j i
              (λ e. by_eq h i (λ f. rw (e, f)) (λ f. let z = end_lower h k f in absurd (omega (arith, rw (e, end_self, end_other n i ps h f) at q))))
              (λ e. by_eq h i (λ f. let z = end_lower j m e in absurd (omega (arith, rw (f, end_self, end_other n i ps j e) at q)))
              (λ f. a.apart j h m k (close_apart (place_at ps i) (place_at ps j) (place_at ps h) (elsewhere j m e) (elsewhere h k f) (rw (end_other n i ps j e, end_other n i ps h f) at q))));
        }

    -- Those who stay keep their order,
    end_order : (j h : ℕ) → j < n → h < n → j ≢ i → h ≢ i → ltb (place_at (to_end n i ps) j) (place_at (to_end n i ps) h) ≡ ltb (place_at ps j) (place_at ps h)
    end_order j h m k e f =
        rw (end_other n i ps j e, end_other n i ps h f)
        (close_order (place_at ps i) (place_at ps j) (place_at ps h) (elsewhere j m e) (elsewhere h k f))

    -- and who goes stands behind them.
    end_last : (j : ℕ) → j < n → j ≢ i → ltb (place_at (to_end n i ps) j) (place_at (to_end n i ps) i) ≡ true
    end_last j m e = rw (end_other n i ps j e, end_self) (lt-ltb _ _ (end_lower j m e))

    end_after : (h : ℕ) → h < n → ltb (place_at (to_end n i ps) i) (place_at (to_end n i ps) h) ≡ false
    end_after h k =
        by_eq h i (λ e. rw e (le-ltb (place_at (to_end n i ps) i) (place_at (to_end n i ps) i) (omega arith)))
        (λ e. let z = end_lower h k e in rw (end_self, end_other n i ps h e) (le-ltb (n - 1) (close_up (place_at ps i) (place_at ps h)) (omega arith)))

-- It looks at no place beyond the first n.
end_like : (size n : ℕ) → n ≤ size → (i : ℕ) → i < n → (ps qs : List ℕ) → Like 0 size n ps qs → Like 0 size n (to_end n i ps) (to_end n i qs)
end_like size n r i l ps qs h =
    record {
      long = end_size n i ps ∙ h.long;
      long' = end_size n i qs ∙ h.long';
      below = λ j m. by_eq j i (λ e. rw (e, end_self n i ps l (omega (arith, h.long)), end_self n i qs l (omega (arith, h.long'))))
          (λ e. rw (end_other n i ps j e, end_other n i qs j e, h.below i l, h.below j m));
    }

-- ---- all that have an event

-- Of the tasks below m those with an event.
abbrev late : (ℕ → Bool) → ℕ → ℕ → Bool
late e m i = ltb i m && e i

late_more : (e : ℕ → Bool) (m i : ℕ) → i ≢ m → late e (suc m) i ≡ late e m i
late_more e m i ne = ap (λ b. b && e i) (ltb_alike i (suc m) i m (λ l. omega arith) (λ l. omega arith))

late_none : (e : ℕ → Bool) (m i : ℕ) → e m ≡ false → late e (suc m) i ≡ late e m i
late_none e m i f =
    by_eq i m (λ q. rw (q, f, le-ltb m m (omega arith)) (by_bool (ltb m (suc m)) (λ z. rw z) (λ z. rw z))) (λ q. late_more e m i q)

pub moved_size : (n : ℕ) (e : ℕ → Bool) (m : ℕ) (ps : List ℕ) → length (moved_below n e m ps) ≡ length ps
unfolding moved_below
moved_size n e zero ps = refl
moved_size n e (suc m) ps =
    by_bool (e m) (λ b. rw b (end_size n m (moved_below n e m ps) ∙ moved_size n e m ps)) (λ b. rw b (moved_size n e m ps))

module _ (n : ℕ) (e : ℕ → Bool) (ps : List ℕ) (a : Apart n ps) (room : n ≤ length ps) where
  record Placed (m : ℕ) (qs : List ℕ) : Type 0 where
    apart : Apart n qs
    order : (i j : ℕ) → i < n → j < n → ltb (place_at qs i) (place_at qs j) ≡ stands_before (late e m) ps i j

  placed_none : (m : ℕ) (qs : List ℕ) → e m ≡ false → Placed m qs → Placed (suc m) qs
  placed_none m qs f p = record { apart = p.apart; order = λ i j l h. rw (late_none e m i f, late_none e m j f) (p.order i j l h) }

  placed_one : (m : ℕ) (qs : List ℕ) → m < n → length qs ≡ length ps → e m ≡ true → Placed m qs → Placed (suc m) (to_end n m qs)
  placed_one m qs l z f p =
      record {
        apart = end_apart n m qs l r p.apart;
        order = λ i j h k. by_eq i m (λ x. rw x (first j k)) (λ x. by_eq j m (λ y. rw y (last i h x)) (λ y. both_stay i j h k x y));
      }
    where
      r : n ≤ length qs
      r = rw z room

      here : late e (suc m) m ≡ true
      here = rw (lt-ltb m (suc m) (omega arith), f)

      first : (j : ℕ) → j < n → ltb (place_at (to_end n m qs) m) (place_at (to_end n m qs) j) ≡ stands_before (late e (suc m)) ps m j
      first j k =
          rw (end_after n m qs l r p.apart j k, here)
          (by_bool (ltb m j) (λ x. let lt = ltb-true m j x in rw (le-ltb j (suc m) (omega arith)))
          (λ x. rw x (by_bool (ltb j (suc m) && e j) (λ y. rw y) (λ y. rw y))))

      last : (i : ℕ) → i < n → i ≢ m → ltb (place_at (to_end n m qs) i) (place_at (to_end n m qs) m) ≡ stands_before (late e (suc m)) ps i m
      last i h x =
          rw (end_last n m qs l r p.apart i h x, here)
          (by_bool (late e (suc m) i)
          (λ y. let lt = ltb-true i (suc m) (both (ltb i (suc m)) (e i) y).0 in rw (y, lt-ltb i m (omega (arith, lt, x))))
          (λ y. rw y))

      both_stay : (i j : ℕ) → i < n → j < n → i ≢ m → j ≢ m
          → ltb (place_at (to_end n m qs) i) (place_at (to_end n m qs) j) ≡ stands_before (late e (suc m)) ps i j
      both_stay i j h k x y =
          rw (end_order n m qs l r p.apart i j h k x y, late_more e m i x, late_more e m j y) (p.order i j h k)

  placed : (m : ℕ) → m ≤ n → Placed m (moved_below n e m ps)
  unfolding moved_below
  placed zero l = record { apart = a; order = λ i j h k. rw (le-ltb i 0 (omega arith), le-ltb j 0 (omega arith)) }
  placed (suc m) l =
      by_bool (e m) (λ b. rw b (placed_one m (moved_below n e m ps) l (moved_size n e m ps) b (placed m (omega arith))))
      (λ b. rw b (placed_none m (moved_below n e m ps) b (placed m (omega arith))))

  pub moved_apart : Apart n (moved n e ps)
  moved_apart = (placed n (omega arith)).apart

  pub moved_order : (i j : ℕ) → i < n → j < n → ltb (place_at (moved n e ps) i) (place_at (moved n e ps) j) ≡ stands_before e ps i j
  moved_order i j h k = rw (lt-ltb i n h, lt-ltb j n k) at ((placed n (omega arith)).order i j h k)

-- ---- what the move looks at

pub moved_alike : (n : ℕ) (e f : ℕ → Bool) (m : ℕ) (ps : List ℕ) → ((i : ℕ) → i < m → e i ≡ f i) → moved_below n e m ps ≡ moved_below n f m ps
unfolding moved_below
moved_alike n e f zero ps h = refl
moved_alike n e f (suc m) ps h = rw (h m (omega arith), moved_alike n e f m ps (λ i l. h i (omega arith)))

-- Places beyond the first n aren't looked at.
pub moved_like : (size n : ℕ) → n ≤ size → (e f : ℕ → Bool) (ps qs : List ℕ) → Like 0 size n ps qs → (m : ℕ) → m ≤ n → ((i : ℕ) → i < m → e i ≡ f i)
    → Like 0 size n (moved_below n e m ps) (moved_below n f m qs)
unfolding moved_below
moved_like size n r e f ps qs h zero l g = h
moved_like size n r e f ps qs h (suc m) l g =
    let ih = moved_like size n r e f ps qs h m (omega arith) (λ i k. g i (omega arith)) in
    rw (g m (omega arith)) (by_bool (f m) (λ b. rw b (end_like size n r m l (moved_below n e m ps) (moved_below n f m qs) ih)) (λ b. rw b ih))

-- Without an event nobody moves.
pub moved_nobody : (n : ℕ) (e : ℕ → Bool) (m : ℕ) (ps : List ℕ) → ((i : ℕ) → i < m → e i ≡ false) → moved_below n e m ps ≡ ps
unfolding moved_below
moved_nobody n e zero ps h = refl
moved_nobody n e (suc m) ps h = rw (h m (omega arith), moved_nobody n e m ps (λ i l. h i (omega arith)))

-- Numbers stay below any bound that the last place is below.
end_below : (n b m : ℕ) (qs : List ℕ) (i : ℕ) → n - 1 < b → place_at qs i < b → place_at (to_end n m qs) i < b
unfolding to_end
end_below n b m qs i h q =
    let rs = map (close_up (place_at qs m)) qs in
    let c = close_le (place_at qs m) (place_at qs i) in
    by_eq i m
    (λ x. by_bool (ltb m (length rs)) (λ z. rw (x, get_or-set_same rs m (n - 1) 0 (ltb-true _ _ z)) h)
    (λ z. rw (set_out rs m (n - 1) (ltb-false _ _ z), map_at (place_at qs m) qs i) (omega arith)))
    (λ x. rw (get_or-set_other rs m i (n - 1) 0 x, map_at (place_at qs m) qs i) (omega arith))

pub moved_below_law : (n b : ℕ) (e : ℕ → Bool) (m : ℕ) (ps : List ℕ) → n - 1 < b → (i : ℕ) → place_at ps i < b → place_at (moved_below n e m ps) i < b
unfolding moved_below
moved_below_law n b e zero ps h i q = q
moved_below_law n b e (suc m) ps h i q =
    by_bool (e m) (λ z. rw z (end_below n b m (moved_below n e m ps) i h (moved_below_law n b e m ps h i q))) (λ z. rw z (moved_below_law n b e m ps h i q))

-- ---- events

-- A task that stays as it is, and isn't started, has none.
pub no_event : (ts : List Task) (i : ℕ) → event ts ts 0 i ≡ false
unfolding event
no_event ts i = rw (has_empty i) (steady (runnable (task_at ts i)) (waiting (task_at ts i).wait))
  where
    steady : (r w : Bool) → ((r && (not r || false)) || (w && not w)) ≡ false
    steady true true = refl
    steady true false = refl
    steady false true = refl
    steady false false = refl

-- A task that is runnable has one if it wasn't before, or was started.
pub event_runnable : (ts us : List Task) (s i : ℕ) → runnable (task_at us i) ≡ true → event ts us s i ≡ (not (runnable (task_at ts i)) || holds i s)
unfolding event
event_runnable ts us s i e =
    let u = task_at us i in
    rw (e, not-true (waiting u.wait) (both (u.alive && unheld u.hold) (not (waiting u.wait)) e).1) (or-false (not (runnable (task_at ts i)) || holds i s))
