-- Taking makes no number free.
use mathlib.Core.Path.{◌≡◌, refl}
use mathlib.Core.Bool.{Bool, true, false, not, ◌&&◌}
use mathlib.Core.List.{List, [], ◌∷◌}
use Prim.Native.Nat.{ℕ, ◌+◌, ◌-◌, ◌<◌}
use native.Mathlib.Omega.{arith}
use lib.Dec.{ltb, eqb}
use lib.ListN.{length, get_or, set}
use lib.Seq.{get_or-set_same, get_or-set_other, set_out}
use borrow.Author.Tests.{ltb-true, ltb-false, lt-ltb, ne_eqb}
use Rattle.lists.specs.Lists.{names, every}
use Rattle.record.specs.Refusals.{most_value}
use Rattle.lock.specs.declared.Way.TheVariants.{Take}
use Rattle.lock.specs.declared.Wait.{Wait}
use Rattle.lock.specs.declared.Wait.TheVariants.{Nothing, Request, Reserve, Enter}
use Rattle.lock.specs.declared.Locks.{Locks}
use Rattle.lock.specs.Locks.{empty_bolt, bolt_at, can_move, move_one, for_each, is_free, take_all}
use Rattle.facts.proofs.Bools.{by_bool, by_eq, contra, both, and_both}
use Rattle.lists.proofs.EveryLaws.{every_parts}
use Rattle.lock.proofs.Levels.{size_move, bolt, bolt_same}

-- What a place passes after a change, it passed before, where that is so of each value.
place_passed : {A : Type 0} (d : A) (P : A → Bool) (g : A → A) → ((a : A) → P (g a) ≡ true → P a ≡ true)
    → (l : List A) (x y : ℕ) → P (get_or (set l x (g (get_or l x d))) y d) ≡ true → P (get_or l y d) ≡ true
place_passed d P g h l x y e =
    by_eq y x
    (λ q. by_bool (ltb x (length l))
    (λ z. rw q (h (get_or l x d) (rw (q, get_or-set_same l x (g (get_or l x d)) d (ltb-true x (length l) z)) at e)))
    (λ z. rw (set_out l x (g (get_or l x d)) (ltb-false x (length l) z)) at e))
    (λ q. rw (get_or-set_other l x y (g (get_or l x d)) d q) at e)

-- A number that is free after one was taken was free before.
one_frees : (v w : Wait) (r : Locks) (x y : ℕ) → is_free v (move_one Take w r x) y ≡ true → is_free v r y ≡ true
unfolding can_move move_one
one_frees Nothing w r x y e = contra e refl
one_frees Request Nothing r x y e = e
one_frees Request Request r x y e =
    place_passed 0 (λ n. ltb 0 n) (λ n. n - 1) (λ n p. lt-ltb 0 n (omega (arith, ltb-true 0 (n - 1) p))) r.semaphores x y e
one_frees Request Reserve r x y e = e
one_frees Request Enter r x y e = e
one_frees Reserve Nothing r x y e = e
one_frees Reserve Request r x y e = e
one_frees Reserve Reserve r x y e =
    place_passed empty_bolt (λ b. not b.writer && eqb b.readers 0) (λ b. bolt true b.readers) (λ b p. contra p refl) r.bolts x y e
one_frees Reserve Enter r x y e =
    place_passed empty_bolt (λ b. not b.writer && eqb b.readers 0) (λ b. bolt b.writer (b.readers + 1))
    (λ b p. contra (both (not b.writer) (eqb (b.readers + 1) 0) p).1 (ne_eqb (b.readers + 1) 0 (λ z. omega arith))) r.bolts x y e
one_frees Enter Nothing r x y e = e
one_frees Enter Request r x y e = e
one_frees Enter Reserve r x y e =
    place_passed empty_bolt (λ b. not b.writer && ltb b.readers most_value) (λ b. bolt true b.readers) (λ b p. contra p refl) r.bolts x y e
one_frees Enter Enter r x y e =
    place_passed empty_bolt (λ b. not b.writer && ltb b.readers most_value) (λ b. bolt b.writer (b.readers + 1))
    (λ b p. let q = both (not b.writer) (ltb (b.readers + 1) most_value) p in
    and_both q.0 (lt-ltb b.readers most_value (omega (arith, ltb-true (b.readers + 1) most_value q.1)))) r.bolts x y e

-- So it is after a list was taken.
pub taking_frees : (v w : Wait) (l : List ℕ) (r : Locks) (y : ℕ) → is_free v (take_all w r l) y ≡ true → is_free v r y ≡ true
unfolding for_each
taking_frees v w [] r y e = e
taking_frees v w (x ∷ l) r y e = one_frees v w r x y (taking_frees v w l (move_one Take w r x) y e)

-- A bolt that was reserved can't be entered.
shut_one : (r : Locks) (x : ℕ) → x < length r.bolts → is_free Enter (move_one Take Reserve r x) x ≡ false
unfolding can_move move_one
shut_one r x l = rw (bolt_same r x (bolt true (bolt_at r x).readers) l)

pub reserved_shut : (l : List ℕ) (r : Locks) (x : ℕ) → every (λ y. ltb y (length r.bolts)) l ≡ true → names l x ≡ true
    → is_free Enter (take_all Reserve r l) x ≡ false
unfolding for_each names
reserved_shut [] r x p n = contra n refl
reserved_shut (y ∷ l) r x p n =
    let h = every_parts (λ (y : ℕ). ltb y (length r.bolts)) y l p in
    let s = move_one Take Reserve r y in
    by_eq y x
    (λ q. by_bool (is_free Enter (take_all Reserve s l) x)
    (λ e. contra (rw (← q) at (taking_frees Enter Reserve l s x e)) (shut_one r y (ltb-true y (length r.bolts) h.0))) (λ e. e))
    (λ q. reserved_shut l s x (rw (size_move Take Reserve r y).bolts h.1) (rw (ne_eqb y x q) at n))
