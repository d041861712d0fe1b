-- Never a writer together with a reader: granting and giving back keep it.
use mathlib.Core.Path.{◌≡◌, refl}
use mathlib.Core.Bool.{true, false, not}
use mathlib.Core.List.{List}
use Prim.Native.Nat.{ℕ, ◌+◌, ◌-◌, ◌<◌}
use native.Mathlib.Omega.{arith}
use borrow.Author.Tests.{eqb-true, not-true}
use Rattle.lock.specs.declared.Way.{Way}
use Rattle.lock.specs.declared.Way.TheVariants.{Take, Give}
use Rattle.lock.specs.declared.Wait.{Wait}
use Rattle.lock.specs.declared.Wait.TheVariants.{Nothing, Request, Reserve, Enter}
use Rattle.lock.specs.declared.Bolt.{Bolt}
use Rattle.lock.specs.declared.Locks.{Locks}
use Rattle.lock.specs.Locks.{bolt_at, with_bolt, level, can_move, move_one, can_move_all, move_all}
use Rattle.facts.proofs.Bools.{by_eq, contra, both}
use Rattle.lock.proofs.Levels.{places, Proper, bolt, bolt_same, bolt_other}
use Rattle.lock.proofs.Taking.{move_keeps}
use Rattle.lock.proofs.Bits.{bit_one}

-- A bolt with a writer has no reader.
abbrev pub Alone : Bolt → Type 0
Alone b = b.writer ≡ true → b.readers ≡ 0

-- The first n bolts.
abbrev pub Exclusive : ℕ → Locks → Type 0
Exclusive n r = (x : ℕ) → x < n → Alone (bolt_at r x)

bolt_keeps : (n : ℕ) (r : Locks) (x : ℕ) (b : Bolt) → (Alone (bolt_at r x) → Alone b) → Exclusive n r → x < places Enter r → Exclusive n (with_bolt r x b)
bolt_keeps n r x b f e l y q =
    by_eq y x (λ z. rw (z, bolt_same r x b l) (f (e x (rw z at q)))) (λ z. rw (bolt_other r x b y z) (e y q))

move_alone : (n : ℕ) (way : Way) (w : Wait) (r : Locks) (x : ℕ) → x < places w r → can_move way w r x ≡ true → Exclusive n r → Exclusive n (move_one way w r x)
unfolding can_move move_one
move_alone n Take Nothing r x l t e = e
move_alone n Take Request r x l t e = e
move_alone n Take Reserve r x l t e =
    bolt_keeps n r x (bolt true (bolt_at r x).readers) (λ a z. eqb-true (bolt_at r x).readers 0 (both (not (bolt_at r x).writer) _ t).1) e l
move_alone n Take Enter r x l t e =
    bolt_keeps n r x (bolt (bolt_at r x).writer ((bolt_at r x).readers + 1)) (λ a z. contra z (not-true (bolt_at r x).writer (both (not (bolt_at r x).writer) _ t).0)) e l
move_alone n Give Nothing r x l t e = e
move_alone n Give Request r x l t e = e
move_alone n Give Reserve r x l t e = bolt_keeps n r x (bolt false (bolt_at r x).readers) (λ a z. contra z refl) e l
move_alone n Give Enter r x l t e =
    bolt_keeps n r x (bolt (bolt_at r x).writer ((bolt_at r x).readers - 1)) (λ a z. omega (arith, a z)) e l

pub move_exclusive : (n : ℕ) (way : Way) (w : Wait) (m : ℕ) (l : List ℕ) (r : Locks) → Proper w m r l → can_move_all way w r l ≡ true → Exclusive n r → Exclusive n (move_all way w r l)
move_exclusive n way w m l r h g e = move_keeps way w m l r h g (Exclusive n) (move_alone n way w) e

-- In terms of levels.
pub exclusive_levels : (n : ℕ) (r : Locks) → Exclusive n r → (x : ℕ) → x < n → level Reserve r x ≡ 1 → level Enter r x ≡ 0
unfolding level
exclusive_levels n r e x l z = e x l (bit_one (bolt_at r x).writer z)
