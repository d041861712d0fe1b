-- What a grant takes and what is given back, for values, writers and readers alike.
use mathlib.Core.Path.{◌≡◌, refl, sym, ap}
use mathlib.Core.Logic.{◌≢◌}
use mathlib.Core.Bool.{Bool, true, false, not, ◌&&◌, and-true, and-false}
use mathlib.Core.List.{List}
use Prim.Native.Nat.{ℕ, ◌+◌, ◌-◌, ◌≤◌, ◌<◌}
use native.Mathlib.Omega.{arith}
use lib.Dec.{ltb, eqb}
use lib.ListN.{length, length-set}
use lib.Seq.{get_or-set_same, get_or-set_other}
use borrow.Author.Tests.{ltb-true, eq-eqb, ne_eqb, not-true}
use Rattle.lists.specs.Lists.{distinct, every}
use Rattle.record.specs.Refusals.{most_value}
use Rattle.lock.specs.declared.Way.{Way}
use Rattle.lock.specs.declared.Way.TheVariants.{Take, Give}
use Rattle.lock.specs.declared.Wait.{Wait}
use Rattle.lock.specs.declared.Wait.TheVariants.{Nothing, Request, Reserve, Enter}
use Rattle.lock.specs.declared.Bolt.{Bolt}
use Rattle.lock.specs.declared.Locks.{Locks}
use Rattle.lock.specs.Locks.{empty_bolt, value_at, bolt_at, with_value, with_bolt, bit, same_kind, level, can_move, move_one}
use Rattle.lock.specs.Promises.{SameAt}
use Rattle.facts.proofs.Bools.{by_eq, contra, both}
use Rattle.lock.proofs.Changes.{move_cases, move_local}
use Rattle.lock.proofs.Bits.{bit_le}

-- Lists that count the same are of one kind.
pub same_kind_law : (v w : Wait) → same_kind v w ≡ true → v ≡ w
same_kind_law Nothing w e = contra e refl
same_kind_law Request Nothing e = contra e refl
same_kind_law Request Request e = refl
same_kind_law Request Reserve e = contra e refl
same_kind_law Request Enter e = contra e refl
same_kind_law Reserve Nothing e = contra e refl
same_kind_law Reserve Request e = contra e refl
same_kind_law Reserve Reserve e = refl
same_kind_law Reserve Enter e = contra e refl
same_kind_law Enter Nothing e = contra e refl
same_kind_law Enter Request e = contra e refl
same_kind_law Enter Reserve e = contra e refl
same_kind_law Enter Enter e = refl

-- a is the level after g grants and r returns, b the level before.
abbrev pub Law : Wait → ℕ → ℕ → ℕ → ℕ → Type 0
Law Nothing a g r b = Unit {0}
Law Request a g r b = a + g ≡ b + r
Law Reserve a g r b = a + r ≡ b + g
Law Enter a g r b = a + r ≡ b + g

pub law_refl : (v : Wait) (a : ℕ) → Law v a 0 0 a
law_refl Nothing a = tt
law_refl Request a = refl
law_refl Reserve a = refl
law_refl Enter a = refl

pub law_trans : (v : Wait) (a b c g r g' r' : ℕ) → Law v b g r a → Law v c g' r' b → Law v c (g + g') (r + r') a
law_trans Nothing a b c g r g' r' p q = tt
law_trans Request a b c g r g' r' p q = omega arith
law_trans Reserve a b c g r g' r' p q = omega arith
law_trans Enter a b c g r g' r' p q = omega arith

-- The same after n numbers moved one way.
abbrev pub Moved : Way → Wait → ℕ → ℕ → ℕ → Type 0
Moved Take v a n b = Law v a n 0 b
Moved Give v a n b = Law v a 0 n b

moved_nothing : (way : Way) (a n b : ℕ) → Moved way Nothing a n b
moved_nothing Take a n b = tt
moved_nothing Give a n b = tt

pub moved_none : (way : Way) (v : Wait) (a : ℕ) → Moved way v a 0 a
moved_none Take v a = law_refl v a
moved_none Give v a = law_refl v a

pub moved_add : (way : Way) (v : Wait) (a b c n m : ℕ) → Moved way v b n a → Moved way v c m b → Moved way v c (n + m) a
moved_add Take v a b c n m p q = law_trans v a b c n 0 m 0 p q
moved_add Give v a b c n m p q = law_trans v a b c 0 n 0 m p q

-- How many places the table of a kind has.
abbrev pub places : Wait → Locks → ℕ
places Nothing r = 0
places Request r = length r.semaphores
places Reserve r = length r.bolts
places Enter r = length r.bolts

-- A list that names numbers below m, none twice, with room for m in the table of its kind.
pub record Proper (w : Wait) (m : ℕ) (r : Locks) (l : List ℕ) : Type 0 where
  pub room : m ≤ places w r
  pub once : distinct l ≡ true
  pub below : every (λ x. ltb x m) l ≡ true

-- Two tables of the same sizes.
pub record SameSize (r s : Locks) : Type 0 where
  pub semaphores : length s.semaphores ≡ length r.semaphores
  pub bolts : length s.bolts ≡ length r.bolts

pub size_refl : (r : Locks) → SameSize r r
size_refl r = record { semaphores = refl; bolts = refl }

pub size_value : (r : Locks) (x v : ℕ) → SameSize r (with_value r x v)
size_value r x v = record { semaphores = length-set r.semaphores x v; bolts = refl }

pub size_bolt : (r : Locks) (x : ℕ) (b : Bolt) → SameSize r (with_bolt r x b)
size_bolt r x b = record { semaphores = refl; bolts = length-set r.bolts x b }

pub size_move : (way : Way) (w : Wait) (r : Locks) (x : ℕ) → SameSize r (move_one way w r x)
size_move =
    move_cases (λ f. (r : Locks) (x : ℕ) → SameSize r (f r x)) (λ r x. size_refl r) (λ g r x. size_value r x _)
    (λ g r x. size_bolt r x _)

pub size_places : (w : Wait) (r s : Locks) → SameSize r s → places w s ≡ places w r
size_places Nothing r s h = refl
size_places Request r s h = h.semaphores
size_places Reserve r s h = h.bolts
size_places Enter r s h = h.bolts

-- ---- one number

pub value_same : (r : Locks) (x v : ℕ) → x < length r.semaphores → value_at (with_value r x v) x ≡ v
value_same r x v h = get_or-set_same r.semaphores x v 0 h

pub value_other : (r : Locks) (x v y : ℕ) → y ≢ x → value_at (with_value r x v) y ≡ value_at r y
value_other r x v y h = get_or-set_other r.semaphores x y v 0 h

pub bolt_same : (r : Locks) (x : ℕ) (b : Bolt) → x < length r.bolts → bolt_at (with_bolt r x b) x ≡ b
bolt_same r x b h = get_or-set_same r.bolts x b empty_bolt h

pub bolt_other : (r : Locks) (x : ℕ) (b : Bolt) (y : ℕ) → y ≢ x → bolt_at (with_bolt r x b) y ≡ bolt_at r y
bolt_other r x b y h = get_or-set_other r.bolts x y b empty_bolt h

abbrev pub bolt : Bool → ℕ → Bolt
bolt w n = record { writer = w; readers = n }

-- What a kind of wait looks at is the same, number y.
abbrev pub Same : Wait → Locks → Locks → ℕ → Type 0
Same Nothing r s y = Unit {0}
Same Request r s y = value_at r y ≡ value_at s y
Same Reserve r s y = bolt_at r y ≡ bolt_at s y
Same Enter r s y = bolt_at r y ≡ bolt_at s y

module _ (r s : Locks) (y : ℕ) where
  same_all : (w : Wait) → SameAt r s y → Same w r s y
  same_all Nothing h = tt
  same_all Request h = h.value
  same_all Reserve h = h.bolt
  same_all Enter h = h.bolt

  pub can_same : (way : Way) (w : Wait) → Same w r s y → can_move way w r y ≡ can_move way w s y
  unfolding can_move
  can_same Take Nothing h = refl
  can_same Take Request h = rw h
  can_same Take Reserve h = rw h
  can_same Take Enter h = rw h
  can_same Give Nothing h = refl
  can_same Give Request h = rw h
  can_same Give Reserve h = ap (λ (b : Bolt). b.writer) h
  can_same Give Enter h = rw h

  level_same : (v : Wait) → Same v r s y → level v r y ≡ level v s y
  unfolding level
  level_same Nothing h = refl
  level_same Request h = h
  level_same Reserve h = rw h
  level_same Enter h = ap (λ (b : Bolt). b.readers) h

-- One number moved: the other numbers stay as they were.
module _ (way : Way) (w : Wait) (r : Locks) (x y : ℕ) (h : y ≢ x) where
  pub can_stays : can_move way w (move_one way w r x) y ≡ can_move way w r y
  can_stays = can_same _ _ y way w (same_all _ _ y w ((move_local way w).elsewhere r x y h))

  level_stays : (v : Wait) → level v (move_one way w r x) y ≡ level v r y
  level_stays v = level_same _ _ y v (same_all _ _ y v ((move_local way w).elsewhere r x y h))

-- Its own level, by the kind v that counts.
here : (way : Way) (v w : Wait) (r : Locks) (x : ℕ) → x < places w r → can_move way w r x ≡ true
    → Moved way v (level v (move_one way w r x) x) (bit (same_kind v w)) (level v r x)
unfolding level move_one can_move
here way Nothing w r x l e = moved_nothing way _ _ _
here way Request Nothing r x l e = contra e refl
here way Reserve Nothing r x l e = contra e refl
here way Enter Nothing r x l e = contra e refl
here Take Request Request r x l e = rw (value_same r x (value_at r x - 1) l) (omega (arith, ltb-true 0 (value_at r x) e))
here Take Reserve Request r x l e = refl
here Take Enter Request r x l e = refl
here Take Request Reserve r x l e = refl
here Take Reserve Reserve r x l e =
    rw (bolt_same r x (bolt true (bolt_at r x).readers) l, not-true (bolt_at r x).writer (both _ _ e).0)
here Take Enter Reserve r x l e = omega (arith, ap (λ (b : Bolt). b.readers) (bolt_same r x (bolt true (bolt_at r x).readers) l))
here Take Request Enter r x l e = refl
here Take Reserve Enter r x l e = rw (bolt_same r x (bolt (bolt_at r x).writer ((bolt_at r x).readers + 1)) l)
here Take Enter Enter r x l e =
    omega (arith, ap (λ (b : Bolt). b.readers) (bolt_same r x (bolt (bolt_at r x).writer ((bolt_at r x).readers + 1)) l))
here Give Request Request r x l e = rw (value_same r x (value_at r x + 1) l) (omega arith)
here Give Reserve Request r x l e = refl
here Give Enter Request r x l e = refl
here Give Request Reserve r x l e = refl
here Give Reserve Reserve r x l e = rw (bolt_same r x (bolt false (bolt_at r x).readers) l, e)
here Give Enter Reserve r x l e = omega (arith, ap (λ (b : Bolt). b.readers) (bolt_same r x (bolt false (bolt_at r x).readers) l))
here Give Request Enter r x l e = refl
here Give Reserve Enter r x l e = rw (bolt_same r x (bolt (bolt_at r x).writer ((bolt_at r x).readers - 1)) l)
here Give Enter Enter r x l e =
    omega (arith, ap (λ (b : Bolt). b.readers) (bolt_same r x (bolt (bolt_at r x).writer ((bolt_at r x).readers - 1)) l), ltb-true 0 (bolt_at r x).readers e)

pub move_one_law : (way : Way) (v w : Wait) (r : Locks) (x y : ℕ) → x < places w r → can_move way w r x ≡ true
    → Moved way v (level v (move_one way w r x) y) (bit (same_kind v w && eqb x y)) (level v r y)
move_one_law way v w r x y l e =
    by_eq x y
    (λ q. rw (← q, eq-eqb x x refl, and-true) (here way v w r x l e))
    (λ q. rw (ne_eqb x y q, and-false, level_stays way w r x y (λ z. q (sym z)) v) (moved_none way v (level v r y)))

-- No level passes the most.
most_here : (way : Way) (v w : Wait) (r : Locks) (x : ℕ) → x < places w r → can_move way w r x ≡ true → level v r x ≤ most_value
    → level v (move_one way w r x) x ≤ most_value
unfolding level can_move
most_here way Nothing w r x l e b = omega arith
most_here way Reserve w r x l e b = omega (arith, bit_le (bolt_at (move_one way w r x) x).writer)
most_here Take Request w r x l e b = omega (arith, here Take Request w r x l e)
most_here Take Enter Nothing r x l e b = omega (arith, here Take Enter Nothing r x l e)
most_here Take Enter Request r x l e b = omega (arith, here Take Enter Request r x l e)
most_here Take Enter Reserve r x l e b = omega (arith, here Take Enter Reserve r x l e)
most_here Take Enter Enter r x l e b =
    omega (arith, here Take Enter Enter r x l e, ltb-true (bolt_at r x).readers most_value (both (not (bolt_at r x).writer) _ e).1)
most_here Give Enter w r x l e b = omega (arith, here Give Enter w r x l e)
most_here Give Request Nothing r x l e b = omega (arith, here Give Request Nothing r x l e)
most_here Give Request Reserve r x l e b = omega (arith, here Give Request Reserve r x l e)
most_here Give Request Enter r x l e b = omega (arith, here Give Request Enter r x l e)
most_here Give Request Request r x l e b =
    omega (arith, here Give Request Request r x l e, ltb-true (value_at r x) most_value e)

pub most_one : (way : Way) (v w : Wait) (y : ℕ) (r : Locks) (x : ℕ) → x < places w r → can_move way w r x ≡ true → level v r y ≤ most_value
    → level v (move_one way w r x) y ≤ most_value
most_one way v w y r x l e b =
    by_eq y x (λ q. rw q (most_here way v w r x l e (rw q at b))) (λ q. rw (level_stays way w r x y q v) b)
