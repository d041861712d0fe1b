-- A whole list taken or given back.
use mathlib.Core.Path.{◌≡◌, ◌∙◌}
use mathlib.Core.Bool.{true, false, ◌&&◌}
use mathlib.Core.List.{List, [], ◌∷◌}
use Prim.Native.Nat.{ℕ, ◌≤◌, ◌<◌}
use native.Mathlib.Omega.{arith}
use lib.Dec.{ltb}
use borrow.Author.Tests.{ltb-true}
use Rattle.lists.specs.Lists.{names}
use Rattle.record.specs.Refusals.{most_value}
use Rattle.lock.specs.declared.Way.{Way}
use Rattle.lock.specs.declared.Wait.{Wait}
use Rattle.lock.specs.declared.Wait.TheVariants.{Reserve}
use Rattle.lock.specs.declared.Locks.{Locks}
use Rattle.lock.specs.Locks.{bolt_at, bit, same_kind, level, can_move, move_one, for_each, can_move_all, move_all}
use Rattle.lock.proofs.Bits.{bit_le, count_split, names_none}
use Rattle.lists.proofs.EveryLaws.{distinct_parts, every_parts, every_same}
use Rattle.lock.proofs.Levels.{Moved, moved_none, moved_add, places, Proper, SameSize, size_refl, size_places, size_move, can_stays, move_one_law, most_one}

-- The number that a list names, as a count.
abbrev pub counted : Wait → Wait → List ℕ → ℕ → ℕ
counted v w l y = bit (same_kind v w && names l y)

module _ (way : Way) (w : Wait) where
  pub move_size : (l : List ℕ) (r : Locks) → SameSize r (move_all way w r l)
  unfolding for_each
  move_size [] r = size_refl r
  move_size (x ∷ l) r =
      let a = size_move way w r x in
      let b = move_size l (move_one way w r x) in
      record { semaphores = b.semaphores ∙ a.semaphores; bolts = b.bolts ∙ a.bolts }

  -- The head and the rest of a list.
  parts : (m x : ℕ) (l : List ℕ) (r : Locks) → Proper w m r (x ∷ l) → can_move_all way w r (x ∷ l) ≡ true
      → (x < places w r) × (can_move way w r x ≡ true) × (names l x ≡ false) × Proper w m (move_one way w r x) l × (can_move_all way w (move_one way w r x) l ≡ true)
  parts m x l r h e =
      let d = distinct_parts x l h.once in
      let b = every_parts (λ (y : ℕ). ltb y m) x l h.below in
      let t = every_parts (can_move way w r) x l e in
      let lt = ltb-true x m b.0 in
      let room = h.room in (
        omega arith,
        t.0,
        d.0,
        record { room = rw (size_places w r (move_one way w r x) (size_move way w r x)) room; once = d.1; below = b.1 },
        every_same (can_move way w (move_one way w r x)) (can_move way w r) l x d.0 (can_stays way w r x) ∙ t.1,
      )

  keeps : (P : Locks → Type 0) → ((r : Locks) (x : ℕ) → x < places w r → can_move way w r x ≡ true → P r → P (move_one way w r x))
      → (m : ℕ) (l : List ℕ) (r : Locks) → Proper w m r l → can_move_all way w r l ≡ true → P r → P (move_all way w r l)
  unfolding for_each
  keeps P one m [] r h e p = p
  keeps P one m (x ∷ l) r h e p =
      let q = parts m x l r h e in
      keeps P one m l (move_one way w r x) q.3 q.4 (one r x q.0 q.1 p)

  law : (v : Wait) (m : ℕ) (l : List ℕ) (r : Locks) (y : ℕ) → Proper w m r l → can_move_all way w r l ≡ true
      → Moved way v (level v (move_all way w r l) y) (counted v w l y) (level v r y)
  unfolding for_each
  law v m [] r y h e = rw (names_none (same_kind v w) y) (moved_none way v (level v r y))
  law v m (x ∷ l) r y h e =
      let q = parts m x l r h e in
      rw (← count_split (same_kind v w) x y l q.2)
      (moved_add way v (level v r y) (level v (move_one way w r x) y) _ _ _ (move_one_law way v w r x y q.0 q.1) (law v m l (move_one way w r x) y q.3 q.4))

module _ (way : Way) (w : Wait) (m : ℕ) (l : List ℕ) (r : Locks) (h : Proper w m r l) (e : can_move_all way w r l ≡ true) where
  -- What one number moved keeps, a list does.
  pub move_keeps : (P : Locks → Type 0) → ((r : Locks) (x : ℕ) → x < places w r → can_move way w r x ≡ true → P r → P (move_one way w r x)) → P r → P (move_all way w r l)
  move_keeps P one p = keeps way w P one m l r h e p

  -- One grant or one return for each number named.
  pub move_law : (v : Wait) (y : ℕ) → Moved way v (level v (move_all way w r l) y) (counted v w l y) (level v r y)
  move_law v y = law way w v m l r y h e

  -- No level passes the most.
  pub move_most : (v : Wait) (y : ℕ) → level v r y ≤ most_value → level v (move_all way w r l) y ≤ most_value
  move_most v y b = move_keeps (λ s. level v s y ≤ most_value) (most_one way v w y) b

-- A writer is 0 or 1.
pub writer_le : (r : Locks) (x : ℕ) → level Reserve r x ≤ 1
unfolding level
writer_le r x = bit_le (bolt_at r x).writer
