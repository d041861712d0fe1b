-- Locks that are alike at the declared numbers pass the same tests there, and stay alike under every change.
use mathlib.Core.Path.{◌≡◌, ap}
use mathlib.Core.List.{List, [], ◌∷◌}
use Prim.Native.Nat.{ℕ, ◌≤◌, ◌<◌}
use Rattle.lock.specs.declared.Way.{Way}
use Rattle.lock.specs.declared.Wait.{Wait}
use Rattle.lock.specs.declared.Wait.TheVariants.{Nothing, Request, Reserve, Enter}
use Rattle.lock.specs.declared.Bolt.{Bolt}
use Rattle.lock.specs.declared.Locks.{Locks}
use Rattle.lock.specs.Locks.{empty_bolt, value_at, bolt_at, can_move, move_one, for_each, move_all}
use Rattle.lock.proofs.Changes.{on_value, on_bolt, move_cases}
use Rattle.lock.proofs.Levels.{Same, can_same}
use Rattle.facts.proofs.Tables.{Like, like_set}

-- How many numbers of a kind are declared, of s semaphores and b bolts.
abbrev pub below : ℕ → ℕ → Wait → ℕ
below s b Nothing = 0
below s b Request = s
below s b Reserve = b
below s b Enter = b

-- What is looked at: the first s semaphores and the first b bolts.
pub record Seen (s b : ℕ) (r r' : Locks) : Type 0 where
  pub values : (x : ℕ) → x < s → value_at r x ≡ value_at r' x
  pub bolts : (x : ℕ) → x < b → bolt_at r x ≡ bolt_at r' x

module _ (s b : ℕ) (r r' : Locks) (h : Seen s b r r') where
  looked : (w : Wait) (x : ℕ) → x < below s b w → Same w r r' x
  looked Nothing x l = tt
  looked Request x l = h.values x l
  looked Reserve x l = h.bolts x l
  looked Enter x l = h.bolts x l

  pub can_alike : (way : Way) (w : Wait) (x : ℕ) → x < below s b w → can_move way w r x ≡ can_move way w r' x
  can_alike way w x l = can_same r r' x way w (looked w x l)

-- Tables of as many places, ms and mb, that are alike there.
pub record Alike (ms mb s b : ℕ) (r r' : Locks) : Type 0 where
  pub semaphores : Like 0 ms s r.semaphores r'.semaphores
  pub bolts : Like empty_bolt mb b r.bolts r'.bolts

module _ (ms mb s b : ℕ) (ls : s ≤ ms) (lb : b ≤ mb) where
  pub seen : (r r' : Locks) → Alike ms mb s b r r' → Seen s b r r'
  seen r r' h = record { values = h.semaphores.below; bolts = h.bolts.below }

  -- A change keeps locks alike.
  abbrev Kept : (Locks → ℕ → Locks) → Type 0
  Kept f = (r r' : Locks) (x : ℕ) → Alike ms mb s b r r' → Alike ms mb s b (f r x) (f r' x)

  kept_value : (g : ℕ → ℕ) → Kept (on_value g)
  kept_value g r r' x h =
      record {
        semaphores = like_set 0 ms s r.semaphores r'.semaphores h.semaphores ls x _ _ (λ l. ap g (h.semaphores.below x l));
        bolts = h.bolts;
      }

  kept_bolt : (g : Bolt → Bolt) → Kept (on_bolt g)
  kept_bolt g r r' x h =
      record {
        semaphores = h.semaphores;
        bolts = like_set empty_bolt mb b r.bolts r'.bolts h.bolts lb x _ _ (λ l. ap g (h.bolts.below x l));
      }

  kept_each : (f : Locks → ℕ → Locks) → Kept f → (l : List ℕ) (r r' : Locks) → Alike ms mb s b r r' → Alike ms mb s b (for_each f r l) (for_each f r' l)
  unfolding for_each
  kept_each f k [] r r' h = h
  kept_each f k (x ∷ l) r r' h = kept_each f k l (f r x) (f r' x) (k r r' x h)

  pub move_alike : (way : Way) (w : Wait) (l : List ℕ) (r r' : Locks) → Alike ms mb s b r r' → Alike ms mb s b (move_all way w r l) (move_all way w r' l)
  move_alike way w = kept_each (move_one way w) (move_cases Kept (λ r r' x h. h) kept_value kept_bolt way w)
