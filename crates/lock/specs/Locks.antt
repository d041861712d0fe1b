-- Semaphores, writers and readers as one theory of locks, by the kind of wait (document 01, "The step").
use Rattle.std.specs.Prelude.{Bool, true, false, not, ◌&&◌, List, [], ◌∷◌, ℕ, ◌+◌, ◌-◌, get_or, set, ltb, eqb}
use Rattle.lists.specs.Lists.{every}
use Rattle.record.specs.Refusals.{most_value}
use Rattle.lock.specs.declared.Wait.{Wait}
use Rattle.lock.specs.declared.Wait.TheVariants.{Nothing, Request, Reserve, Enter}
use Rattle.lock.specs.declared.Way.{Way}
use Rattle.lock.specs.declared.Way.TheVariants.{Take, Give}
use Rattle.lock.specs.declared.Bolt.{Bolt}
use Rattle.lock.specs.declared.Locks.{Locks}

-- The places of the table of semaphores, and of that of bolts.
abbrev pub most_locks : ℕ
most_locks = 16

abbrev pub waiting : Wait → Bool
waiting Nothing = false
waiting Request = true
waiting Reserve = true
waiting Enter = true

-- Two lists count the same: values, writers or readers.
abbrev pub same_kind : Wait → Wait → Bool
same_kind Nothing w = false
same_kind Request Nothing = false
same_kind Request Request = true
same_kind Request Reserve = false
same_kind Request Enter = false
same_kind Reserve Nothing = false
same_kind Reserve Request = false
same_kind Reserve Reserve = true
same_kind Reserve Enter = false
same_kind Enter Nothing = false
same_kind Enter Request = false
same_kind Enter Reserve = false
same_kind Enter Enter = true

-- ---- one lock

-- A bolt with no writer and no reader.
abbrev pub empty_bolt : Bolt
empty_bolt = record { writer = false; readers = 0 }

abbrev pub value_at : Locks → ℕ → ℕ
value_at r x = get_or r.semaphores x 0

abbrev pub bolt_at : Locks → ℕ → Bolt
bolt_at r x = get_or r.bolts x empty_bolt

abbrev pub with_value : Locks → ℕ → ℕ → Locks
with_value r x v = record { semaphores = set r.semaphores x v; bolts = r.bolts }

abbrev pub with_bolt : Locks → ℕ → Bolt → Locks
with_bolt r x b = record { semaphores = r.semaphores; bolts = set r.bolts x b }

abbrev pub bit : Bool → ℕ
bit true = 1
bit false = 0

-- What a kind of wait counts: a semaphore's value, a bolt's writer, its readers.
unfoldable pub level : Wait → Locks → ℕ → ℕ
level Nothing r x = 0
level Request r x = value_at r x
level Reserve r x = bit (bolt_at r x).writer
level Enter r x = (bolt_at r x).readers

-- A number can be taken: REQUEST, RESERVE, ENTER. Or given back: RELEASE, FREE, LEAVE (else refusal 13, 14, 14).
unfoldable pub can_move : Way → Wait → Locks → ℕ → Bool
can_move way Nothing r x = false
can_move Take Request r x = ltb 0 (value_at r x)
can_move Take Reserve r x = not (bolt_at r x).writer && eqb (bolt_at r x).readers 0
can_move Take Enter r x = not (bolt_at r x).writer && ltb (bolt_at r x).readers most_value
can_move Give Request r x = ltb (value_at r x) most_value
can_move Give Reserve r x = (bolt_at r x).writer
can_move Give Enter r x = ltb 0 (bolt_at r x).readers

-- One number taken, or given back.
unfoldable pub move_one : Way → Wait → Locks → ℕ → Locks
move_one way Nothing r x = r
move_one Take Request r x = with_value r x (value_at r x - 1)
move_one Take Reserve r x = with_bolt r x (record { writer = true; readers = (bolt_at r x).readers })
move_one Take Enter r x = with_bolt r x (record { writer = (bolt_at r x).writer; readers = (bolt_at r x).readers + 1 })
move_one Give Request r x = with_value r x (value_at r x + 1)
move_one Give Reserve r x = with_bolt r x (record { writer = false; readers = (bolt_at r x).readers })
move_one Give Enter r x = with_bolt r x (record { writer = (bolt_at r x).writer; readers = (bolt_at r x).readers - 1 })

abbrev pub is_free : Wait → Locks → ℕ → Bool
is_free = can_move Take

abbrev pub returnable : Wait → Locks → ℕ → Bool
returnable = can_move Give

-- ---- a list of numbers

-- A change for each number of a list.
unfoldable pub for_each : (Locks → ℕ → Locks) → Locks → List ℕ → Locks
for_each f r [] = r
for_each f r (x ∷ l) = for_each f (f r x) l

-- A list goes whole or not at all.
abbrev pub can_move_all : Way → Wait → Locks → List ℕ → Bool
can_move_all way w r l = every (can_move way w r) l

abbrev pub move_all : Way → Wait → Locks → List ℕ → Locks
move_all way w r l = for_each (move_one way w) r l

-- Every number of the list is free.
abbrev pub all_free : Wait → Locks → List ℕ → Bool
all_free = can_move_all Take

abbrev pub take_all : Wait → Locks → List ℕ → Locks
take_all = move_all Take

abbrev pub give_all : Wait → Locks → List ℕ → Locks
give_all = move_all Give
