-- Sets of tasks as numbers, in which task i counts 2^i.
use Rattle.std.specs.Prelude.{Bool, true, false, List, [], ◌∷◌, ℕ, ◌+◌, ◌*◌, ◌/◌, ◌%◌, ◌^◌, eqb}
use Rattle.std.specs.Int.Bits.{bit_or}
use Rattle.lock.specs.Locks.{bit}
use Rattle.task.specs.declared.Marks.{Marks}
use Rattle.machine.specs.declared.Sets.{Sets}

-- 1 where task i is in the set n, else 0.
unfoldable pub has : ℕ → ℕ → ℕ
has i n = n / 2 ^ i % 2

-- Whether it is.
abbrev pub holds : ℕ → ℕ → Bool
holds i n = eqb (has i n) 1

-- Task i alone, or the empty set.
abbrev pub only : ℕ → Bool → ℕ
only i true = 2 ^ i
only i false = 0

-- The set n and task i.
abbrev pub put : ℕ → ℕ → ℕ
put i n = bit_or n (2 ^ i)

-- The places of a list that hold true.
unfoldable pub set_of : List Bool → ℕ
set_of [] = 0
set_of (b ∷ bs) = bit b + 2 * set_of bs

-- ---- the five sets of an answer

pub data Set : Type 0 where
  Due : Set
  Started : Set
  Ended : Set
  Lost : Set
  Granted : Set

-- The marks name a set.
abbrev pub mark : Set → Marks → Bool
mark Due m = m.due
mark Started m = m.started
mark Ended m = m.ended
mark Lost m = m.lost
mark Granted m = m.granted

-- The tasks in a set.
abbrev pub members : Set → Sets → ℕ
members Due s = s.due
members Started s = s.started
members Ended s = s.ended
members Lost s = s.lost
members Granted s = s.granted

-- Which of the sets have task i.
abbrev pub marks_of : ℕ → Sets → Marks
marks_of i s =
    record {
      due = holds i s.due;
      started = holds i s.started;
      ended = holds i s.ended;
      lost = holds i s.lost;
      granted = holds i s.granted;
    }

-- Five sets by one rule.
abbrev pub each_set : (Set → ℕ) → Sets
each_set f = record { due = f Due; started = f Started; ended = f Ended; lost = f Lost; granted = f Granted }

abbrev pub no_sets : Sets
no_sets = each_set (λ x. 0)

-- Task i alone, in the sets that its marks name.
abbrev pub only_in : ℕ → Marks → Sets
only_in i m = each_set (λ x. only i (mark x m))

-- With another set of grants.
abbrev pub with_granted : ℕ → Sets → Sets
with_granted g s = record { due = s.due; started = s.started; ended = s.ended; lost = s.lost; granted = g }
