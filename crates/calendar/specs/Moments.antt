-- Moments, each an instant or none: held against an instant, and the first of some.
use Rattle.std.specs.Prelude.{Option, None, Some, Bool, true, false, cond, ◌&&◌, ◌||◌, List, [], ◌∷◌, ℕ, eqb, leb, ltb}
use Rattle.calendar.specs.declared.Instant.{Instant}

-- When something comes: an instant, or never.
abbrev pub Moment : Type 0
Moment = Option Instant

-- The moment is n.
abbrev pub is_at : Instant → Moment → Bool
is_at n None = false
is_at n (Some m) = eqb m.0 n.0

-- One of them is n.
abbrev pub has_at : Instant → List Moment → Bool
has_at n [] = false
has_at n (m ∷ ms) = is_at n m || has_at n ms

-- n is earlier than the moment. Every instant is earlier than none.
abbrev pub earlier_than : Instant → Moment → Bool
earlier_than n None = true
earlier_than n (Some m) = ltb n.0 m.0

-- The same instant, or none both times.
abbrev pub same_moment : Moment → Moment → Bool
same_moment None None = true
same_moment None (Some n) = false
same_moment (Some m) None = false
same_moment (Some m) (Some n) = eqb m.0 n.0

-- It is an instant, and l at the latest.
abbrev pub comes_by : ℕ → Moment → Bool
comes_by l None = false
comes_by l (Some n) = leb n.0 l

-- Its instant, or n where it is none.
abbrev pub instant_or : Instant → Moment → Instant
instant_or n None = n
instant_or n (Some m) = m

-- The instant as a number, but at most l.
abbrev pub capped_at : ℕ → Moment → ℕ
capped_at l None = l
capped_at l (Some n) = cond (ltb n.0 l) n.0 l

-- The earlier of m and s, where m counts only if it is later than n.
abbrev pub sooner : Instant → Moment → Moment → Moment
sooner n None s = s
sooner n (Some m) s = cond (ltb n.0 m.0 && earlier_than m s) (Some m) s

-- The first of them that is later than n, or none.
unfoldable pub first_after : Instant → List Moment → Moment
first_after n [] = None
first_after n (m ∷ ms) = sooner n m (first_after n ms)
