-- The lines of text for the tasks that wait in a REQUEST of one semaphore.
use Rattle.std.specs.Prelude.{None, Some, List, [], ◌∷◌, ◌++◌, ℕ, zero, suc, ◌*◌}
use Rattle.lines.specs.Decimals.{decimal}
use Rattle.lines.specs.Lines.{space, line_feed}
use Rattle.machine.specs.State.{most_tasks}
use Rattle.machine.specs.declared.State.{State}
use Rattle.wait_bound.specs.Queue.{Bound, bound_of}
use Rattle.wait_bound.specs.declared.Releases.{Releases}

-- The task, the semaphore and the number of RELEASEs, as 3 0 2 and a line feed.
unfoldable pub wait_line : ℕ → Releases → List ℕ
wait_line i r = decimal i ++ space ∷ decimal r.semaphore ++ space ∷ decimal r.number ++ line_feed ∷ []

-- Nothing for a task that doesn't wait so.
unfoldable pub bound_text : ℕ → Bound → List ℕ
bound_text i None = []
bound_text i (Some r) = wait_line i r

-- The lines of the first n tasks, in order of their numbers.
unfoldable pub text_below : ℕ → State → List ℕ
text_below zero k = []
text_below (suc n) k = text_below n k ++ bound_text n (bound_of k n)

-- The lines of all tasks that the table has.
unfoldable pub wait_text : State → List ℕ
wait_text k = text_below most_tasks k

-- The room that a line asks for: more than three bytes as decimals, two spaces and a line feed take.
abbrev pub line_room : ℕ
line_room = 26

-- The room that the lines of all tasks ask for.
abbrev pub text_room : ℕ
text_room = most_tasks * line_room
