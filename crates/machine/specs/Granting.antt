-- What could be granted.
use Rattle.std.specs.Prelude.{Bool, not, ◌&&◌, ◌||◌, List, ℕ, leb}
use Rattle.lists.specs.Lists.{names, every}
use Rattle.lock.specs.Locks.{waiting, same_kind, is_free}
use Rattle.lock.specs.declared.Wait.{Wait}
use Rattle.lock.specs.declared.Wait.TheVariants.{Reserve, Enter}
use Rattle.lock.specs.declared.Locks.{Locks}
use Rattle.task.specs.State.{wanted}
use Rattle.task.specs.declared.Task.{Task}
use Rattle.machine.specs.Sums.{all_below}
use Rattle.machine.specs.State.{task_at}

-- A task waits, held or not, in a RESERVE that names bolt x, and its priority number is q or smaller.
abbrev pub goes_before : ℕ → ℕ → Task → Bool
goes_before q x t = same_kind t.wait Reserve && leb t.current q && names (wanted t) x

-- Of n tasks, none that waits in a RESERVE goes before a reader of bolt x at priority q.
unfoldable pub unopposed : ℕ → List Task → ℕ → ℕ → Bool
unopposed n ts q x = all_below n (λ i. not (goes_before q x (task_at ts i)))

-- Number x of the kind w is there for one who asks at priority q, with n tasks declared: free, and for an ENTER no
-- writer goes before.
unfoldable pub available : ℕ → List Task → Locks → ℕ → Wait → ℕ → Bool
available n ts r q w x = is_free w r x && (not (same_kind w Enter) || unopposed n ts q x)

-- A list of the kind w, asked for at priority q, could be granted: all of it is there.
unfoldable pub could_be_granted : ℕ → List Task → Locks → ℕ → Wait → List ℕ → Bool
could_be_granted n ts r q w l = every (available n ts r q w) l

-- Task i waits on a list that could be granted.
abbrev pub servable : ℕ → List Task → Locks → ℕ → Bool
servable n ts r i =
    waiting (task_at ts i).wait
    && could_be_granted n ts r (task_at ts i).current (task_at ts i).wait (wanted (task_at ts i))
