-- The order of events: when a task has one, and where it stands after it.
use Rattle.std.specs.Prelude.{Bool, not, cond, ◌&&◌, ◌||◌, List, map, ℕ, zero, suc, ◌-◌, ltb, set}
use Rattle.lock.specs.Locks.{waiting}
use Rattle.task.specs.State.{runnable}
use Rattle.task.specs.declared.Task.{Task}
use Rattle.machine.specs.Sets.{holds}
use Rattle.machine.specs.State.{task_at, place_at}

-- An event of task i in a call: it is runnable and was not before the call, or was started in it; or its wait began.
unfoldable pub event : List Task → List Task → ℕ → ℕ → Bool
event before after started i =
    (runnable (task_at after i) && (not (runnable (task_at before i)) || holds i started))
    || (waiting (task_at after i).wait && not (waiting (task_at before i).wait))

-- Behind the place p one moves up.
abbrev pub close_up : ℕ → ℕ → ℕ
close_up p q = cond (ltb p q) (q - 1) q

-- Task i goes to the last of n places, and those behind it close up.
unfoldable pub to_end : ℕ → ℕ → List ℕ → List ℕ
to_end n i ps = set (map (close_up (place_at ps i)) ps) i (n - 1)

-- Of the tasks below m those with an event go to the last of n places, in order of number.
unfoldable pub moved_below : ℕ → (ℕ → Bool) → ℕ → List ℕ → List ℕ
moved_below n e zero ps = ps
moved_below n e (suc m) ps = let qs = moved_below n e m ps in cond (e m) (to_end n m qs) qs

-- All n tasks that have one do.
abbrev pub moved : ℕ → (ℕ → Bool) → List ℕ → List ℕ
moved n e ps = moved_below n e n ps

-- Whether task i goes before j then: both with an event by number, one with an event behind one without, and else as before.
abbrev pub stands_before : (ℕ → Bool) → List ℕ → ℕ → ℕ → Bool
stands_before e ps i j = cond (e i) (e j && ltb i j) (e j || ltb (place_at ps i) (place_at ps j))
