-- Slips that document 01 shuts out, each by a script that would answer otherwise. Half a list taken and a start kept
-- back that counts as made are M8 and M5. Proved in proofs/Slips.antt.
use Rattle.std.specs.Prelude.{None, Some, ◌≡◌, List, [], ◌∷◌, ◌++◌, ℕ}
use Rattle.lock.specs.Locks.{value_at}
use Rattle.machine.specs.Scripts.{row, declare_task, declare_semaphore, declare_interrupt, activate, terminate, request, release, try, enable, trigger, one_tick, WHEN◌AFTER◌ACTIVATE◌}
use Rattle.machine_cases.specs.Marked.{answers, after, line, quiet}

-- A task that ends while it holds a semaphore.
abbrev pub died : List (List ℕ)
died = declare_task 5 ∷ declare_semaphore 1 ∷ activate 0 ∷ request (0 ∷ []) ∷ terminate 0 ∷ []

pub record SlipsShutOut : Type 0 where
  -- What a dead task requested is not given back.
  pub not_freed : value_at (after died).locks 0 ≡ 0
  -- A trigger replaces a delay of 5 that runs since 3 ticks: due 8 ticks after the first trigger, and only then.
  pub not_added : answers
      (declare_task 5 ∷ declare_interrupt ∷ enable 0 ∷ (WHEN 0 AFTER 5 ACTIVATE 0)
      ∷ trigger 0 ∷ row 3 one_tick ++ trigger 0 ∷ row 20 one_tick)
      ≡ row 8 (quiet None) ++ row 5 (quiet None) ++ line 0 (Some 0) 1 1 0 0 0 ∷ row 15 (quiet (Some 0))
  -- One RELEASE of two semaphores serves both tasks that wait.
  pub all_served : answers
      (declare_task 5 ∷ declare_task 4 ∷ declare_task 3 ∷ declare_semaphore 0 ∷ declare_semaphore 0
      ∷ activate 1 ∷ request (0 ∷ []) ∷ activate 2 ∷ request (1 ∷ []) ∷ activate 0 ∷ release (0 ∷ 1 ∷ []) ∷ [])
      ≡ row 5 (quiet None)
      ++ line 0 (Some 1) 2 2 0 0 0
      ∷ quiet None
      ∷ line 0 (Some 2) 4 4 0 0 0
      ∷ quiet None
      ∷ line 0 (Some 0) 1 1 0 0 0
      ∷ line 0 (Some 2) 0 0 0 0 6
      ∷ []
  -- A TRY that fails goes on.
  pub no_wait : answers (declare_task 5 ∷ declare_semaphore 0 ∷ activate 0 ∷ try 0 ∷ [])
      ≡ quiet None ∷ quiet None ∷ line 0 (Some 0) 1 1 0 0 0 ∷ quiet (Some 0) ∷ []
