-- A waiting writer goes before new readers, in scripts that are worked out by hand, from byte records on a kernel in
-- which nothing is declared (request 2). Proved in proofs/Writers.antt.
use Rattle.std.specs.Prelude.{None, Some, ◌≡◌, true, List, [], ◌∷◌, ◌++◌, ℕ, set}
use Rattle.calendar.specs.Limits.{day_length}
use Rattle.lock.specs.Locks.{bolt_at}
use Rattle.task.specs.State.{with_current}
use Rattle.machine.specs.declared.State.{State}
use Rattle.machine.specs.declared.Answer.{Answer}
use Rattle.machine.specs.State.{task_at, with_state}
use Rattle.machine.specs.Test.{valid}
use Rattle.machine.specs.Step.{plain_answer, step}
use Rattle.machine.specs.Scripts.{row, declare_task, declare_semaphore, declare_bolt, declare_interrupt, activate, terminate, suspend, end, request, reserve, free, enter, leave, enable, trigger, one_tick, ACTIVATE◌PRIO◌, AFTER◌ACTIVATE◌, CONTINUE◌PRIO◌, AT◌CONTINUE◌PRIO◌, AFTER◌CONTINUE◌PRIO◌, WHEN◌CONTINUE◌PRIO◌}
use Rattle.machine_cases.specs.Marked.{answers, after, line, quiet}

-- ---- the scripts' beginnings

-- Tasks of priority 9, 5, q and 7, three bolts and an interrupt. Task 0 has entered bolt 0 and runs.
abbrev pub entered : ℕ → List (List ℕ)
entered q =
    declare_task 9 ∷ declare_task 5 ∷ declare_task q ∷ declare_task 7
    ∷ declare_bolt ∷ declare_bolt ∷ declare_bolt ∷ declare_interrupt
    ∷ activate 0 ∷ enter (0 ∷ []) ∷ []

abbrev pub entered_lines : List Answer
entered_lines = row 8 (quiet None) ++ line 0 (Some 0) 1 1 0 0 0 ∷ line 0 (Some 0) 0 0 0 0 1 ∷ []

-- Task 1, the writer, waits to reserve the bolts of l, and task 0 runs on.
abbrev pub writing : ℕ → List ℕ → List (List ℕ)
writing q l = entered q ++ activate 1 ∷ reserve l ∷ []

abbrev pub writing_lines : List Answer
writing_lines = entered_lines ++ line 0 (Some 1) 2 2 0 0 0 ∷ quiet (Some 0) ∷ []

-- Task 2, a reader of priority q, asks to enter bolt 0, which the writer waits for.
abbrev pub asked : ℕ → List (List ℕ)
asked q = writing q (0 ∷ []) ++ activate 2 ∷ enter (0 ∷ []) ∷ []

-- The reader starts, task 2.
abbrev pub reader_starts : Answer
reader_starts = line 0 (Some 2) 4 4 0 0 0

-- The other starts, task 3.
abbrev pub other_starts : Answer
other_starts = line 0 (Some 3) 8 8 0 0 0

-- Task 2 is granted its list and runs: it passes the writer.
abbrev pub passes : Answer
passes = line 0 (Some 2) 0 0 0 0 4

-- It waits, and task 0 runs on.
abbrev pub wait_lines : List Answer
wait_lines = writing_lines ++ reader_starts ∷ quiet (Some 0) ∷ []

-- Beside it task 3, a reader of priority 7, waits.
abbrev pub readers : List (List ℕ)
readers = asked 5 ++ activate 3 ∷ enter (0 ∷ []) ∷ []

abbrev pub readers_lines : List Answer
readers_lines = wait_lines ++ other_starts ∷ quiet (Some 0) ∷ []

-- A kernel in which task i has another current priority.
abbrev pub with_priority : ℕ → ℕ → State → State
with_priority i p k = with_state (set k.tasks i (with_current p (task_at k.tasks i))) k.locks k.enabled k

pub record WriterCases : Type 0 where
  -- The bytes of RESERVE of 0 and 1.
  pub bytes : reserve (0 ∷ 1 ∷ [])
      ≡ 0x52 ∷ 0x53 ∷ 0 ∷ 0 ∷ 2 ∷ 0 ∷ 1 ∷ 0 ∷ 0 ∷ 0 ∷ 0 ∷ 0
      ∷ 0 ∷ 0 ∷ 0 ∷ 0 ∷ 0 ∷ 0 ∷ 0 ∷ 0 ∷ 0 ∷ 0 ∷ 0 ∷ 0 ∷ []
  -- ---- who goes before whom
  -- A reader as urgent as the writer waits, a less urgent one too. A more urgent one passes.
  pub equal : answers (asked 5) ≡ wait_lines
  pub less_urgent_law : answers (asked 7) ≡ wait_lines
  pub more_urgent : answers (asked 4) ≡ writing_lines ++ reader_starts ∷ passes ∷ []
  -- The last reader leaves: the writer is served, and the reader when it frees.
  pub writer_next : answers (asked 5 ++ leave (0 ∷ []) ∷ free (0 ∷ []) ∷ [])
      ≡ wait_lines ++ line 0 (Some 1) 0 0 0 0 2 ∷ line 0 (Some 1) 0 0 0 0 4 ∷ []
  -- A suspended writer blocks readers all the same, and is served.
  pub held : answers (writing 5 (0 ∷ []) ++ suspend 1 ∷ activate 2 ∷ enter (0 ∷ []) ∷ leave (0 ∷ []) ∷ [])
      ≡ writing_lines ++ quiet (Some 0) ∷ reader_starts ∷ quiet (Some 0) ∷ line 0 (Some 0) 0 0 0 0 2 ∷ []
  -- A task that has entered the bolt already and asks again waits too.
  pub again : answers (writing 5 (0 ∷ []) ++ enter (0 ∷ []) ∷ []) ≡ writing_lines ++ quiet None ∷ []
  -- The current priority counts, not the declared one: the writer's by CONTINUE and by ACTIVATE, the reader's by ACTIVATE.
  pub writer_continued : answers (writing 6 (0 ∷ []) ++ suspend 1 ∷ (CONTINUE 1 PRIO 7) ∷ activate 2 ∷ enter (0 ∷ []) ∷ [])
      ≡ writing_lines ++ quiet (Some 0) ∷ quiet (Some 0) ∷ reader_starts ∷ passes ∷ []
  pub writer_activated : answers (entered 6 ++ (ACTIVATE 1 PRIO 7) ∷ reserve (0 ∷ []) ∷ activate 2 ∷ enter (0 ∷ []) ∷ [])
      ≡ writing_lines ++ reader_starts ∷ passes ∷ []
  pub reader_activated : answers (writing 4 (0 ∷ []) ++ (ACTIVATE 2 PRIO 6) ∷ enter (0 ∷ []) ∷ []) ≡ wait_lines
  -- ---- which bolts
  -- The writer waits for 0 and names 1 too, which is free: a reader of 2 passes, a reader of 1 waits.
  pub another_bolt : answers (writing 5 (0 ∷ 1 ∷ []) ++ activate 2 ∷ enter (2 ∷ []) ∷ enter (1 ∷ []) ∷ [])
      ≡ writing_lines ++ reader_starts ∷ passes ∷ quiet (Some 0) ∷ []
  -- A reader of both waits and holds none of them.
  pub whole_list : answers (writing 5 (0 ∷ 1 ∷ []) ++ activate 2 ∷ enter (2 ∷ 1 ∷ []) ∷ []) ≡ wait_lines
  pub none_held : (bolt_at (after (writing 5 (0 ∷ 1 ∷ []) ++ activate 2 ∷ enter (2 ∷ 1 ∷ []) ∷ [])).locks 2).readers ≡ 0
  -- The writer blocks no other RESERVE: a less urgent one of 1 is granted.
  pub other_writer : answers (writing 5 (0 ∷ 1 ∷ []) ++ activate 3 ∷ reserve (1 ∷ []) ∷ [])
      ≡ writing_lines ++ other_starts ∷ line 0 (Some 3) 0 0 0 0 8 ∷ []
  -- A reader that waits for 0 and 1 blocks nobody: a less urgent one enters 1.
  pub waiting_reader : answers (writing 5 (0 ∷ []) ++ activate 2 ∷ enter (0 ∷ 1 ∷ []) ∷ activate 3 ∷ enter (1 ∷ []) ∷ [])
      ≡ wait_lines ++ other_starts ∷ line 0 (Some 3) 0 0 0 0 8 ∷ []
  -- Nor does a REQUEST of semaphore 0 block a reader of bolt 0.
  pub semaphores_apart : answers
      (declare_task 9 ∷ declare_task 5 ∷ declare_semaphore 0 ∷ declare_bolt
      ∷ activate 1 ∷ request (0 ∷ []) ∷ activate 0 ∷ enter (0 ∷ []) ∷ [])
      ≡ row 4 (quiet None)
      ++ line 0 (Some 1) 2 2 0 0 0
      ∷ quiet None
      ∷ line 0 (Some 0) 1 1 0 0 0
      ∷ line 0 (Some 0) 0 0 0 0 1
      ∷ []
  -- ---- readers served in the call that makes them grantable
  -- CONTINUE gives the writer 8: both readers. 7: the more urgent one.
  pub continued : answers (readers ++ suspend 1 ∷ (CONTINUE 1 PRIO 8) ∷ [])
      ≡ readers_lines ++ quiet (Some 0) ∷ line 0 (Some 2) 0 0 0 0 12 ∷ []
  pub continued_between : answers (readers ++ suspend 1 ∷ (CONTINUE 1 PRIO 7) ∷ [])
      ≡ readers_lines ++ quiet (Some 0) ∷ passes ∷ []
  -- CONTINUE makes the reader more urgent than the writer.
  pub reader_continued : answers (asked 5 ++ suspend 2 ∷ (CONTINUE 2 PRIO 4) ∷ []) ≡ wait_lines ++ quiet (Some 0) ∷ passes ∷ []
  -- TERMINATE of the writer: it has ended, and both readers are granted.
  pub ended : answers (readers ++ terminate 1 ∷ []) ≡ readers_lines ++ line 0 (Some 2) 0 0 2 0 12 ∷ []
  -- So it is where a start kept back starts the writer anew: it waits for nothing.
  pub restarted : answers (asked 5 ++ (AFTER 1 ACTIVATE 1) ∷ one_tick ∷ terminate 1 ∷ [])
      ≡ wait_lines ++ quiet (Some 0) ∷ line 0 (Some 0) 2 0 0 0 0 ∷ line 0 (Some 1) 0 2 2 0 4 ∷ []
  -- A continuation gives the writer 6: in the call, by a tick, by a trigger.
  pub at_once : answers (asked 5 ++ suspend 1 ∷ (AT 0 CONTINUE 1 PRIO 6) ∷ []) ≡ wait_lines ++ quiet (Some 0) ∷ passes ∷ []
  pub ticked : answers (asked 5 ++ suspend 1 ∷ (AFTER 2 CONTINUE 1 PRIO 6) ∷ row 2 one_tick)
      ≡ wait_lines ++ row 3 (quiet (Some 0)) ++ passes ∷ []
  pub triggered : answers (asked 5 ++ enable 0 ∷ suspend 1 ∷ (WHEN 0 CONTINUE 1 PRIO 6) ∷ trigger 0 ∷ [])
      ≡ wait_lines ++ row 3 (quiet (Some 0)) ++ passes ∷ []
  -- One of priority 0 leaves the writer's as it is, and serves nobody, at once and by a tick.
  pub unchanged : answers (asked 5 ++ suspend 1 ∷ (CONTINUE 1 PRIO 0) ∷ suspend 1 ∷ (AFTER 1 CONTINUE 1 PRIO 0) ∷ one_tick ∷ [])
      ≡ wait_lines ++ row 5 (quiet (Some 0))
  -- ---- serving by urgency
  -- A reader of 4, a writer of 5, a reader of 6 and a writer of 7 wait for a bolt. Freed, it goes to the first reader
  -- alone; then to the first writer; then to the other reader, who is more urgent than the other writer; then to that.
  pub by_urgency : answers
      (declare_task 9 ∷ declare_task 4 ∷ declare_task 5 ∷ declare_task 6 ∷ declare_task 7 ∷ declare_bolt
      ∷ activate 0 ∷ reserve (0 ∷ []) ∷ activate 1 ∷ enter (0 ∷ []) ∷ activate 2 ∷ reserve (0 ∷ [])
      ∷ activate 3 ∷ enter (0 ∷ []) ∷ activate 4 ∷ reserve (0 ∷ [])
      ∷ free (0 ∷ []) ∷ leave (0 ∷ []) ∷ end ∷ free (0 ∷ []) ∷ end ∷ leave (0 ∷ []) ∷ [])
      ≡ row 6 (quiet None)
      ++ line 0 (Some 0) 1 1 0 0 0 ∷ line 0 (Some 0) 0 0 0 0 1
      ∷ line 0 (Some 1) 2 2 0 0 0 ∷ quiet (Some 0)
      ∷ line 0 (Some 2) 4 4 0 0 0 ∷ quiet (Some 0)
      ∷ line 0 (Some 3) 8 8 0 0 0 ∷ quiet (Some 0)
      ∷ line 0 (Some 4) 16 16 0 0 0 ∷ quiet (Some 0)
      ∷ line 0 (Some 1) 0 0 0 0 2
      ∷ line 0 (Some 1) 0 0 0 0 4 ∷ line 0 (Some 2) 0 0 2 0 0
      ∷ line 0 (Some 2) 0 0 0 0 8 ∷ line 0 (Some 3) 0 0 4 0 0
      ∷ line 0 (Some 3) 0 0 0 0 16
      ∷ []
  -- Of a reader and a writer as urgent the writer is served, though it asked later; then the reader, who stands behind it.
  pub tie : answers
      (declare_task 9 ∷ declare_task 5 ∷ declare_task 5 ∷ declare_bolt
      ∷ activate 0 ∷ reserve (0 ∷ []) ∷ activate 1 ∷ enter (0 ∷ []) ∷ activate 2 ∷ reserve (0 ∷ [])
      ∷ free (0 ∷ []) ∷ free (0 ∷ []) ∷ [])
      ≡ row 4 (quiet None)
      ++ line 0 (Some 0) 1 1 0 0 0 ∷ line 0 (Some 0) 0 0 0 0 1
      ∷ line 0 (Some 1) 2 2 0 0 0 ∷ quiet (Some 0)
      ∷ line 0 (Some 2) 4 4 0 0 0 ∷ quiet (Some 0)
      ∷ line 0 (Some 2) 0 0 0 0 4
      ∷ line 0 (Some 2) 0 0 0 0 2
      ∷ []
  -- ---- refusal 1
  -- A reader may wait behind the writer. Where it is more urgent, or the writer less, its list could be granted.
  pub tested : valid day_length (after (asked 5)) ≡ true
  pub reader_at_4 : (step day_length (with_priority 2 4 (after (asked 5))) one_tick).answer ≡ plain_answer 1 None
  pub writer_at_6 : (step day_length (with_priority 1 6 (after (asked 5))) one_tick).answer ≡ plain_answer 1 None
