-- CONTINUE and RESUME on a schedule in scripts that are worked out by hand, from byte records on a kernel in which
-- nothing is declared: the readings of request 1 that a script can show. Proved in proofs/Continued.antt.
use Rattle.std.specs.Prelude.{None, Some, ◌≡◌, List, [], ◌∷◌, ◌++◌, ℕ}
use Rattle.schedule.specs.Alarms.{no_alarm}
use Rattle.machine.specs.declared.Answer.{Answer}
use Rattle.machine.specs.State.{task_at}
use Rattle.machine.specs.Step.{plain_answer}
use Rattle.machine.specs.Scripts.{row, hours, declare_task, declare_interrupt, activate, terminate, suspend, prevent, resume_after, enable, trigger, one_tick, continuing, resuming, CONTINUE◌PRIO◌, AT◌CONTINUE◌PRIO◌, AFTER◌CONTINUE◌PRIO◌, WHEN◌CONTINUE◌PRIO◌, WHEN◌AFTER◌CONTINUE◌PRIO◌, AT◌RESUME, AFTER◌RESUME, WHEN◌RESUME, WHEN◌AFTER◌RESUME}
use Rattle.machine_cases.specs.Marked.{answers, after, line, quiet}

-- Task 0 of priority 5 runs.
abbrev pub one : List (List ℕ)
one = declare_task 5 ∷ activate 0 ∷ []

abbrev pub one_runs : List Answer
one_runs = quiet None ∷ line 0 (Some 0) 1 1 0 0 0 ∷ []

-- So it does beside task 1 of priority 3, which stands still.
abbrev pub two : List (List ℕ)
two = declare_task 5 ∷ declare_task 3 ∷ activate 0 ∷ []

abbrev pub two_run : List Answer
two_run = quiet None ∷ quiet None ∷ line 0 (Some 0) 1 1 0 0 0 ∷ []

-- And beside interrupt 0, which is enabled.
abbrev pub called : List (List ℕ)
called = declare_task 5 ∷ declare_interrupt ∷ enable 0 ∷ activate 0 ∷ []

abbrev pub called_runs : List Answer
called_runs = row 3 (quiet None) ++ line 0 (Some 0) 1 1 0 0 0 ∷ []

-- Task 1 starts.
abbrev pub second : Answer
second = line 0 (Some 1) 2 2 0 0 0

pub record ContinuationCases : Type 0 where
  -- The bytes of AT 22:00 CONTINUE 1 PRIO 7.
  pub bytes : (AT hours 22 CONTINUE 1 PRIO 7)
      ≡ 0x43 ∷ 0x4f ∷ 1 ∷ 7 ∷ 0 ∷ 0 ∷ 0 ∷ 0 ∷ 0 ∷ 1 ∷ 0 ∷ 0
      ∷ 0x04 ∷ 0xb8 ∷ 0x7f ∷ 0 ∷ 0 ∷ 0 ∷ 0 ∷ 0 ∷ 0 ∷ 0 ∷ 0 ∷ 0 ∷ []
  -- RESUME AT the present time: the runner goes on, and nothing is left.
  pub present : answers (one ++ (AT 0 RESUME) ∷ row 2 one_tick) ≡ one_runs ++ row 3 (quiet (Some 0))
  pub present_gone : (task_at (after (one ++ (AT 0 RESUME) ∷ [])).tasks 0).continuation ≡ no_alarm
  -- AT two ticks from now it is held until then.
  pub future : answers (one ++ (AT 2 RESUME) ∷ row 3 one_tick)
      ≡ one_runs ++ quiet None ∷ quiet None ∷ quiet (Some 0) ∷ quiet (Some 0) ∷ []
  -- A CONTINUE's WHEN unholds at each trigger.
  pub each_time : answers
      (called ++ (WHEN 0 CONTINUE 0 PRIO 0) ∷ suspend 0 ∷ trigger 0 ∷ suspend 0 ∷ trigger 0 ∷ [])
      ≡ called_runs ++ quiet (Some 0) ∷ quiet None ∷ quiet (Some 0) ∷ quiet None ∷ quiet (Some 0) ∷ []
  -- A RESUME's once.
  pub one_time : answers (called ++ (WHEN 0 RESUME) ∷ trigger 0 ∷ suspend 0 ∷ trigger 0 ∷ [])
      ≡ called_runs ++ quiet None ∷ quiet (Some 0) ∷ quiet None ∷ quiet None ∷ []
  -- A trigger replaces a delay of 3 that runs since 2 ticks: due 3 ticks after the second trigger.
  pub anew : answers (called ++ (WHEN 0 AFTER 3 RESUME) ∷ trigger 0 ∷ row 2 one_tick ++ trigger 0 ∷ row 3 one_tick)
      ≡ called_runs ++ row 7 (quiet None) ++ quiet (Some 0) ∷ []
  -- Suspended, task 0 takes the priority 2 and runs before task 1.
  pub taken : answers (two ++ suspend 0 ∷ (AFTER 2 CONTINUE 0 PRIO 2) ∷ activate 1 ∷ row 2 one_tick)
      ≡ two_run ++ quiet None ∷ quiet None ∷ second ∷ quiet (Some 1) ∷ quiet (Some 0) ∷ []
  -- Delayed until that instant, it is unheld by the delay's end and keeps its 5.
  pub delayed : answers (two ++ resume_after 2 ∷ (AFTER 2 CONTINUE 0 PRIO 2) ∷ activate 1 ∷ row 2 one_tick)
      ≡ two_run ++ quiet None ∷ quiet None ∷ second ∷ quiet (Some 1) ∷ quiet (Some 1) ∷ []
  -- Priority 0 is the one current then: 2, which a CONTINUE gave after this one was asked for.
  pub current : answers
      (two ++ (AFTER 2 CONTINUE 0 PRIO 0) ∷ suspend 0 ∷ (CONTINUE 0 PRIO 2) ∷ suspend 0 ∷ activate 1 ∷ row 2 one_tick)
      ≡ two_run ++ quiet (Some 0) ∷ quiet None ∷ quiet (Some 0) ∷ quiet None ∷ second ∷ quiet (Some 1) ∷ quiet (Some 0) ∷ []
  -- An end leaves it: it unholds the next activation, which is suspended.
  pub ended : answers (one ++ (AFTER 2 CONTINUE 0 PRIO 0) ∷ terminate 0 ∷ activate 0 ∷ suspend 0 ∷ row 2 one_tick)
      ≡ one_runs
      ++ quiet (Some 0)
      ∷ line 0 None 0 0 1 0 0
      ∷ line 0 (Some 0) 1 1 0 0 0
      ∷ quiet None
      ∷ quiet None
      ∷ quiet (Some 0)
      ∷ []
  -- PREVENT removes it and unholds nobody.
  pub prevented : answers (one ++ (AFTER 1 CONTINUE 0 PRIO 0) ∷ suspend 0 ∷ prevent 0 ∷ row 2 one_tick)
      ≡ one_runs ++ quiet (Some 0) ∷ row 4 (quiet None)
  -- RESUME suspends, so SUSPEND then is 11. CONTINUE at once unholds, and leaves what is to come.
  pub left : answers (one ++ (AFTER 2 RESUME) ∷ suspend 0 ∷ (CONTINUE 0 PRIO 0) ∷ suspend 0 ∷ row 2 one_tick)
      ≡ one_runs ++ quiet None ∷ plain_answer 11 None ∷ quiet (Some 0) ∷ quiet None ∷ quiet None ∷ quiet (Some 0) ∷ []
  -- A new one replaces the old one: a CONTINUE a CONTINUE's, a RESUME a CONTINUE's.
  pub replaced : answers (one ++ suspend 0 ∷ (AFTER 1 CONTINUE 0 PRIO 0) ∷ (AFTER 2 CONTINUE 0 PRIO 0) ∷ row 2 one_tick)
      ≡ one_runs ++ row 4 (quiet None) ++ quiet (Some 0) ∷ []
  pub replaced_too : answers (one ++ (AFTER 1 CONTINUE 0 PRIO 0) ∷ (AFTER 2 RESUME) ∷ row 2 one_tick)
      ≡ one_runs ++ quiet (Some 0) ∷ quiet None ∷ quiet None ∷ quiet (Some 0) ∷ []
  -- A terminated task can be continued later, not at once: that is 10. So can an unheld one, where at once is 12.
  pub any_task : answers
      (declare_task 5 ∷ declare_interrupt
      ∷ (CONTINUE 0 PRIO 0)
      ∷ (AT 1 CONTINUE 0 PRIO 0) ∷ (AFTER 1 CONTINUE 0 PRIO 0) ∷ (WHEN 0 CONTINUE 0 PRIO 0) ∷ (WHEN 0 AFTER 1 CONTINUE 0 PRIO 0)
      ∷ activate 0
      ∷ (CONTINUE 0 PRIO 0)
      ∷ (AT 1 CONTINUE 0 PRIO 0) ∷ (AFTER 1 CONTINUE 0 PRIO 0) ∷ (WHEN 0 CONTINUE 0 PRIO 0) ∷ (WHEN 0 AFTER 1 CONTINUE 0 PRIO 0) ∷ [])
      ≡ row 2 (quiet None)
      ++ plain_answer 10 None
      ∷ row 4 (quiet None)
      ++ line 0 (Some 0) 1 1 0 0 0
      ∷ plain_answer 12 (Some 0)
      ∷ row 4 (quiet (Some 0))
  -- RESUME without a runner is 8, whatever its kind.
  pub nobody : answers
      (declare_task 5 ∷ declare_interrupt
      ∷ resume_after 1 ∷ (AT 1 RESUME) ∷ (AFTER 1 RESUME) ∷ (WHEN 0 RESUME) ∷ (WHEN 0 AFTER 1 RESUME) ∷ [])
      ≡ row 2 (quiet None) ++ row 5 (plain_answer 8 None)
  -- Kind 5 is 3.
  pub no_period : answers (one ++ continuing 0 0 5 0 0 ∷ resuming 5 0 0 ∷ []) ≡ one_runs ++ row 2 (plain_answer 3 (Some 0))
  -- An interrupt that isn't declared is 5, before a duration of 0, which is 6.
  pub undeclared : answers (one ++ (WHEN 0 CONTINUE 0 PRIO 0) ∷ (WHEN 0 AFTER 0 CONTINUE 0 PRIO 0) ∷ (WHEN 0 RESUME) ∷ (WHEN 0 AFTER 0 RESUME) ∷ [])
      ≡ one_runs ++ row 4 (plain_answer 5 (Some 0))
  pub no_time : answers (called ++ (AFTER 0 CONTINUE 0 PRIO 0) ∷ (WHEN 0 AFTER 0 CONTINUE 0 PRIO 0) ∷ (AFTER 0 RESUME) ∷ (WHEN 0 AFTER 0 RESUME) ∷ [])
      ≡ called_runs ++ row 4 (plain_answer 6 (Some 0))
