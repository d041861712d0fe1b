-- The marked cases M1 to M10 of document 01, from byte records on a kernel in which nothing is declared.
-- Proved in proofs/Marked.antt.
use Rattle.std.specs.Prelude.{None, Some, ◌≡◌, List, [], ◌∷◌, ◌++◌, map, ℕ, ◌+◌, ◌-◌, ◌≤◌, ◌^◌}
use Rattle.calendar.specs.Limits.{day_length}
use Rattle.lock.specs.Locks.{value_at}
use Rattle.lock.specs.declared.Wait.TheVariants.{Request}
use Rattle.task.specs.State.{wanted}
use Rattle.machine.specs.declared.State.{State}
use Rattle.machine.specs.declared.Answer.{Answer}
use Rattle.machine.specs.Running.{Running}
use Rattle.machine.specs.State.{task_at, nothing}
use Rattle.machine.specs.Step.{plain_answer, step}
use Rattle.machine.specs.Log.{final, log}
use Rattle.machine.specs.Scripts.{row, hours, declare_task, declare_semaphore, declare_interrupt, declare_clock, activate, terminate, resume_after, request, release, one_tick, sleep, AT◌ACTIVATE◌, AT◌ALL◌UNTIL◌ACTIVATE◌, AFTER◌ACTIVATE◌, ALL◌DURING◌ACTIVATE◌, WHEN◌AFTER◌ACTIVATE◌}

-- The answers to a script, and the kernel that it leaves.
abbrev pub answers : List (List ℕ) → List Answer
answers rs = map (λ e. e.answer) (log day_length nothing rs)

abbrev pub after : List (List ℕ) → State
after rs = final day_length nothing rs

-- A line: number, running task, due, started, ended, lost, granted.
abbrev pub line : ℕ → Running → ℕ → ℕ → ℕ → ℕ → ℕ → Answer
line n r due started ended lost granted =
    record {
      number = n;
      running = r;
      sets = record { due = due; started = started; ended = ended; lost = lost; granted = granted };
    }

-- Accepted with empty sets.
abbrev pub quiet : Running → Answer
quiet r = plain_answer 0 r

-- What M2 and M3 ask for, with the time of day at instant 0.
abbrev pub evening : ℕ → List (List ℕ)
evening clock =
    declare_task 5
    ∷ declare_clock clock
    ∷ (AT hours 22 ALL hours 2 UNTIL hours 2 ACTIVATE 0)
    ∷ []

-- Three dues p ticks apart and d further ticks: the first start is made, the second kept back, the third lost, and
-- nothing else comes.
abbrev pub three_lines : ℕ → ℕ → List Answer
three_lines p d =
    line 0 (Some 0) 1 1 0 0 0 ∷ row (p - 1) (quiet (Some 0))
    ++ line 0 (Some 0) 1 0 0 0 0 ∷ row (p - 1) (quiet (Some 0))
    ++ line 0 (Some 0) 1 0 0 1 0 ∷ row d (quiet (Some 0))

-- What the evening answers to the declarations, the call and the ticks, with the first due after n of them.
abbrev pub evening_lines : ℕ → ℕ → List Answer
evening_lines n d = quiet None ∷ quiet None ∷ quiet None ∷ row (n - 1) (quiet None) ++ three_lines (hours 2) d

-- The evening with three sleeps instead of ticks, and with a fourth.
abbrev pub slept : ℕ → List (List ℕ)
slept clock = evening clock ++ sleep ∷ sleep ∷ sleep ∷ []

abbrev pub four_sleeps : ℕ → List (List ℕ)
four_sleeps clock = slept clock ++ sleep ∷ []

-- The lines of the three dues alone. Nothing is to come after them.
abbrev pub slept_lines : List Answer
slept_lines =
    quiet None ∷ quiet None ∷ quiet None
    ∷ line 0 (Some 0) 1 1 0 0 0
    ∷ line 0 (Some 0) 1 0 0 0 0
    ∷ line 0 (Some 0) 1 0 0 1 0
    ∷ plain_answer 17 (Some 0)
    ∷ []

-- M4's: it is 13:00, after an hour of ticks since 12:00.
abbrev pub an_hour : List (List ℕ)
an_hour = declare_task 5 ∷ declare_clock (hours 12) ∷ row (hours 1) one_tick

abbrev pub an_hour_lines : List Answer
an_hour_lines = quiet None ∷ quiet None ∷ row (hours 1) (quiet None)

-- M5's script: a living task with a start at each of the instants 0, 1 and 2.
abbrev pub three_dues : List (List ℕ)
three_dues = declare_task 5 ∷ activate 0 ∷ (ALL 1 DURING 2 ACTIVATE 0) ∷ one_tick ∷ one_tick ∷ []

-- M7's: a semaphore one below its most, and two releases.
abbrev pub full : List (List ℕ)
full = declare_task 5 ∷ declare_semaphore 65534 ∷ activate 0 ∷ release (0 ∷ []) ∷ release (0 ∷ []) ∷ []

-- M8's: the second semaphore that the list names is at zero.
abbrev pub half : List (List ℕ)
half = declare_task 5 ∷ declare_semaphore 1 ∷ declare_semaphore 0 ∷ activate 0 ∷ request (0 ∷ 1 ∷ []) ∷ []

pub record MarkedCases : Type 0 where
  -- A script is made of 24 bytes a record: REQUEST of 0, and the evening's ACTIVATE.
  pub request_bytes : request (0 ∷ [])
      ≡ 0x52 ∷ 0x51 ∷ 0 ∷ 0 ∷ 1 ∷ 0 ∷ 0 ∷ 0 ∷ 0 ∷ 0 ∷ 0 ∷ 0
      ∷ 0 ∷ 0 ∷ 0 ∷ 0 ∷ 0 ∷ 0 ∷ 0 ∷ 0 ∷ 0 ∷ 0 ∷ 0 ∷ 0 ∷ []
  pub activate_bytes : (AT hours 22 ALL hours 2 UNTIL hours 2 ACTIVATE 0)
      ≡ 0x41 ∷ 0x43 ∷ 0 ∷ 0 ∷ 0 ∷ 0 ∷ 0 ∷ 0 ∷ 0 ∷ 1 ∷ 0 ∷ 1
      ∷ 0x04 ∷ 0xb8 ∷ 0x7f ∷ 0 ∷ 0 ∷ 0x6d ∷ 0xdd ∷ 0 ∷ 0 ∷ 0x6d ∷ 0xdd ∷ 0 ∷ []
  -- Two tasks and a semaphore: the lines that document 01 prints, behind those of the declarations.
  pub m1 : answers
      (declare_task 5 ∷ declare_task 3 ∷ declare_semaphore 1
      ∷ activate 0 ∷ request (0 ∷ []) ∷ activate 1 ∷ request (0 ∷ []) ∷ release (0 ∷ []) ∷ activate 1 ∷ [])
      ≡ quiet None ∷ quiet None ∷ quiet None
      ∷ line 0 (Some 0) 1 1 0 0 0
      ∷ line 0 (Some 0) 0 0 0 0 1
      ∷ line 0 (Some 1) 2 2 0 0 0
      ∷ line 0 (Some 0) 0 0 0 0 0
      ∷ line 0 (Some 1) 0 0 0 0 2
      ∷ line 9 (Some 1) 0 0 0 0 0
      ∷ []
  -- Seen from 12:00: dues after 10 h and then twice at intervals of 2 h, and no other tick has one.
  pub m2 : (d : ℕ) → hours 14 + d ≤ 2 ^ 40
      → answers (evening (hours 12) ++ row (hours 14 + d) one_tick) ≡ evening_lines (hours 10) d
  -- At 23:00 the first comes due after 23 h, the others 2 h and 4 h later.
  pub m3 : (d : ℕ) → hours 27 + d ≤ 2 ^ 40
      → answers (evening (hours 23) ++ row (hours 27 + d) one_tick) ≡ evening_lines (hours 23) d
  -- M2 with three sleeps instead of its ticks: each leads to the next due, and a fourth is refused with 17.
  pub m2_sleeps : answers (four_sleeps (hours 12)) ≡ slept_lines
  pub m2_instant : (after (slept (hours 12))).now.0 ≡ hours 14
  -- So it is with M3.
  pub m3_sleeps : answers (four_sleeps (hours 23)) ≡ slept_lines
  pub m3_instant : (after (slept (hours 23))).now.0 ≡ hours 27
  -- A start AT this very time is made by the call itself; with UNTIL that same time no other follows.
  pub m4 : (d : ℕ) → d ≤ 2 ^ 40
      → answers (declare_task 5 ∷ declare_clock (hours 12) ∷ (AT hours 12 ALL hours 1 UNTIL hours 12 ACTIVATE 0) ∷ row d one_tick)
      ≡ quiet None ∷ quiet None ∷ line 0 (Some 0) 1 1 0 0 0 ∷ row d (quiet (Some 0))
  -- So it is after some ticks: without a period one start, with UNTIL two hours later two more dues.
  pub m4_once : (d : ℕ) → hours 1 + d ≤ 2 ^ 40
      → answers (an_hour ++ (AT hours 13 ACTIVATE 0) ∷ row d one_tick)
      ≡ an_hour_lines ++ line 0 (Some 0) 1 1 0 0 0 ∷ row d (quiet (Some 0))
  pub m4_until : (d : ℕ) → hours 3 + d ≤ 2 ^ 40
      → answers (an_hour ++ (AT hours 13 ALL hours 1 UNTIL hours 15 ACTIVATE 0) ∷ row (hours 2 + d) one_tick)
      ≡ an_hour_lines ++ three_lines (hours 1) d
  -- The living task is due three times: the first start is kept back, the others are lost.
  pub m5 : answers three_dues
      ≡ quiet None
      ∷ line 0 (Some 0) 1 1 0 0 0
      ∷ line 0 (Some 0) 1 0 0 0 0
      ∷ line 0 (Some 0) 1 0 0 1 0
      ∷ line 0 (Some 0) 1 0 0 1 0
      ∷ []
  -- TERMINATE of that task: it has ended, and what was kept back has started.
  pub m6 : (step day_length (after three_dues) (terminate 0)).answer ≡ line 0 (Some 0) 0 1 1 0 0
  -- That start is used up: the next TERMINATE ends the task, and nothing starts.
  pub m6_again : (step day_length (after (three_dues ++ terminate 0 ∷ [])) (terminate 0)).answer ≡ line 0 None 0 0 1 0 0
  -- RELEASE at 65,534 passes, the next one is refused with 13 and changes nothing.
  pub m7 : answers full ≡ quiet None ∷ quiet None ∷ line 0 (Some 0) 1 1 0 0 0 ∷ quiet (Some 0) ∷ plain_answer 13 (Some 0) ∷ []
  pub m7_value : value_at (after full).locks 0 ≡ 65535
  -- The second semaphore asked for has nothing left: the task waits for both, and the first keeps its value.
  pub m8 : answers half ≡ quiet None ∷ quiet None ∷ quiet None ∷ line 0 (Some 0) 1 1 0 0 0 ∷ quiet None ∷ []
  pub m8_values : (value_at (after half).locks 0 ≡ 1) × (value_at (after half).locks 1 ≡ 0)
  pub m8_waits : ((task_at (after half).tasks 0).wait ≡ Request) × (wanted (task_at (after half).tasks 0) ≡ 0 ∷ 1 ∷ [])
  -- A duration of 0 is refused with 6, 1 passes: AFTER, WHEN AFTER, DURING and RESUME.
  pub m9 : answers
      (declare_task 5 ∷ declare_interrupt
      ∷ (AFTER 0 ACTIVATE 0) ∷ (AFTER 1 ACTIVATE 0)
      ∷ (WHEN 0 AFTER 0 ACTIVATE 0) ∷ (WHEN 0 AFTER 1 ACTIVATE 0)
      ∷ (ALL 1 DURING 0 ACTIVATE 0) ∷ (ALL 1 DURING 1 ACTIVATE 0)
      ∷ resume_after 0 ∷ resume_after 1 ∷ [])
      ≡ quiet None ∷ quiet None
      ∷ plain_answer 6 None ∷ quiet None
      ∷ plain_answer 6 None ∷ quiet None
      ∷ plain_answer 6 None ∷ line 0 (Some 0) 1 1 0 0 0
      ∷ plain_answer 6 (Some 0) ∷ quiet None
      ∷ []
  -- 2^40 ticks pass, the last of them at 2^40 - 1. The next, at 2^40, is refused with 15.
  pub m10 : answers (row (2 ^ 40) one_tick ++ one_tick ∷ []) ≡ row (2 ^ 40) (quiet None) ++ plain_answer 15 None ∷ []
  pub m10_instant : (after (row (2 ^ 40) one_tick)).now.0 ≡ 2 ^ 40
