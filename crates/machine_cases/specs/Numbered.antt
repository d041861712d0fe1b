-- Each refusal number from 2 on beside a neighbour that doesn't get it, by records of bytes. Proved in
-- proofs/Numbered.antt.
use Rattle.std.specs.Prelude.{None, Some, ◌≡◌, List, [], ◌∷◌, ◌++◌, map, ℕ, take, set}
use Rattle.calendar.specs.Limits.{day_length}
use Rattle.calendar.specs.Times.{instant}
use Rattle.layout.specs.declared.Mark.TheVariants.{TE, TR}
use Rattle.machine.specs.declared.State.{State}
use Rattle.machine.specs.State.{with_file, begun_at}
use Rattle.machine.specs.Step.{step}
use Rattle.machine.specs.Log.{final}
use Rattle.machine.specs.Scripts.{row, plain_record, declare_task, declare_semaphore, declare_bolt, declare_interrupt, declare_clock, activate, terminate, suspend, prevent, end, resume_after, request, release, try, reserve, free, enter, leave, trigger, enable, one_tick, sleep, activation, AT◌ACTIVATE◌, AFTER◌ACTIVATE◌, ALL◌DURING◌ACTIVATE◌, WHEN◌AFTER◌ACTIVATE◌, CONTINUE◌PRIO◌, AFTER◌CONTINUE◌PRIO◌, WHEN◌RESUME}
use Rattle.machine_cases.specs.Marked.{after}

-- ---- kernels

-- The numbers that a kernel has for some records, each of them handed to that kernel.
abbrev pub numbers : State → List (List ℕ) → List ℕ
numbers k rs = map (λ r. (step day_length k r).answer.number) rs

-- Two tasks, a semaphore at 1, a bolt and an interrupt. Nobody runs.
abbrev pub one_of_each : List (List ℕ)
one_of_each = declare_task 5 ∷ declare_task 5 ∷ declare_semaphore 1 ∷ declare_bolt ∷ declare_interrupt ∷ []

abbrev pub fresh : State
fresh = after one_of_each

-- Task 0 runs; then some further records.
abbrev pub running : List (List ℕ) → State
running rs = after (one_of_each ++ activate 0 ∷ rs)

-- Task 0 runs, and the semaphore has a value.
abbrev pub valued : ℕ → State
valued v = after (declare_task 5 ∷ declare_semaphore v ∷ activate 0 ∷ [])

-- The fresh kernel at another instant.
abbrev pub at_instant : ℕ → State
at_instant n = begun_at (instant n) fresh

-- There task 0 is to start one tick later.
abbrev pub starts_next : ℕ → State
starts_next n = final day_length (at_instant n) ((AFTER 1 ACTIVATE 0) ∷ [])

pub record NumberedCases : Type 0 where
  -- 2: 23 bytes, 25 and none; 24.
  pub lengths : numbers fresh (take 23 one_tick ∷ (one_tick ++ 0 ∷ []) ∷ [] ∷ one_tick ∷ []) ≡ 2 ∷ 2 ∷ 2 ∷ 0 ∷ []
  -- The letters XX and xi; XI.
  pub letters : numbers fresh ((0x58 ∷ 0x58 ∷ row 22 0) ∷ (0x78 ∷ 0x69 ∷ row 22 0) ∷ (0x58 ∷ 0x49 ∷ row 22 0) ∷ [])
      ≡ 2 ∷ 2 ∷ 0 ∷ []
  -- A declaration after an accepted call; before one.
  pub late : numbers (running []) (declare_task 5 ∷ declare_clock 0 ∷ []) ≡ 2 ∷ 2 ∷ []
  pub in_time : numbers fresh (declare_task 5 ∷ declare_clock 0 ∷ []) ≡ 0 ∷ 0 ∷ []
  -- 3: TERMINATE with a priority, with a first time; with neither.
  pub unused : numbers (running []) (plain_record TE 0 1 [] 0 ∷ plain_record TE 0 0 [] 1 ∷ terminate 0 ∷ []) ≡ 3 ∷ 3 ∷ 0 ∷ []
  -- A list of length 5, and one with a byte past its length.
  pub past_list : numbers (running []) (set (request (0 ∷ [])) 4 5 ∷ set (request (0 ∷ [])) 6 1 ∷ request (0 ∷ []) ∷ [])
      ≡ 3 ∷ 3 ∷ 0 ∷ []
  -- A declared priority of 0, a preset above 65,535, a start kind above 5, an end kind above 2; those at the limit.
  pub ranges : numbers fresh (declare_task 0 ∷ declare_semaphore 65536 ∷ activation 0 6 0 0 0 1 0 ∷ activation 0 5 0 3 0 1 1 ∷ [])
      ≡ 3 ∷ 3 ∷ 3 ∷ 3 ∷ []
  pub in_range : numbers fresh (declare_task 1 ∷ declare_semaphore 65535 ∷ activation 0 5 0 0 0 1 0 ∷ activation 0 5 0 2 0 1 1 ∷ [])
      ≡ 0 ∷ 0 ∷ 0 ∷ 0 ∷ []
  -- 4: an empty list, one that names 0 twice, and a TRY of two numbers; one number.
  pub lists : numbers (running []) (request [] ∷ request (0 ∷ 0 ∷ []) ∷ plain_record TR 0 0 (0 ∷ 1 ∷ []) 0 ∷ [])
      ≡ 4 ∷ 4 ∷ 4 ∷ []
  pub one_number_law : numbers (running []) (request (0 ∷ []) ∷ try 0 ∷ []) ≡ 0 ∷ 0 ∷ []
  -- 5: the first task, semaphore, bolt and interrupt that isn't declared; the last that is.
  pub undeclared : numbers (running [])
      (activate 2 ∷ request (1 ∷ []) ∷ reserve (0 ∷ 1 ∷ []) ∷ trigger 1 ∷ (WHEN 1 AFTER 1 ACTIVATE 0) ∷ (WHEN 1 RESUME) ∷ [])
      ≡ 5 ∷ 5 ∷ 5 ∷ 5 ∷ 5 ∷ 5 ∷ []
  pub declared : numbers (running [])
      (activate 1 ∷ request (0 ∷ []) ∷ reserve (0 ∷ []) ∷ trigger 0 ∷ (WHEN 0 AFTER 1 ACTIVATE 0) ∷ (WHEN 0 RESUME) ∷ [])
      ≡ 0 ∷ 0 ∷ 0 ∷ 0 ∷ 0 ∷ 0 ∷ []
  -- It comes behind 3 and 4, and before 6.
  pub five_between : numbers (running []) (plain_record TE 2 1 [] 0 ∷ request (1 ∷ 1 ∷ []) ∷ (AFTER 0 ACTIVATE 2) ∷ [])
      ≡ 3 ∷ 4 ∷ 5 ∷ []
  -- 6: a duration of 0 and one above 1,000,000,000; those at the limits.
  pub durations : numbers fresh
      ((AFTER 0 ACTIVATE 0) ∷ (AFTER 1 ACTIVATE 0) ∷ (AFTER 1000000000 ACTIVATE 0) ∷ (AFTER 1000000001 ACTIVATE 0) ∷ [])
      ≡ 6 ∷ 0 ∷ 0 ∷ 6 ∷ []
  -- A time of day of 24:00; the last one before it.
  pub times_of_day : numbers fresh
      ((AT 86400000 ACTIVATE 0) ∷ (AT 86399999 ACTIVATE 0) ∷ declare_clock 86400000 ∷ declare_clock 86399999 ∷ [])
      ≡ 6 ∷ 0 ∷ 6 ∷ 0 ∷ []
  -- A period above 1,000,000,000, ALL without one, and an end without one.
  pub periods : numbers fresh
      (activation 0 2 0 0 1 1000000001 0 ∷ activation 0 5 0 0 0 0 0 ∷ activation 0 2 0 2 1 0 1 ∷ activation 0 2 0 0 1 1000000000 0 ∷ [])
      ≡ 6 ∷ 6 ∷ 6 ∷ 0 ∷ []
  -- 7: the 33rd task, the 17th semaphore and bolt, the ninth interrupt; the ones before them. DC has room always.
  pub tasks_full : numbers (after (row 32 (declare_task 5))) (declare_task 5 ∷ declare_bolt ∷ declare_clock 0 ∷ []) ≡ 7 ∷ 0 ∷ 0 ∷ []
  pub semaphores_full : numbers (after (row 16 (declare_semaphore 0))) (declare_semaphore 0 ∷ declare_bolt ∷ []) ≡ 7 ∷ 0 ∷ []
  pub bolts_full : numbers (after (row 16 declare_bolt)) (declare_bolt ∷ declare_semaphore 0 ∷ []) ≡ 7 ∷ 0 ∷ []
  pub interrupts_full : numbers (after (row 8 declare_interrupt)) (declare_interrupt ∷ declare_task 5 ∷ []) ≡ 7 ∷ 0 ∷ []
  pub last_task : numbers (after (row 31 (declare_task 5))) (declare_task 5 ∷ []) ≡ 0 ∷ []
  pub last_semaphore : numbers (after (row 15 (declare_semaphore 0))) (declare_semaphore 0 ∷ []) ≡ 0 ∷ []
  pub last_bolt : numbers (after (row 15 declare_bolt)) (declare_bolt ∷ []) ≡ 0 ∷ []
  pub last_interrupt : numbers (after (row 7 declare_interrupt)) (declare_interrupt ∷ []) ≡ 0 ∷ []
  -- 8: EN, RE and the calls with a list while nobody runs; with a runner.
  pub nobody_runs : numbers fresh
      (end ∷ resume_after 1 ∷ request (0 ∷ []) ∷ release (0 ∷ []) ∷ try 0
      ∷ reserve (0 ∷ []) ∷ free (0 ∷ []) ∷ enter (0 ∷ []) ∷ leave (0 ∷ []) ∷ [])
      ≡ row 9 8
  pub one_runs_law : numbers (running [])
      (end ∷ resume_after 1 ∷ request (0 ∷ []) ∷ release (0 ∷ []) ∷ try 0 ∷ reserve (0 ∷ []) ∷ enter (0 ∷ []) ∷ [])
      ≡ row 7 0
  -- 9: ACTIVATE of a living task; of a terminated one, and on a schedule.
  pub alive : numbers (running []) (activate 0 ∷ activate 1 ∷ (AFTER 1 ACTIVATE 0) ∷ []) ≡ 9 ∷ 0 ∷ 0 ∷ []
  -- 10: TERMINATE, SUSPEND and CONTINUE of a terminated task; PREVENT of it, and CONTINUE on a schedule.
  pub terminated : numbers (running [])
      (terminate 1 ∷ suspend 1 ∷ (CONTINUE 1 PRIO 0) ∷ prevent 1 ∷ (AFTER 1 CONTINUE 1 PRIO 0) ∷ [])
      ≡ 10 ∷ 10 ∷ 10 ∷ 0 ∷ 0 ∷ []
  -- 11 and 12: a suspended task can be continued, an unheld one suspended, and a delayed one both.
  pub suspended : numbers (running (suspend 0 ∷ [])) (suspend 0 ∷ (CONTINUE 0 PRIO 0) ∷ []) ≡ 11 ∷ 0 ∷ []
  pub unheld : numbers (running []) (suspend 0 ∷ (CONTINUE 0 PRIO 0) ∷ []) ≡ 0 ∷ 12 ∷ []
  pub delayed : numbers (running (resume_after 5 ∷ [])) (suspend 0 ∷ (CONTINUE 0 PRIO 0) ∷ []) ≡ 0 ∷ 0 ∷ []
  -- 13: RELEASE at 65,535; at 65,534.
  pub at_most : numbers (valued 65535) (release (0 ∷ []) ∷ []) ≡ 13 ∷ []
  pub below_most : numbers (valued 65534) (release (0 ∷ []) ∷ []) ≡ 0 ∷ []
  -- 14: FREE without a writer and LEAVE without a reader; each with one.
  pub empty_bolt_law : numbers (running []) (free (0 ∷ []) ∷ leave (0 ∷ []) ∷ []) ≡ 14 ∷ 14 ∷ []
  pub reserved_bolt : numbers (running (reserve (0 ∷ []) ∷ [])) (free (0 ∷ []) ∷ leave (0 ∷ []) ∷ []) ≡ 0 ∷ 14 ∷ []
  pub entered_bolt : numbers (running (enter (0 ∷ []) ∷ [])) (free (0 ∷ []) ∷ leave (0 ∷ []) ∷ []) ≡ 14 ∷ 0 ∷ []
  -- 15: a tick at 2^40, and no other call; one tick before.
  pub last_instant_law : numbers (at_instant 1099511627776) (one_tick ∷ activate 0 ∷ []) ≡ 15 ∷ 0 ∷ []
  pub one_before : numbers (at_instant 1099511627775) (one_tick ∷ []) ≡ 0 ∷ []
  -- 16: nobody on file, though task 0 runs, or an event that doesn't come; what the rules give.
  pub nobody_on_file : numbers (with_file (record { running = None; next = None }) (running [])) (one_tick ∷ [] ∷ [])
      ≡ 16 ∷ 16 ∷ []
  pub event_on_file : numbers (with_file (record { running = Some 0; next = Some (instant 7) }) (running [])) (one_tick ∷ [])
      ≡ 16 ∷ []
  pub right_on_file : numbers (with_file (record { running = Some 0; next = None }) (running [])) (one_tick ∷ []) ≡ 0 ∷ []
  -- 17: a sleep with nothing to come, or with a start beyond 2^40; to a start at 2^40.
  pub nothing_comes : numbers (running []) (sleep ∷ []) ≡ 17 ∷ []
  pub comes_too_late : numbers (starts_next 1099511627776) (sleep ∷ []) ≡ 17 ∷ []
  pub comes_at_last : numbers (starts_next 1099511627775) (sleep ∷ []) ≡ 0 ∷ []
