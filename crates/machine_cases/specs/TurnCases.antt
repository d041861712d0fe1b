-- Equal urgency takes turns, in scripts that are worked out by hand, from byte records on a kernel in which nothing is
-- declared (request 3). Proved in proofs/TurnCases.antt.
use Rattle.std.specs.Prelude.{None, Some, ◌≡◌, List, [], ◌∷◌, ◌++◌, map, ℕ, ◌^◌, take, set}
use Rattle.calendar.specs.Limits.{day_length}
use Rattle.machine.specs.declared.State.{State}
use Rattle.machine.specs.declared.Answer.{Answer}
use Rattle.machine.specs.Running.{Running}
use Rattle.machine.specs.State.{with_places}
use Rattle.machine.specs.Step.{plain_answer, step}
use Rattle.machine.specs.Scripts.{row, declare_task, declare_semaphore, declare_bolt, activate, suspend, end, resume_after, request, release, try, reserve, free, enter, one_tick, ACTIVATE◌PRIO◌, AFTER◌ACTIVATE◌, CONTINUE◌PRIO◌, AT◌RESUME, AFTER◌RESUME}
use Rattle.machine.specs.Turns.{last_event}
use Rattle.machine_cases.specs.Marked.{answers, after, line, quiet}

-- ---- lines

-- Task i has started, ended, or been granted its list, and r runs.
abbrev pub starts : ℕ → Running → Answer
starts i r = line 0 r (2 ^ i) (2 ^ i) 0 0 0

abbrev pub ends : ℕ → Running → Answer
ends i r = line 0 r 0 0 (2 ^ i) 0 0

abbrev pub grants : ℕ → Running → Answer
grants i r = line 0 r 0 0 0 0 (2 ^ i)

-- ---- the scripts' beginnings

-- Three tasks of priority 5, and semaphore 0 with its preset.
abbrev pub three : ℕ → List (List ℕ)
three preset = declare_task 5 ∷ declare_task 5 ∷ declare_task 5 ∷ declare_semaphore preset ∷ []

abbrev pub three_lines : List Answer
three_lines = row 4 (quiet None)

-- All three are started, by number.
abbrev pub opening : ℕ → List (List ℕ)
opening preset = three preset ++ activate 0 ∷ activate 1 ∷ activate 2 ∷ []

abbrev pub begun_lines : List Answer
begun_lines = three_lines ++ starts 0 (Some 0) ∷ starts 1 (Some 0) ∷ starts 2 (Some 0) ∷ []

-- Task 0 waits, then 1 and 2 start. While 0 is suspended it is granted what it waits for.
abbrev pub granted_held : List (List ℕ)
granted_held =
    three 0
    ++ activate 0 ∷ request (0 ∷ []) ∷ activate 1 ∷ activate 2 ∷ suspend 0 ∷ release (0 ∷ []) ∷ []

-- Task 2 is started, then 0.
abbrev pub turned : List (List ℕ)
turned = three 0 ++ activate 2 ∷ activate 0 ∷ []

-- Then come a tick and four refused records, the last no record at all.
abbrev pub unmoving : List (List ℕ)
unmoving = turned ++ one_tick ∷ activate 0 ∷ activate 3 ∷ declare_task 5 ∷ [] ∷ []

-- The places of the three tasks after a script.
abbrev pub places_after : List (List ℕ) → List ℕ
places_after rs = take 3 (after rs).places

-- A kernel in which task i has place p.
abbrev pub with_place : ℕ → ℕ → State → State
with_place i p k = with_places (set k.places i p) k

pub record TurnCases : Type 0 where
  -- ---- who runs
  -- Each of three tasks ends and is started anew: all have their turn.
  pub round_robin : answers (opening 0 ++ end ∷ activate 0 ∷ end ∷ activate 1 ∷ end ∷ activate 2 ∷ end ∷ [])
      ≡ begun_lines
      ++ ends 0 (Some 1) ∷ starts 0 (Some 1)
      ∷ ends 1 (Some 2) ∷ starts 1 (Some 2)
      ∷ ends 2 (Some 0) ∷ starts 2 (Some 0)
      ∷ ends 0 (Some 1)
      ∷ []
  -- Task 1 started before 0. A more urgent task preempts it; then it runs on, before 0.
  pub preempted : answers
      (declare_task 5 ∷ declare_task 5 ∷ declare_task 3 ∷ activate 1 ∷ activate 0 ∷ activate 2 ∷ end ∷ [])
      ≡ row 3 (quiet None) ++ starts 1 (Some 1) ∷ starts 0 (Some 1) ∷ starts 2 (Some 2) ∷ ends 2 (Some 1) ∷ []
  -- Task 0 ends, and the start that was kept back starts it in the same call: it goes behind the others.
  pub kept_back : answers (opening 0 ++ (AFTER 1 ACTIVATE 0) ∷ one_tick ∷ end ∷ end ∷ end ∷ [])
      ≡ begun_lines
      ++ quiet (Some 0) ∷ line 0 (Some 0) 1 0 0 0 0
      ∷ line 0 (Some 1) 0 1 1 0 0 ∷ ends 1 (Some 2) ∷ ends 2 (Some 0)
      ∷ []
  -- A suspended task that is continued goes behind the others, whether it ran or not.
  pub suspended_runner : answers (opening 0 ++ suspend 0 ∷ (CONTINUE 0 PRIO 0) ∷ end ∷ end ∷ [])
      ≡ begun_lines ++ quiet (Some 1) ∷ quiet (Some 1) ∷ ends 1 (Some 2) ∷ ends 2 (Some 0) ∷ []
  pub suspended_other : answers (opening 0 ++ suspend 1 ∷ (CONTINUE 1 PRIO 0) ∷ end ∷ end ∷ [])
      ≡ begun_lines ++ quiet (Some 0) ∷ quiet (Some 0) ∷ ends 0 (Some 2) ∷ ends 2 (Some 1) ∷ []
  -- RESUME AT the present time keeps the place: the runner runs on.
  pub resume_now : answers (opening 0 ++ (AT 0 RESUME) ∷ []) ≡ begun_lines ++ quiet (Some 0) ∷ []
  -- RESUME AFTER loses it, on a schedule and as a plain delay.
  pub resume_later : answers (opening 0 ++ (AFTER 1 RESUME) ∷ one_tick ∷ end ∷ end ∷ [])
      ≡ begun_lines ++ quiet (Some 1) ∷ quiet (Some 1) ∷ ends 1 (Some 2) ∷ ends 2 (Some 0) ∷ []
  pub resume_delay : answers (opening 0 ++ resume_after 1 ∷ one_tick ∷ end ∷ end ∷ [])
      ≡ begun_lines ++ quiet (Some 1) ∷ quiet (Some 1) ∷ ends 1 (Some 2) ∷ ends 2 (Some 0) ∷ []
  -- TRY, granted or not, and a REQUEST that is granted at once keep it.
  pub no_wait : answers (opening 1 ++ try 0 ∷ try 0 ∷ release (0 ∷ []) ∷ request (0 ∷ []) ∷ [])
      ≡ begun_lines ++ grants 0 (Some 0) ∷ quiet (Some 0) ∷ quiet (Some 0) ∷ grants 0 (Some 0) ∷ []
  -- ---- waiting and serving
  -- Task 0 waits, and 2 is started meanwhile. Granted, 0 goes behind 2.
  pub granted : answers
      (three 0 ++ activate 0 ∷ activate 1 ∷ request (0 ∷ []) ∷ activate 2 ∷ release (0 ∷ []) ∷ end ∷ end ∷ [])
      ≡ three_lines
      ++ starts 0 (Some 0) ∷ starts 1 (Some 0) ∷ quiet (Some 1) ∷ starts 2 (Some 1)
      ∷ grants 0 (Some 1) ∷ ends 1 (Some 2) ∷ ends 2 (Some 0)
      ∷ []
  -- Task 1 asked before 0 and is served before it.
  pub asked_first : answers
      (three 0
      ++ activate 1 ∷ request (0 ∷ []) ∷ activate 0 ∷ request (0 ∷ []) ∷ activate 2
      ∷ release (0 ∷ []) ∷ release (0 ∷ []) ∷ end ∷ [])
      ≡ three_lines
      ++ starts 1 (Some 1) ∷ quiet None ∷ starts 0 (Some 0) ∷ quiet None ∷ starts 2 (Some 2)
      ∷ grants 1 (Some 2) ∷ grants 0 (Some 2) ∷ ends 2 (Some 1)
      ∷ []
  -- So it is where 0 started first: 1, more urgent then, asked before it, and is as urgent when it is served.
  pub started_first : answers
      (three 0
      ++ activate 0 ∷ (ACTIVATE 1 PRIO 3) ∷ request (0 ∷ []) ∷ request (0 ∷ [])
      ∷ suspend 1 ∷ (CONTINUE 1 PRIO 5) ∷ activate 2 ∷ release (0 ∷ []) ∷ [])
      ≡ three_lines
      ++ starts 0 (Some 0) ∷ starts 1 (Some 1) ∷ quiet (Some 0) ∷ quiet None
      ∷ quiet None ∷ quiet None ∷ starts 2 (Some 2) ∷ grants 1 (Some 2)
      ∷ []
  -- A waiter that is granted its list while it is suspended keeps the place of its wait until it is runnable.
  pub granted_held_law : answers granted_held
      ≡ three_lines
      ++ starts 0 (Some 0) ∷ quiet None ∷ starts 1 (Some 1) ∷ starts 2 (Some 1) ∷ quiet (Some 1) ∷ grants 0 (Some 1)
      ∷ []
  pub granted_held_places : places_after granted_held ≡ 0 ∷ 1 ∷ 2 ∷ []
  pub continued_places : places_after (granted_held ++ (CONTINUE 0 PRIO 0) ∷ []) ≡ 2 ∷ 0 ∷ 1 ∷ []
  -- ---- several in one call
  -- Three starts in one tick go by number, though task 0 had stood last.
  pub one_tick_law : answers
      (three 0
      ++ activate 0 ∷ end ∷ (AFTER 1 ACTIVATE 2) ∷ (AFTER 1 ACTIVATE 1) ∷ (AFTER 1 ACTIVATE 0)
      ∷ one_tick ∷ end ∷ end ∷ [])
      ≡ three_lines
      ++ starts 0 (Some 0) ∷ ends 0 None ∷ quiet None ∷ quiet None ∷ quiet None
      ∷ line 0 (Some 0) 7 7 0 0 0 ∷ ends 0 (Some 1) ∷ ends 1 (Some 2)
      ∷ []
  -- Two readers that one FREE lets in run by number, though 1 asked before 0.
  pub one_free : answers
      (declare_task 5 ∷ declare_task 5 ∷ declare_task 9 ∷ declare_bolt
      ∷ activate 2 ∷ reserve (0 ∷ []) ∷ activate 1 ∷ enter (0 ∷ []) ∷ activate 0 ∷ enter (0 ∷ []) ∷ free (0 ∷ []) ∷ [])
      ≡ row 4 (quiet None)
      ++ starts 2 (Some 2) ∷ grants 2 (Some 2) ∷ starts 1 (Some 1) ∷ quiet (Some 2) ∷ starts 0 (Some 0) ∷ quiet (Some 2)
      ∷ line 0 (Some 0) 0 0 0 0 3
      ∷ []
  -- ---- the stored places
  -- Fresh tasks stand by number. Task 2 is started and goes to the last place, then 0 does, and the others close up.
  pub declared_places : places_after (three 0) ≡ 0 ∷ 1 ∷ 2 ∷ []
  pub turned_places : places_after turned ≡ 2 ∷ 0 ∷ 1 ∷ []
  -- So the last event of 0 is the sixth record, that of 2 the fifth, and 1 had none.
  pub turned_events : map (last_event day_length turned) (0 ∷ 1 ∷ 2 ∷ []) ≡ 6 ∷ 0 ∷ 5 ∷ []
  -- A tick in which nothing happens moves nobody, nor do refused records.
  pub unmoved : answers unmoving
      ≡ three_lines
      ++ starts 2 (Some 2) ∷ starts 0 (Some 2)
      ∷ quiet (Some 2) ∷ plain_answer 9 (Some 2) ∷ plain_answer 5 (Some 2) ∷ plain_answer 2 (Some 2) ∷ plain_answer 2 (Some 2)
      ∷ []
  pub unmoved_places : places_after unmoving ≡ 2 ∷ 0 ∷ 1 ∷ []
  -- ---- refusal 1
  -- Two tasks at one place, and a place that three tasks don't have.
  pub taken_twice : (step day_length (with_place 0 1 (after (three 0))) one_tick).answer ≡ plain_answer 1 None
  pub out_of_range : (step day_length (with_place 2 3 (after (three 0))) one_tick).answer ≡ plain_answer 1 None
  -- Any other order passes, and so does whatever stands beyond the declared tasks.
  pub other_order : (step day_length (with_place 0 1 (with_place 1 0 (after (three 0)))) one_tick).answer ≡ quiet None
  pub undeclared_place : (step day_length (with_place 3 99 (after (three 0))) one_tick).answer ≡ quiet None
