-- The marked cases hold: what is short is computed, long rows of ticks go by the law of quiet ticks.
use Rattle.std.specs.Prelude.{None, Some}
use mathlib.Core.Path.{◌≡◌, refl, ap, ◌∙◌}
use mathlib.Core.Bool.{true, false}
use mathlib.Core.List.{List, [], ◌∷◌, ◌++◌}
use Prim.Native.Nat.{ℕ, ◌+◌, ◌-◌, ◌≤◌, ◌^◌}
use native.Mathlib.Omega.{arith}
use Rattle.calendar.specs.Limits.{day_length, last_instant}
use Rattle.schedule.specs.Schedules.{no_schedule}
use Rattle.task.specs.declared.Task.{Task}
use Rattle.machine.specs.declared.State.{State}
use Rattle.machine.specs.State.{nothing}
use Rattle.machine.specs.Running.{runner}
use Rattle.machine.specs.Test.{kernel_refusal}
use Rattle.machine.specs.Step.{plain_answer, step}
use Rattle.machine.specs.Log.{log}
use Rattle.machine.specs.Scripts.{row, hours, declare_task, declare_clock, one_tick, AT◌ACTIVATE◌, AT◌ALL◌UNTIL◌ACTIVATE◌}
use Rattle.machine.specs.Quiet.{Quiet, later, QuietTicks}
use Rattle.machine_cases.specs.Marked.{answers, after, line, quiet, an_hour, an_hour_lines, three_lines, MarkedCases}
use Rattle.machine.proofs.Computing.{computed}
use Rattle.machine.proofs.Quiet.{ticks_are_quiet}
use Rattle.machine_cases.proofs.Waits.{from, answers_append, quiet_then, only, lone, awake, lone_quiet, lone_answers}
use Rattle.machine_cases.proofs.Evening.{started, Twice, three_lines_law, noon_lines, late_lines}

-- ---- M4

at_once : List (List ℕ)
at_once = declare_task 5 ∷ declare_clock (hours 12) ∷ (AT hours 12 ALL hours 1 UNTIL hours 12 ACTIVATE 0) ∷ []

-- The schedule is gone after its only due.
gone : after at_once ≡ lone (hours 12) 0 (only true None no_schedule)
unfolding computed at_once lone
gone = refl

due_at_once : answers at_once ≡ quiet None ∷ quiet None ∷ line 0 (Some 0) 1 1 0 0 0 ∷ []
unfolding computed at_once
due_at_once = refl

tested : kernel_refusal day_length (lone (hours 12) 0 (only true None no_schedule)) ≡ 0
unfolding computed lone
tested = refl

one_start : (d : ℕ) → d ≤ 2 ^ 40
    → answers (at_once ++ row d one_tick) ≡ quiet None ∷ quiet None ∷ line 0 (Some 0) 1 1 0 0 0 ∷ row d (quiet (Some 0))
one_start d l =
    answers_append at_once (row d one_tick)
    ∙ rw (due_at_once, gone, lone_answers (hours 12) 0 d (only true None no_schedule) tested (λ x a b. refl) (omega arith), awake (hours 12) 0 None no_schedule)

-- After an hour of ticks the task is as it was declared.
declared : List (List ℕ)
declared = declare_task 5 ∷ declare_clock (hours 12) ∷ []

abbrev idle : Task
idle = only false None no_schedule

hour_passes : (rs : List (List ℕ)) → answers (an_hour ++ rs) ≡ an_hour_lines ++ from (lone (hours 12) (hours 1) idle) rs
unfolding computed declared lone later
hour_passes rs =
    answers_append declared (row (hours 1) one_tick ++ rs)
    ∙ ap (λ l. quiet None ∷ quiet None ∷ l) (quiet_then (hours 1) (after declared) refl refl (lone_quiet (hours 12) 0 (hours 1) idle (λ x a b. refl)) (omega arith) rs)

due_once : step day_length (lone (hours 12) (hours 1) idle) (AT hours 13 ACTIVATE 0)
    ≡ record { state = lone (hours 12) (hours 1) (only true None no_schedule); answer = line 0 (Some 0) 1 1 0 0 0 }
unfolding computed lone
due_once = refl

tested_once : kernel_refusal day_length (lone (hours 12) (hours 1) (only true None no_schedule)) ≡ 0
unfolding computed lone
tested_once = refl

once : (d : ℕ) → hours 1 + d ≤ 2 ^ 40
    → answers (an_hour ++ (AT hours 13 ACTIVATE 0) ∷ row d one_tick)
    ≡ an_hour_lines ++ line 0 (Some 0) 1 1 0 0 0 ∷ row d (quiet (Some 0))
unfolding log
once d l =
    hour_passes ((AT hours 13 ACTIVATE 0) ∷ row d one_tick)
    ∙ rw (due_once, lone_answers (hours 12) (hours 1) d (only true None no_schedule) tested_once (λ x a b. refl) l, awake (hours 12) (hours 1) None no_schedule)

-- With an end two hours later.
abbrev pause : ℕ
pause = hours 1 - 1

due_first : step day_length (lone (hours 12) (hours 1) idle) (AT hours 13 ALL hours 1 UNTIL hours 15 ACTIVATE 0)
    ≡ record {
      state = lone (hours 12) (hours 1) (started (hours 12) (hours 13) (hours 15) pause (hours 1));
      answer = line 0 (Some 0) 1 1 0 0 0;
    }
unfolding computed lone
due_first = refl

twice : Twice (hours 12) (hours 13) (hours 15) pause (hours 1)
unfolding computed lone
twice = record { second = refl; third = refl; tested = (refl, refl, refl) }

thrice : (d : ℕ) → hours 3 + d ≤ 2 ^ 40
    → answers (an_hour ++ (AT hours 13 ALL hours 1 UNTIL hours 15 ACTIVATE 0) ∷ row (hours 2 + d) one_tick)
    ≡ an_hour_lines ++ three_lines (hours 1) d
unfolding log
thrice d l =
    hour_passes ((AT hours 13 ALL hours 1 UNTIL hours 15 ACTIVATE 0) ∷ row (hours 2 + d) one_tick)
    ∙ rw (due_first, three_lines_law (hours 12) (hours 13) (hours 15) pause (hours 1) twice d l (hours 2 + d) (omega arith))

-- ---- M10

-- No task is declared, so nothing comes.
nothing_comes : (d : ℕ) → Quiet d nothing
unfolding nothing
nothing_comes d i l x a b = absurd (omega arith)

nothing_tested : kernel_refusal day_length nothing ≡ 0
unfolding computed
nothing_tested = refl

within : nothing.now.0 + 2 ^ 40 ≤ last_instant
unfolding nothing
within = omega arith

nobody_runs : runner nothing ≡ None
unfolding computed
nobody_runs = refl

at_last : from (later (2 ^ 40) nothing) (one_tick ∷ []) ≡ plain_answer 15 None ∷ []
unfolding computed later
at_last = refl

ticks_pass : QuietTicks day_length (2 ^ 40) nothing
unfolding nothing
ticks_pass = ticks_are_quiet day_length (2 ^ 40) nothing refl nothing_tested (nothing_comes (2 ^ 40)) within

last_tick : answers (row (2 ^ 40) one_tick ++ one_tick ∷ []) ≡ row (2 ^ 40) (quiet None) ++ plain_answer 15 None ∷ []
unfolding nothing
last_tick =
    quiet_then (2 ^ 40) nothing refl nothing_tested (nothing_comes (2 ^ 40)) within (one_tick ∷ []) ∙ rw (nobody_runs, at_last)

last_instant_law : (after (row (2 ^ 40) one_tick)).now.0 ≡ 2 ^ 40
unfolding nothing later
last_instant_law = ap (λ (k : State). k.now.0) ticks_pass.state

-- ---- the table

pub marked_cases : MarkedCases
unfolding computed at_once later
marked_cases =
    record {
      request_bytes = refl;
      activate_bytes = refl;
      m1 = refl;
      m2 = noon_lines;
      m3 = late_lines;
      m2_sleeps = refl;
      m2_instant = refl;
      m3_sleeps = refl;
      m3_instant = refl;
      m4 = one_start;
      m4_once = once;
      m4_until = thrice;
      m5 = refl;
      m6 = refl;
      m6_again = refl;
      m7 = refl;
      m7_value = refl;
      m8 = refl;
      m8_values = (refl, refl);
      m8_waits = (refl, refl);
      m9 = refl;
      m10 = last_tick;
      m10_instant = last_instant_law;
    }
