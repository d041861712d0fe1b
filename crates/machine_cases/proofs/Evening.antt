-- A start AT some time ALL p UNTIL another that comes due three times: M2, M3, and M4 with a later end.
use Rattle.std.specs.Prelude.{None, Option, Some}
use mathlib.Core.Path.{◌≡◌, refl, sym, ◌∙◌}
use mathlib.Core.Bool.{Bool, true, false}
use mathlib.Core.List.{List, [], ◌∷◌, ◌++◌, append_assoc}
use Prim.Native.Nat.{ℕ, suc, ◌+◌, ◌-◌, ◌<◌, ◌≤◌}
use native.Mathlib.Omega.{arith}
use borrow.Author.Tests.{ne_eqb}
use Rattle.calendar.specs.Limits.{day_length, last_instant}
use Rattle.calendar.specs.Times.{instant, duration}
use Rattle.calendar.specs.declared.End.TheVariants.{Until}
use Rattle.schedule.specs.Schedules.{no_schedule}
use Rattle.schedule.specs.declared.Plan.TheVariants.{Clock}
use Rattle.schedule.specs.declared.Schedule.{Schedule}
use Rattle.task.specs.declared.Task.{Task}
use Rattle.machine.specs.declared.Answer.{Answer}
use Rattle.machine.specs.Test.{kernel_refusal}
use Rattle.machine.specs.Step.{step}
use Rattle.machine.specs.Scripts.{row, hours, one_tick}
use Rattle.machine_cases.specs.Marked.{answers, after, line, quiet, evening, three_lines, evening_lines}
use Rattle.machine.proofs.Computing.{computed}
use Rattle.machine_cases.proofs.Waits.{from, answers_append, only, asleep, awake, lone, Calm, lone_answers, lone_due}

-- ---- from the first due on

-- The clock, AT and UNTIL, the quiet ticks between two dues, and the instant of the first due.
module _ (c a u q n : ℕ) where
  -- The schedule, by its next due. Its last is two periods after its first.
  abbrev plan : ℕ → Schedule
  plan next =
      record {
        alarm = record { plan = Clock; interrupt = 0; delay = duration 0; next = instant next };
        last = Some (instant (n + (q + 1) + (q + 1)));
        end = Until u;
        period = q + 1;
        priority = 5;
      }

  planned : (m d next : ℕ) (alive : Bool) (kept : Option ℕ) → m + d < next → Calm m d (only alive kept (plan next))
  planned m d next alive kept l x e f = rw (ne_eqb next x (λ z. omega arith))

  -- The task after each of its dues.
  abbrev pub started : Task
  started = only true None (plan (n + (q + 1)))

  abbrev back : Task
  back = only true (Some 5) (plan (n + (q + 1) + (q + 1)))

  abbrev over : Task
  over = only true (Some 5) no_schedule

  -- What computes once all are numbers.
  pub record Twice : Type 0 where
    pub second : step day_length (lone c (n + q) started) one_tick
        ≡ record { state = lone c (n + (q + 1)) back; answer = line 0 (Some 0) 1 0 0 0 0 }
    pub third : step day_length (lone c (n + (q + 1) + q) back) one_tick
        ≡ record { state = lone c (n + (q + 1) + (q + 1)) over; answer = line 0 (Some 0) 1 0 0 1 0 }
    pub tested : (kernel_refusal day_length (lone c n started) ≡ 0)
        × (kernel_refusal day_length (lone c (n + (q + 1)) back) ≡ 0)
        × (kernel_refusal day_length (lone c (n + (q + 1) + (q + 1)) over) ≡ 0)

  -- The lines from the third and from the second due on.
  abbrev third_lines : ℕ → List Answer
  third_lines d = line 0 (Some 0) 1 0 0 1 0 ∷ row d (quiet (Some 0))

  abbrev second_lines : ℕ → List Answer
  second_lines d = line 0 (Some 0) 1 0 0 0 0 ∷ (row q (quiet (Some 0)) ++ third_lines d)

  module _ (h : Twice) (d : ℕ) (l : n + (q + 1) + (q + 1) + d ≤ last_instant) where
    from_third : from (lone c (n + (q + 1) + (q + 1)) over) (row d one_tick) ≡ row d (quiet (Some 0))
    from_third =
        lone_answers c (n + (q + 1) + (q + 1)) d over h.tested.2 (λ x e f. refl) l
        ∙ rw (awake c (n + (q + 1) + (q + 1)) (Some 5) no_schedule)

    from_second : from (lone c (n + (q + 1)) back) (row (q + suc d) one_tick) ≡ row q (quiet (Some 0)) ++ third_lines d
    from_second =
        lone_due c (n + (q + 1)) q back h.tested.1
        (planned (n + (q + 1)) q (n + (q + 1) + (q + 1)) true (Some 5) (omega arith)) (omega arith) _ _ h.third d
        ∙ rw (awake c (n + (q + 1)) (Some 5) (plan (n + (q + 1) + (q + 1))), from_third)

    from_first : from (lone c n started) (row (q + suc (q + suc d)) one_tick) ≡ row q (quiet (Some 0)) ++ second_lines d
    from_first =
        lone_due c n q started h.tested.0 (planned n q (n + (q + 1)) true None (omega arith)) (omega arith) _ _
        h.second (q + suc d)
        ∙ rw (awake c n None (plan (n + (q + 1))), from_second)

    -- With the first due's own line, as they stand in the table.
    pub three_lines_law : (m : ℕ) → m ≡ q + suc (q + suc d)
        → line 0 (Some 0) 1 1 0 0 0 ∷ from (lone c n started) (row m one_tick) ≡ three_lines (q + 1) d
    three_lines_law m e =
        let z : q + 1 - 1 ≡ q = omega arith in
        rw (e, from_first, z)
        (sym (append_assoc (line 0 (Some 0) 1 1 0 0 0 ∷ row q (quiet (Some 0))) (line 0 (Some 0) 1 0 0 0 0 ∷ row q (quiet (Some 0))) (third_lines d)))

-- ---- M2 and M3

-- The quiet ticks between two dues.
abbrev pause : ℕ
pause = hours 2 - 1

-- The time of day at instant 0, and how many quiet ticks come before the first due.
module _ (c g : ℕ) where
  abbrev before : Task
  before = only false None (plan c (hours 22) (hours 2) pause (g + 1) (g + 1))

  record Dues : Type 0 where
    asked : (answers (evening c) ≡ quiet None ∷ quiet None ∷ quiet None ∷ []) × (after (evening c) ≡ lone c 0 before)
    tested : kernel_refusal day_length (lone c 0 before) ≡ 0
    first : step day_length (lone c (0 + g) before) one_tick
        ≡ record { state = lone c (g + 1) (started c (hours 22) (hours 2) pause (g + 1)); answer = line 0 (Some 0) 1 1 0 0 0 }
    more : Twice c (hours 22) (hours 2) pause (g + 1)

  all_lines : Dues → (d : ℕ) → g + 1 + hours 4 + d ≤ last_instant
      → answers (evening c ++ row (g + 1 + hours 4 + d) one_tick) ≡ evening_lines (g + 1) d
  all_lines h d l =
      let m = pause + suc (pause + suc d) in
      let e : g + 1 + hours 4 + d ≡ g + suc m = omega arith in
      let z : g + 1 - 1 ≡ g = omega arith in
      let s = plan c (hours 22) (hours 2) pause (g + 1) (g + 1) in
      answers_append (evening c) (row (g + 1 + hours 4 + d) one_tick)
      ∙ rw (
        h.asked.0,
        h.asked.1,
        e,
        z,
        lone_due c 0 g before h.tested (planned c (hours 22) (hours 2) pause (g + 1) 0 g (g + 1) false None (omega arith)) (omega arith) _ _ h.first m,
        asleep c 0 None s,
        three_lines_law c (hours 22) (hours 2) pause (g + 1) h.more d (omega arith) m refl,
      )

noon : Dues (hours 12) (hours 10 - 1)
unfolding computed lone
noon = record { asked = (refl, refl); tested = refl; first = refl; more = record { second = refl; third = refl; tested = (refl, refl, refl) } }

late : Dues (hours 23) (hours 23 - 1)
unfolding computed lone
late = record { asked = (refl, refl); tested = refl; first = refl; more = record { second = refl; third = refl; tested = (refl, refl, refl) } }

pub noon_lines : (d : ℕ) → hours 14 + d ≤ last_instant
    → answers (evening (hours 12) ++ row (hours 14 + d) one_tick) ≡ evening_lines (hours 10) d
noon_lines = all_lines (hours 12) (hours 10 - 1) noon

pub late_lines : (d : ℕ) → hours 27 + d ≤ last_instant
    → answers (evening (hours 23) ++ row (hours 27 + d) one_tick) ≡ evening_lines (hours 23) d
late_lines = all_lines (hours 23) (hours 23 - 1) late
