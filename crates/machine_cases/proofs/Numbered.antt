-- The table of numbers is computed.
use mathlib.Core.Path.{refl}
use Rattle.machine.specs.Scripts.{row}
use Rattle.machine_cases.specs.Numbered.{NumberedCases}
use Rattle.machine.proofs.Computing.{computed}

pub numbered_cases : NumberedCases
unfolding computed row
numbered_cases =
    record {
      lengths = refl;
      letters = refl;
      late = refl;
      in_time = refl;
      unused = refl;
      past_list = refl;
      ranges = refl;
      in_range = refl;
      lists = refl;
      one_number_law = refl;
      undeclared = refl;
      declared = refl;
      five_between = refl;
      durations = refl;
      times_of_day = refl;
      periods = refl;
      tasks_full = refl;
      semaphores_full = refl;
      bolts_full = refl;
      interrupts_full = refl;
      last_task = refl;
      last_semaphore = refl;
      last_bolt = refl;
      last_interrupt = refl;
      nobody_runs = refl;
      one_runs_law = refl;
      alive = refl;
      terminated = refl;
      suspended = refl;
      unheld = refl;
      delayed = refl;
      at_most = refl;
      below_most = refl;
      empty_bolt_law = refl;
      reserved_bolt = refl;
      entered_bolt = refl;
      last_instant_law = refl;
      one_before = refl;
      nobody_on_file = refl;
      event_on_file = refl;
      right_on_file = refl;
      nothing_comes = refl;
      comes_too_late = refl;
      comes_at_last = refl;
    }
