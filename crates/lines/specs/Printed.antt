-- Lines as document 01, "The script program", prints them: number, running task or -, and the sets due, started, ended,
-- lost and granted, decimal, with one space between. Proved in proofs/AnswerLines.antt.
use Rattle.std.specs.Prelude.{None, Some, ◌≡◌, ℕ}
use Rattle.layout.specs.Letters.{ascii}
use Rattle.machine.specs.declared.Answer.{Answer}
use Rattle.machine.specs.Running.{Running}
use Rattle.lines.specs.Lines.{line}

abbrev pub answer_with : ℕ → Running → ℕ → ℕ → ℕ → ℕ → ℕ → Answer
answer_with n r d s e l g =
    record { number = n; running = r; sets = record { due = d; started = s; ended = e; lost = l; granted = g } }

pub record LinesPrinted : Type 0 where
  -- Task 3 runs, and each set has another task.
  pub sets_in_order : line (answer_with 0 (Some 3) 1 2 4 8 16) ≡ ascii "0 3 1 2 4 8 16\n"
  -- A refusal when no task runs.
  pub nothing_runs : line (answer_with 13 None 0 0 0 0 0) ≡ ascii "13 - 0 0 0 0 0\n"
  -- The last task runs and is in the set of those that started, and every task was granted.
  pub ten_digits : line (answer_with 0 (Some 31) 0 2147483648 0 0 4294967295) ≡ ascii "0 31 0 2147483648 0 0 4294967295\n"
