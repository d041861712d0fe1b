-- A name for a contract: an answer by its parts.
use Rattle.std.specs.Prelude.{ℕ}
use Rattle.machine.specs.declared.Answer.{Answer}
use Rattle.machine.specs.Running.{Running}
use Rattle.machine.specs.declared.Sets.{Sets}

abbrev pub answer_of : ℕ → Running → Sets → Answer
answer_of n r s = record { number = n; running = r; sets = s }
