-- Names for contracts: sets with one more task.
use Rattle.std.specs.Prelude.{Bool, true, false, ℕ}
use Rattle.task.specs.declared.Marks.{Marks}
use Rattle.machine.specs.Sets.{put, mark, members, each_set}
use Rattle.machine.specs.declared.Sets.{Sets}

-- The set n, and task i if b.
abbrev pub put_if : ℕ → Bool → ℕ → ℕ
put_if i true n = put i n
put_if i false n = n

-- Task i is put into the sets that its marks name.
abbrev pub put_marks : ℕ → Marks → Sets → Sets
put_marks i m s = each_set (λ x. put_if i (mark x m) (members x s))
