-- Names for the contracts of inner functions. The machine doesn't use them.
use Rattle.std.specs.Prelude.{◌≡◌, true, not, ◌&&◌, ◌||◌, ℕ, ◌≤◌, ltb, eqb}
use Rattle.calendar.specs.Limits.{last_instant}
use Rattle.calendar.specs.Moments.{comes_by, Moment}
use Rattle.calendar.specs.declared.Instant.{Instant}
use Rattle.layout.specs.Marks.{is}
use Rattle.layout.specs.declared.Call.{Call}
use Rattle.layout.specs.declared.Head.{Head}
use Rattle.layout.specs.declared.Mark.{Mark}
use Rattle.layout.specs.declared.Mark.TheVariants.{AC, TE, SU, TI, SL}
use Rattle.lists.specs.Lists.{distinct, every}
use Rattle.record.specs.Refusals.{named, unless}
use Rattle.lock.specs.Locks.{most_locks}
use Rattle.task.specs.State.{unheld, suspended}
use Rattle.task.specs.declared.Task.{Task}
use Rattle.machine.specs.Refusals.{is_continue}
use Rattle.layout.specs.Fields.{most_numbers}

-- A call's list, if it has one, is in order: at most four numbers, none twice, each with a place in the tables.
pub record InOrder (c : Call) : Type 0 where
  pub short : c.head.len ≤ most_numbers
  pub once : distinct (named c) ≡ true
  pub below : every (λ x. ltb x most_locks) (named c) ≡ true

-- 9 to 12, or 0: the refusals of a call that names the task t.
unfoldable pub named_refusal : Mark → Head → Task → ℕ
named_refusal m h t =
    unless (not (is m AC && eqb h.kind 0) || not t.alive) 9
    (unless (not (is m TE || is m SU || is_continue m h) || t.alive) 10
    (unless (not (is m SU) || not (suspended t.hold)) 11
    (unless (not (is_continue m h) || not (unheld t.hold)) 12 0)))

-- 15, 17, or 0: the refusals of TI and SL, with the present instant and the next event.
unfoldable pub time_refusal : Mark → Instant → Moment → ℕ
time_refusal m n e =
    unless (not (is m TI) || ltb n.0 last_instant) 15 (unless (not (is m SL) || comes_by last_instant e) 17 0)
