-- Task by task: the kernel is in range, the tasks looked at so far are fit, and the writers are known where they say so.
use Rattle.std.proofs.Common.{◌≡◌, ◌≤◌}
use mathlib.Core.Bool.{true, ◌&&◌}
use Rattle.calendar.specs.Limits.{day_length}
use Rattle.machine.specs.State.{most_tasks}
use Rattle.machine.specs.Sums.{all_below}
use Rattle.machine.specs.Test.{counts_ok, places_ok, valid}
use Rattle.kernel_granting.specs.Writers.{Known}
use Rattle.kernel_test.proofs.TestLaws.{fit_at}
use Rattle.kernel_test.proofs.Surveying.{Looked}
use Rattle.kernel_test.proofs.surveyed.Given as goal

abbrev pub invariant-loop-i : goal.invariant-loop-i
invariant-loop-i l = record {
  few : l.k.counts.tasks ≤ most_tasks;
  counted : counts_ok l.k.counts ≡ true;
  all : (all_below l.k.counts.tasks (fit_at day_length l.k) && places_ok l.k.counts.tasks l.k.places) ≡ valid day_length l.k;
  looked : Looked day_length l.k l.i l.soonest l.seen l.lead;
  known : Known l.k.counts.tasks l.k.tasks l.writers;
}
