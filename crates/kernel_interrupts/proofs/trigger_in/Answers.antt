-- An enabled interrupt gives each task its turn; another changes nothing.
use mathlib.Core.Path.{sym, ◌∙◌, ap}
use native.Mathlib.Omega.{arith}
use Rattle.calendar.specs.Limits.{day_length}
use Rattle.task.specs.Turns.{trigger_turn}
use Rattle.machine.specs.declared.State.{State}
use Rattle.machine.specs.NextEvent.{next_among}
use Rattle.machine.specs.Invariants.{IsDay}
use Rattle.machine.specs.Step.{finish}
use Rattle.machine.proofs.Passed.{tested, parts}
use Rattle.machine.proofs.Turns.{good_trigger}
use Rattle.kernel_values.proofs.Owned.{tasks_long}
use Rattle.kernel_test.proofs.SoundLaws.{sound}
use Rattle.kernel_finish.proofs.EveryTask.{every_finish, every_waits, trigger_on, trigger_off}
use Rattle.kernel_interrupts.proofs.trigger_in.Goals as goal

is_day : IsDay day_length
is_day = record { some = omega arith; room = omega arith }

pub bounds-k-i : goal.bounds-k-i
bounds-k-i c = omega (arith, c.requires.i_lt_interrupts, (tested day_length c.args.k c.requires.k_value).fits.interrupts)

pub trigger_all-w-requires : goal.trigger_all-w-requires
trigger_all-w-requires c = record { tasks_le_most_tasks = (tested day_length c.args.k c.requires.k_value).fits.tasks; k_le_last_instant = (sound day_length c.args.k c.requires.k_value).now }

pub next_event-next-requires : goal.next_event-next-requires
next_event-next-requires c =
    let k = c.args.k in
    omega (arith, ap (λ (q : State). q.counts.tasks) c.trigger_all-w.ensures.0, (tested day_length k c.requires.k_value).fits.tasks)

pub finished-requires : goal.finished-requires
finished-requires c =
    let k = c.args.k in
    let w = c.trigger_all-w.ensures in
    record {
      k_value = every_waits day_length k c.requires.k_value (tasks_long k (c.well_formed.0.0, c.well_formed.0.1.1)) k.now (trigger_turn day_length k.clock k.now c.args.i)
          (λ t h. (good_trigger day_length k.counts is_day k.clock k.now (sound day_length k c.requires.k_value).now c.args.i t h).ok)
          w.0;
      places_value = rw w.0 (parts day_length k c.requires.k_value).places;
    }

pub returns-then-k-i : goal.returns-then-k-i
returns-then-k-i c =
    let k = c.args.k in
    let w = c.trigger_all-w.ensures in
    let x = c.next_event-next.ensures ∙ ap (λ (q : State). next_among k.now q.counts.tasks c.trigger_all-w.result.state.tasks) w.0 in
    c.finished.ensures k.tasks (rw w.0 (rw w.0 at w.2))
    ∙ every_finish k (trigger_turn day_length k.clock k.now c.args.i) w.0 w.1 x
    ∙ ap (finish k) (sym (trigger_on day_length k c.args.i c.if-k-i.true))

pub done-requires : goal.done-requires
done-requires c = record { next_value = c.requires.next_value; k_value = (sound day_length c.args.k c.requires.k_value).waits; places_value = (parts day_length c.args.k c.requires.k_value).places }

pub returns : goal.returns
returns c =
    c.done.ensures ∙ ap (finish c.args.k) (sym (trigger_off day_length c.args.k c.args.i c.if-k-i.false))
