-- The grounds of refusal 1 are computed.
use mathlib.Core.Path.{refl}
use Rattle.machine.specs.Scripts.{row}
use Rattle.machine_cases.specs.Grounds.{numbers_to, GroundCases}
use Rattle.machine.proofs.Computing.{computed}

pub ground_cases : GroundCases
unfolding computed row numbers_to
ground_cases =
    record {
      most_tasks_law = (refl, refl);
      most_semaphores_law = (refl, refl);
      most_bolts_law = (refl, refl);
      most_interrupts_law = (refl, refl);
      last_tick = refl;
      instant_beyond = refl;
      clock = (refl, refl);
      value = (refl, refl);
      readers = (refl, refl);
      least_declared = (refl, refl);
      most_declared = (refl, refl);
      least_current = (refl, refl);
      most_current = (refl, refl);
      least_kept = (refl, refl);
      most_kept = (refl, refl);
      delayed = (refl, refl);
      dead_waits = (refl, refl);
      dead_suspended = (refl, refl);
      dead_delayed = (refl, refl);
      dead_kept = (refl, refl);
      empty_list = (refl, refl);
      five_numbers = (refl, refl);
      repeated = (refl, refl);
      no_semaphore = (refl, refl);
      no_bolt = (refl, refl);
      no_bolt_to_enter = (refl, refl);
      grantable_request = (refl, refl);
      grantable_reserve = (refl, refl);
      grantable_enter = (refl, refl);
      least_priority = (refl, refl);
      most_priority_law = (refl, refl);
      period = (refl, refl);
      until = (refl, refl);
      least_during = (refl, refl);
      most_during = (refl, refl);
      next = (refl, refl);
      triggered_next = (refl, refl);
      last = (refl, refl);
      interrupt = (refl, refl);
      triggered_interrupt = (refl, refl);
      delay = (refl, refl);
      given = (refl, refl);
      given_none = refl;
      continued_next = (refl, refl);
      continued_interrupt = (refl, refl);
      continued_delay = (refl, refl);
      undeclared_task = refl;
      undeclared_value = refl;
      undeclared_readers = refl;
    }
