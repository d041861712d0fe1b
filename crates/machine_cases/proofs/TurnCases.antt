-- The scripts of turns are computed.
use mathlib.Core.Path.{refl}
use Rattle.machine.specs.Scripts.{row}
use Rattle.machine.specs.Turns.{last_from}
use Rattle.machine_cases.specs.TurnCases.{TurnCases}
use Rattle.machine.proofs.Computing.{computed}

pub turn_cases : TurnCases
unfolding computed row last_from
turn_cases =
    record {
      round_robin = refl;
      preempted = refl;
      kept_back = refl;
      suspended_runner = refl;
      suspended_other = refl;
      resume_now = refl;
      resume_later = refl;
      resume_delay = refl;
      no_wait = refl;
      granted = refl;
      asked_first = refl;
      started_first = refl;
      granted_held_law = refl;
      granted_held_places = refl;
      continued_places = refl;
      one_tick_law = refl;
      one_free = refl;
      declared_places = refl;
      turned_places = refl;
      turned_events = refl;
      unmoved = refl;
      unmoved_places = refl;
      taken_twice = refl;
      out_of_range = refl;
      other_order = refl;
      undeclared_place = refl;
    }
