-- The scripts of waiting writers are computed.
use mathlib.Core.Path.{refl}
use Rattle.machine.specs.Scripts.{row}
use Rattle.machine_cases.specs.Writers.{WriterCases}
use Rattle.machine.proofs.Computing.{computed}

pub writer_cases : WriterCases
unfolding computed row
writer_cases =
    record {
      bytes = refl;
      equal = refl;
      less_urgent_law = refl;
      more_urgent = refl;
      writer_next = refl;
      held = refl;
      again = refl;
      writer_continued = refl;
      writer_activated = refl;
      reader_activated = refl;
      another_bolt = refl;
      whole_list = refl;
      none_held = refl;
      other_writer = refl;
      waiting_reader = refl;
      semaphores_apart = refl;
      continued = refl;
      continued_between = refl;
      reader_continued = refl;
      ended = refl;
      restarted = refl;
      at_once = refl;
      ticked = refl;
      triggered = refl;
      unchanged = refl;
      by_urgency = refl;
      tie = refl;
      tested = refl;
      reader_at_4 = refl;
      writer_at_6 = refl;
    }
