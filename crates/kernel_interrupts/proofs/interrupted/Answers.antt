-- Arm by arm.
use borrow.Enum.Refused.{opened as unsealed}
use borrow.Author.Rules.{rules}
use mathlib.Core.Path.{refl, ◌∙◌}
use mathlib.Core.List.{◌++◌}
use lib.ListN.{take, drop}
use Rattle.calendar.specs.Limits.{day_length}
use Rattle.layout.specs.Marks.{marks}
use Rattle.layout.proofs.MarksLaws.{alike}
use Rattle.machine.specs.Calls.{interrupt_by}
use Rattle.machine.specs.Step.{finish}
use Rattle.machine.proofs.Passed.{parts}
use Rattle.kernel_test.proofs.SoundLaws.{sound}
use Rattle.kernel_interrupts.proofs.interrupted.Goals as goal

pub enable_in-requires : goal.enable_in-requires
enable_in-requires c = record { next_value = c.requires.next_value; k_value = (sound day_length _ c.requires.k_value).waits; places_value = (parts day_length _ c.requires.k_value).places; i_lt_interrupts = c.requires.number_lt_interrupts }

pub enable_in-requires-in_default : goal.enable_in-requires-in_default
enable_in-requires-in_default c = record { next_value = c.requires.next_value; k_value = (sound day_length _ c.requires.k_value).waits; places_value = (parts day_length _ c.requires.k_value).places; i_lt_interrupts = c.requires.number_lt_interrupts }
