-- Everything that a script computes with, under one name.
use mathlib.Core.List.{List, map}
use Prim.Native.Nat.{ℕ}
use Rattle.calendar.specs.Limits.{day_length}
use Rattle.calendar.specs.Times.{time_of_day, until}
use Rattle.calendar.specs.Dues.{first_due, last_allowed, allowed, next_due}
use Rattle.calendar.specs.Moments.{first_after}
use Rattle.layout.specs.Marks.{among}
use Rattle.layout.specs.Fields.{head_of, list_of, bytes_of}
use Rattle.lists.specs.Lists.{all_zero, names, distinct, every}
use Rattle.record.specs.Refusals.{uses, clean_names, clean_start, ranged, formed, listed, end_timed, first_timed, start_timed, resume_timed, timed, shape, times}
use Rattle.record.specs.Reading.{opened}
use Rattle.lock.specs.Locks.{level, can_move, move_one, for_each}
use Rattle.schedule.specs.Alarms.{alarm_of}
use Rattle.schedule.specs.Schedules.{advance, last_of}
use Rattle.task.specs.Continuations.{spent, continued, continue_at, called_by}
use Rattle.task.specs.Turns.{due_if, end_if, prevent_turn, suspend_turn, go_on_turn, delay_turn, wake, fall_turn, start_turn}
use Rattle.machine.specs.declared.Answer.{Answer}
use Rattle.machine.specs.Sets.{has, set_of}
use Rattle.machine.specs.State.{fresh_task, nothing}
use Rattle.machine.specs.Running.{urgency, most_urgent, running_of}
use Rattle.machine.specs.NextEvent.{all_pending, next_among}
use Rattle.machine.specs.Granting.{unopposed, available, could_be_granted}
use Rattle.machine.specs.Sorts.{declares}
use Rattle.machine.specs.Work.{changed, only_enabled, every_turn}
use Rattle.machine.specs.Serving.{grant_to, serve}
use Rattle.machine.specs.Places.{event, to_end, moved_below}
use Rattle.machine.specs.Sums.{all_below}
use Rattle.machine.specs.Test.{alarm_ok, schedule_ok, continuation_ok, task_ok, counts_ok, places_ok, nobody_servable, valid, filed, kernel_refusal}
use Rattle.machine.specs.Refusals.{declared_by, room_for, formal_refusal, admitted_if, refusal_by}
use Rattle.machine.specs.Activation.{schedule_of, activate_by, continue_by, resume_by}
use Rattle.machine.specs.Calls.{add_task, add_semaphore, add_bolt, add_interrupt, declaration, named_turn, runner_turn, ask_for, change_of, trigger_in, interrupt_by, arrive, arrival, work_by}
use Rattle.machine.specs.Step.{answered, finish, declared, carry_out, settle, step}
use Rattle.machine.specs.Log.{final, log}

unfoldable pub computed : List (List ℕ) → List Answer
unfolding time_of_day until first_due last_allowed allowed next_due first_after among head_of list_of bytes_of all_zero names distinct uses clean_names clean_start ranged formed listed end_timed first_timed start_timed resume_timed timed shape times opened level can_move move_one every for_each alarm_of advance last_of due_if end_if prevent_turn suspend_turn go_on_turn delay_turn spent continued continue_at called_by wake fall_turn start_turn has set_of fresh_task nothing urgency most_urgent running_of all_pending next_among unopposed available could_be_granted changed only_enabled every_turn grant_to serve event to_end moved_below alarm_ok schedule_ok continuation_ok task_ok all_below counts_ok places_ok nobody_servable valid filed kernel_refusal declares declared_by room_for formal_refusal admitted_if refusal_by add_task add_semaphore add_bolt add_interrupt declaration schedule_of activate_by continue_by resume_by named_turn runner_turn ask_for change_of trigger_in interrupt_by arrive arrival work_by answered finish declared carry_out settle step final log
computed rs = map (λ e. e.answer) (log day_length nothing rs)
