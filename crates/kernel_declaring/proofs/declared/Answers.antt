-- Arm by arm, by the room that there is.
use borrow.Enum.Refused.{opened as unsealed}
use borrow.Author.Rules.{rules}
use mathlib.Core.Path.{◌≡◌, refl, sym, ap, ◌∙◌}
use mathlib.Core.Bool.{true}
use mathlib.Core.List.{List}
use Prim.Native.Nat.{ℕ}
use lib.ListN.{drop}
use Rattle.calendar.specs.Limits.{day_length}
use Rattle.layout.specs.Marks.{marks}
use Rattle.layout.specs.declared.Mark.{Mark}
use Rattle.layout.proofs.MarksLaws.{alike}
use Rattle.record.specs.Reading.{call_with}
use Rattle.machine.specs.declared.State.{State}
use Rattle.machine.specs.declared.Stepped.{Stepped}
use Rattle.machine.specs.declared.OnFile.{OnFile}
use Rattle.machine.specs.State.{with_file}
use Rattle.layout.specs.declared.Head.{Head}
use Rattle.machine.specs.Refusals.{room_for, formal_refusal}
use Rattle.machine.specs.NextEvent.{file_of}
use Rattle.machine.specs.Calls.{add_semaphore, declaration}
use Rattle.machine.specs.Step.{answered, declared}
use Rattle.machine.proofs.Passed.{formal, room_task, room_semaphore, room_bolt, room_interrupt}
use Rattle.kernel_declaring.proofs.Presets.{preset_same}
use Rattle.kernel_declaring.proofs.declared.Goals as goal

room : (k : State) (h : Head) (r : (l : List ℕ) × (formal_refusal day_length k.counts k.begun (call_with h l) ≡ 0)) {m : Mark} → h.mark ≡ m → room_for m k.counts ≡ true
room k h r {m} e = rw (← e) (formal day_length k.counts k.begun (call_with h r.0) r.1).room

-- The answer z has the state d, as the mark m leaves it.
left : (k : State) (h : Head) → k.file ≡ file_of k → (l : List ℕ) {m : Mark} {z : Stepped} {d : State} → h.mark ≡ m → z ≡ answered (with_file k.file d) 0 k.file.running
    → d ≡ declaration m (call_with h l) k
    → z ≡ declared k (declaration h.mark (call_with h l) k)
unfolding answered declared
left k h f l {m} e p q =
    p ∙ ap (λ (d : State). answered (with_file k.file d) 0 k.file.running) q
    ∙ ap (λ (g : OnFile). answered (with_file g (declaration m (call_with h l) k)) 0 g.running) f
    ∙ sym (ap (λ (x : Mark). declared k (declaration x (call_with h l) k)) e)

pub add_task-requires : goal.add_task-requires
add_task-requires c = room_task _ (room c.args.k c.args.h c.requires.by_index c.in-DT.is)

pub add_semaphore-requires : goal.add_semaphore-requires
add_semaphore-requires c = room_semaphore _ (room c.args.k c.args.h c.requires.by_index c.in-DS.is)

pub add_bolt-requires : goal.add_bolt-requires
add_bolt-requires c = room_bolt _ (room c.args.k c.args.h c.requires.by_index c.in-DB.is)

pub add_interrupt-requires : goal.add_interrupt-requires
add_interrupt-requires c = room_interrupt _ (room c.args.k c.args.h c.requires.by_index c.in-IT.is)

pub returns-in-DT : goal.returns-in-DT
unfolding declaration
returns-in-DT c l = left c.args.k c.args.h c.requires.file_value l c.in-DT.is c.with_file.ensures c.add_task.ensures

pub returns-in-DS : goal.returns-in-DS
unfolding declaration
returns-in-DS c l =
    let a = c.args in
    let o = c.in-DS.is in
    left a.k a.h c.requires.file_value l o c.with_file-in-DS.ensures (c.add_semaphore.ensures ∙ ap (λ v. add_semaphore v a.k) (preset_same day_length a.k a.h _ c.requires.by_index.1 o))

pub returns-in-DB : goal.returns-in-DB
unfolding declaration
returns-in-DB c l = left c.args.k c.args.h c.requires.file_value l c.in-DB.is c.with_file-in-DB.ensures c.add_bolt.ensures

pub returns-in-IT : goal.returns-in-IT
unfolding declaration
returns-in-IT c l = left c.args.k c.args.h c.requires.file_value l c.in-IT.is c.with_file-in-IT.ensures c.add_interrupt.ensures

pub returns-in-DC : goal.returns-in-DC
unfolding declaration
returns-in-DC c l = left c.args.k c.args.h c.requires.file_value l c.in-DC.is c.with_file-in-DC.ensures c.set_clock.ensures

pub returns-in_default : goal.returns-in_default
unfolding declaration answered declared
returns-in_default c l =
    let a = c.args in
    c.with_file-in_default.ensures ∙ ap (λ (f : OnFile). answered (with_file f a.k) 0 f.running) c.requires.file_value
    ∙ alike (λ m. declared a.k (declaration m (call_with a.h l) a.k)) a.h.mark (drop 5 marks) refl (unsealed c.in_default.in_default-own.keys6)
