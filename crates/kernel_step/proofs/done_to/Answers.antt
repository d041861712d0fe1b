-- What the state refuses, or the change of the task that the call is about.
use borrow.Author.Rules.{rules}
use mathlib.Core.Path.{◌≡◌, refl, sym, ap, ◌∙◌}
use mathlib.Core.List.{List}
use Prim.Native.Nat.{ℕ, ◌<◌}
use native.Mathlib.Omega.{arith}
use lib.ListN.{set}
use Rattle.calendar.specs.Limits.{day_length}
use Rattle.layout.specs.declared.Head.{Head}
use Rattle.record.specs.Reading.{call_with}
use Rattle.record.proofs.NumberLaws.{number_some}
use Rattle.machine.specs.State.{most_tasks}
use Rattle.machine.specs.Running.{runner, Running}
use Rattle.machine.specs.Sorts.{sort_of, asked_kind, task_of}
use Rattle.machine.specs.Refusals.{formal_refusal, state_refusal}
use Rattle.machine.specs.NextEvent.{next_among}
use Rattle.machine.specs.Step.{answered}
use Rattle.machine.specs.Test.{kernel_refusal}
use Rattle.machine.specs.declared.Sort.{Sort}
use Rattle.machine.specs.declared.State.{State}
use Rattle.machine.proofs.Filing.{taken_valid, taken_next}
use Rattle.machine.proofs.Passed.{tested, parts}
use Rattle.kernel_next.proofs.NextLaws.{next_kept}
use Rattle.kernel_granting.specs.declared.Writers.{Writers}
use Rattle.kernel_granting.specs.Writers.{TellsFor}
use Rattle.kernel_granting.proofs.WriterLaws.{known_none, ready_told, ready_known}
use Rattle.kernel_values.proofs.Owned.{tasks_long}
use Rattle.kernel_sets.specs.Standing.{Turned}
use Rattle.kernel_sets.proofs.Turning.{turned_more}
use Rattle.kernel_test.proofs.SoundLaws.{sound}
use Rattle.kernel_changes.proofs.CallLaws.{in_order, place_in, ground, settled_refused}
use Rattle.kernel_changes.proofs.ChangeLaws.{can_give_back, change_waits, change_done}
use Rattle.kernel_step.proofs.done_to.Goals as goal
use Rattle.kernel_step.proofs.done_to.Goals.{In_default, Joined-is_missing, then-is_missing, else-is_missing, then-ne, else-ne}

-- The task that a call is about has a place.
placed : (k : State) (i : ℕ) (s : Sort) (h : Head) (l : List ℕ) (r : Running) → kernel_refusal day_length k ≡ 0 → r ≡ runner k
    → formal_refusal day_length k.counts k.begun (call_with h l) ≡ 0 → s ≡ sort_of h.mark → i ≡ task_of s h r → i < most_tasks
placed k i s h l r taken runs formed sorted at =
    rw (at ∙ ap (task_of s h) runs) (place_in day_length k h l formed (taken_valid day_length k taken) s sorted)

-- The state refuses nothing.
unrefused : (c : In_default) → state_refusal c.args.h.mark c.args.k (call_with c.args.h c.args.list) ≡ 0
unrefused c =
    let a = c.args in
    let q = c.requires in
    sym (ground day_length a.k a.h a.list q.r_value q.sort_value q.i_value (taken_next day_length a.k q.k_value) c.in_default.ensures)

-- The writers are known, if the call asks for a list that depends on them.
told : (c : Joined-is_missing) → TellsFor (asked_kind c.args.sort) c.args.k.counts.tasks c.args.k.tasks c.if-is_missing.writers
told c =
    let k = c.args.k in
    let n = k.counts.tasks in
    let v = c.asked_kind.result in
    rw (← c.asked_kind.ensures)
    (elim c.if-is_missing.branch [
      | then-is_missing w ↦ (ready_told v n k.tasks w.writers-is w.writers_of-writers.ensures).1
      | else-is_missing w ↦
          (ready_known v n k.tasks (w.writers-is ∙ c.no_writers-writers.ensures) (known_none n k.tasks) (rw c.no_writers-writers.ensures at c.is_missing.ensures) w.if-is_missing.false).1
    ])

pub bounds-k-i : goal.bounds-k-i
bounds-k-i c =
    let a = c.args in
    let q = c.requires in
    placed a.k a.i a.sort a.h a.list a.r q.k_value q.r_value q.list_value q.sort_value q.i_value

pub state_refusal-requires-clause-in_order : goal.state_refusal-requires-clause-in_order
state_refusal-requires-clause-in_order c =
    let a = c.args in
    in_order day_length a.k a.h a.list c.requires.list_value (taken_valid day_length a.k c.requires.k_value)

pub returns-in-Err : goal.returns-in-Err
returns-in-Err c =
    let a = c.args in
    let q = c.requires in
    c.answered.ensures
    ∙ ap (λ (n : ℕ). answered a.k n a.r) c.number.ensures
    ∙ settled_refused day_length a.k a.h a.list q.r_value
    (ground day_length a.k a.h a.list q.r_value q.sort_value q.i_value (taken_next day_length a.k q.k_value) c.in-Err.ensures) (number_some c.in-Err.refusal)

pub writers_of-writers-requires : goal.writers_of-writers-requires
writers_of-writers-requires c = (tested day_length c.args.k (taken_valid day_length c.args.k c.requires.k_value)).fits.tasks

pub change_of-c-requires-clause-le_last_instant : goal.change_of-c-requires-clause-le_last_instant
change_of-c-requires-clause-le_last_instant c = (sound day_length c.args.k (taken_valid day_length c.args.k c.requires.k_value)).now

pub change_of-c-requires-clause-in_order : goal.change_of-c-requires-clause-in_order
change_of-c-requires-clause-in_order c =
    let a = c.args in
    in_order day_length a.k a.h a.list c.requires.list_value (taken_valid day_length a.k c.requires.k_value)

pub change_of-c-requires-clause-returnable : goal.change_of-c-requires-clause-returnable
change_of-c-requires-clause-returnable c =
    let a = c.args in
    let q = c.requires in
    let passed = unrefused (goal.at.change_of-c-requires-clause-returnable c).In_default in
    can_give_back day_length a.k a.h a.list (taken_valid day_length a.k q.k_value) q.list_value passed q.sort_value

pub change_of-c-requires-clause-for_some : goal.change_of-c-requires-clause-for_some
change_of-c-requires-clause-for_some c =
    let k = c.args.k in
    let n = k.counts.tasks in
    let known = told (goal.at.change_of-c-requires-clause-for_some c).Joined-is_missing in
    (n, k.tasks, known)

pub bounds-k-i-2 : goal.bounds-k-i-2
bounds-k-i-2 c =
    let a = c.args in
    let q = c.requires in
    placed a.k a.i a.sort a.h a.list a.r q.k_value q.r_value q.list_value q.sort_value q.i_value

pub with_turn-turned-requires : goal.with_turn-turned-requires
with_turn-turned-requires c =
    let a = c.args in
    let q = c.requires in
    placed a.k a.i a.sort a.h a.list a.r q.k_value q.r_value q.list_value q.sort_value q.i_value

pub next_event-next-requires : goal.next_event-next-requires
next_event-next-requires c = (tested day_length c.args.k (taken_valid day_length c.args.k c.requires.k_value)).fits.tasks

pub put_marks-requires : goal.put_marks-requires
put_marks-requires c =
    let a = c.args in
    let q = c.requires in
    placed a.k a.i a.sort a.h a.list a.r q.k_value q.r_value q.list_value q.sort_value q.i_value

pub finished-requires-clause-k_value : goal.finished-requires-clause-k_value
finished-requires-clause-k_value c =
    let a = c.args in
    let k = a.k in
    let q = c.requires in
    let valid_at = taken_valid day_length k q.k_value in
    let n = k.counts.tasks in
    let passed = unrefused (goal.at.finished-requires-clause-k_value c).In_default in
    let known = told (goal.at.finished-requires-clause-k_value c).Joined-is_missing in
    change_waits day_length k a.h a.list valid_at q.list_value passed q.sort_value q.sort_value_2 (q.i_value ∙ ap (task_of a.sort a.h) q.r_value) (c.change_of-c.ensures n k.tasks known)

pub finished-requires-clause-places_value : goal.finished-requires-clause-places_value
finished-requires-clause-places_value c = (parts day_length c.args.k (taken_valid day_length c.args.k c.requires.k_value)).places

pub returns : goal.returns
returns c =
    let a = c.args in
    let k = a.k in
    let q = c.requires in
    let valid_at = taken_valid day_length k q.k_value in
    let next_at = taken_next day_length k q.k_value in
    let n = k.counts.tasks in
    let new = set k.tasks a.i c.change_of-c.result.task in
    let at = placed k a.i a.sort a.h a.list a.r q.k_value q.r_value q.list_value q.sort_value q.i_value in
    let long = tasks_long k (c.well_formed.0.0, c.well_formed.0.1.1) in
    let passed = unrefused (goal.at.returns c).In_default in
    let known = told (goal.at.returns c).Joined-is_missing in
    -- The task is the only one that may have turned.
    let turned : Turned n k.tasks new c.with_turn-turned.result =
    rw c.with_turn-turned.ensures
    (turned_more n k.tasks k.tasks _ (c.nobody_turned.ensures n k.tasks) a.i (omega (arith, at, long)) refl c.change_of-c.result.task) in
    -- The next event, kept or found again.
    let next : c.if-ne.next ≡ next_among k.now n new =
    elim c.if-ne.branch [
      | then-ne w ↦ w.next-is ∙ w.next_event-next.ensures
      | else-ne w ↦
          w.next-is ∙ next_at
          ∙ next_kept k.now n k.tasks a.i c.change_of-c.result.task (omega (arith, at, long))
          (let h : c.soonest.result ≡ c.soonest-2.result = search rules in sym c.soonest.ensures ∙ h ∙ c.soonest-2.ensures)
    ] in
    c.finished.ensures k.tasks turned
    ∙ change_done day_length k a.h a.list valid_at q.list_value passed q.sort_value q.sort_value_2 (q.i_value ∙ ap (task_of a.sort a.h) q.r_value)
    (c.change_of-c.ensures n k.tasks known) c.no_sets.ensures c.put_marks.ensures next
