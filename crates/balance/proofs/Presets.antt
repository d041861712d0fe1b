-- A semaphore starts with the preset of the DS that declared it.
use mathlib.Core.Path.{◌≡◌, refl, sym, ap, ◌∙◌}
use mathlib.Core.Bool.{true, false, not, cond, ◌&&◌}
use mathlib.Core.List.{List, [], ◌∷◌, ◌++◌, append-nil, append_assoc}
use Prim.Native.Nat.{ℕ, suc}
use native.Mathlib.Nat.{not-suc-le-zero}
use native.Mathlib.Omega.{arith}
use lib.ListN.{length, get_or, get_or-append, length-append}
use borrow.Author.Tests.{ne_eqb}
use Rattle.layout.specs.Marks.{is}
use Rattle.layout.specs.declared.Mark.{Mark}
use Rattle.layout.specs.declared.Mark.TheVariants.{DT, DS, DB, IT, DC}
use Rattle.layout.proofs.MarksLaws.{is_mark}
use Rattle.layout.specs.declared.Call.{Call}
use Rattle.record.specs.Reading.{call_with, opened}
use Rattle.lock.specs.Locks.{level}
use Rattle.facts.proofs.Bools.{by_bool, by_eq, both}
use Rattle.lock.proofs.Levels.{value_same, value_other}
use Rattle.machine.specs.declared.State.{State}
use Rattle.machine.specs.State.{nothing}
use Rattle.machine.specs.Calls.{add_task, add_semaphore, add_bolt, add_interrupt, declaration as declaredAs}
use Rattle.machine.specs.Step.{answered, declared, step}
use Rattle.machine.specs.Log.{AllOctets, is_declaration, final, log}
use Rattle.machine.specs.Invariants.{IsDay}
use Rattle.machine.proofs.Facts.{StateOk}
use Rattle.machine.proofs.Passed.{Passed, as_mark, room_semaphore}
use Rattle.machine.proofs.Invariants.{step_ok}
use Rattle.balance.specs.Counting.{is_accepted}
use Rattle.balance.specs.Fresh.{accepted_call, without, preset_in, presets, Preset, PresetsAreKept}
use Rattle.balance.proofs.Fresh.{no_call, nothing_ok}

end_at : (vs : List ℕ) (v : ℕ) → get_or (vs ++ v ∷ []) (length vs) 0 ≡ v
end_at [] v = refl
end_at (x ∷ vs) v = end_at vs v

module _ (day : ℕ) (k : State) (h : StateOk day k) (vs : List ℕ) (y : Preset vs k) where
  -- No semaphore more.
  same : (z : State) → z.counts.semaphores ≡ k.counts.semaphores → z.locks.semaphores ≡ k.locks.semaphores → Preset (vs ++ []) z
  unfolding level
  same z e f =
      rw (append-nil vs)
      (record { count = e ∙ y.count; value = λ s l. ap (λ (r : List ℕ). get_or r s 0) f ∙ y.value s (rw (← e) l) })

  module _ (c : Call) where
    added : Passed day DS k c → Preset (vs ++ c.head.first ∷ []) (add_semaphore c.head.first k)
    unfolding add_semaphore level
    added p =
        let n = k.counts.semaphores in
        let v = c.head.first in
        let room = room_semaphore k.counts p.formal.room in
        record {
          count = omega (arith, y.count, length-append vs (v ∷ []));
          value = λ s l. by_eq s n
              (λ z. rw z (value_same k.locks n v (omega (arith, h.tables.semaphores)) ∙ sym (rw y.count (end_at vs v))))
              (λ z. value_other k.locks n v s z ∙ y.value s (omega arith) ∙ sym (get_or-append vs (v ∷ []) 0 s (omega (arith, y.count))));
        }

    by_mark : Passed day c.head.mark k c → Preset (vs ++ cond (is c.head.mark DS) (c.head.first ∷ []) []) (declaredAs c.head.mark c k)
    unfolding declaredAs add_task add_bolt add_interrupt
    by_mark p =
        let m = c.head.mark in
        by_bool (is m DS)
        (λ e. let q = is_mark m DS e in let z : is m DT ≡ false = ap (λ (x : Mark). is x DT) q in rw (e, z) (added (as_mark q p)))
        (λ e. rw e (by_bool (is m DT) (λ d. rw d (same _ refl refl))
        (λ d. rw d (by_bool (is m DB) (λ d. rw d (same _ refl refl))
        (λ d. rw d (by_bool (is m IT) (λ d. rw d (same _ refl refl))
        (λ d. rw d (by_bool (is m DC) (λ d. rw d (same _ refl refl)) (λ d. rw d (same _ refl refl))))))))))

  preset_step : (s : List ℕ) → not (is_accepted (step day k s).answer && not (is_declaration (opened s).answer)) ≡ true
      → Preset (vs ++ cond (is_accepted (step day k s).answer) (preset_in (opened s).answer) []) (step day k s).state
  preset_step s =
      no_call day k h s (λ r z. Preset (vs ++ cond (is_accepted z.answer) (preset_in r) []) z.state)
      (λ r n. unfold answered in rw (ne_eqb (suc n) 0 (λ z. omega arith)) (same k refl refl))
      (λ d l p. unfold declared in let q = by_mark (call_with d l) p in record { count = q.count; value = q.value })

preset_all : (day : ℕ) → IsDay day → (rs : List (List ℕ)) (k : State) (vs : List ℕ) → StateOk day k → Preset vs k → AllOctets rs
    → without accepted_call (log day k rs) ≡ true → Preset (vs ++ presets (log day k rs)) (final day k rs)
unfolding AllOctets without log final presets
preset_all day is_day [] k vs h y o q = same day k h vs y k refl refl
preset_all day is_day (r ∷ rs) k vs h y o q =
    let p = both (not (is_accepted (step day k r).answer && not (is_declaration (opened r).answer))) _ q in
    rw (← append_assoc vs (cond (is_accepted (step day k r).answer) (preset_in (opened r).answer) []) (presets (log day (step day k r).state rs)))
    (preset_all day is_day rs (step day k r).state _ (step_ok day is_day k h r o.0) (preset_step day k h vs y r p.0) o.1 p.1)

pub presets_are_kept : PresetsAreKept
unfolding nothing
presets_are_kept day is_day rs o q =
    preset_all day is_day rs nothing [] (nothing_ok day is_day) (record { count = refl; value = λ s l. absurd (not-suc-le-zero l) }) o q
