-- A list of records parts where the first call is accepted.
use mathlib.Core.Path.{◌≡◌, refl, ap, ◌∙◌}
use mathlib.Core.Bool.{Bool, true, false, not, ◌&&◌}
use mathlib.Core.List.{List, [], ◌∷◌, ◌++◌}
use Prim.Native.Nat.{ℕ}
use borrow.Author.Tests.{ne_eqb}
use Rattle.record.specs.Reading.{opened}
use Rattle.facts.proofs.Bools.{by_bool, contra, and_both, not_of_false}
use Rattle.machine.specs.declared.State.{State}
use Rattle.machine.specs.State.{nothing}
use Rattle.machine.specs.Step.{step}
use Rattle.machine.specs.Log.{AllOctets, is_declaration, Entry, final, log}
use Rattle.machine.specs.Invariants.{IsDay, Passes}
use Rattle.machine.proofs.Rows.{log_append, final_append}
use Rattle.machine.proofs.Facts.{StateOk}
use Rattle.machine.proofs.Filing.{taken_valid, taken_filed}
use Rattle.machine.proofs.Refused.{refusals_numbered}
use Rattle.machine.proofs.Invariants.{step_ok, step_passes}
use Rattle.machine.proofs.Taking.{nothing_passes}
use Rattle.balance.specs.Counting.{is_accepted}
use Rattle.balance.specs.Fresh.{accepted_declaration, accepted_call, turned_away, without}
use Rattle.balance.specs.Balance.{AllParted}
use Rattle.balance.proofs.Balanced.{balance}
use Rattle.balance.proofs.Fresh.{nothing_ok, declared_is_fresh}
use Rattle.balance.proofs.Presets.{presets_are_kept}
use Rattle.balance.proofs.Begun.{step_begins, begun_declares_none}

record Parts (day : ℕ) (k : State) (rs : List (List ℕ)) : Type 0 where
  declaring : List (List ℕ)
  working : List (List ℕ)
  parts : rs ≡ declaring ++ working
  no_call : without accepted_call (log day k declaring) ≡ true
  no_declaration : without accepted_declaration (log day (final day k declaring) working) ≡ true
  declaring_octets : AllOctets declaring
  working_octets : AllOctets working

call_declares_not : (a d : Bool) → (a && not d) ≡ true → not (a && d) ≡ true
call_declares_not true true e = e
call_declares_not true false e = refl
call_declares_not false d e = refl

module _ (day : ℕ) (is_day : IsDay day) where
  in_parts : (rs : List (List ℕ)) (k : State) → StateOk day k → AllOctets rs → Parts day k rs
  unfolding AllOctets without log final
  in_parts [] k h o =
      record {
        declaring = [];
        working = [];
        parts = refl;
        no_call = refl;
        no_declaration = refl;
        declaring_octets = tt;
        working_octets = tt;
      }
  in_parts (r ∷ rs) k h o =
      let z = (step day k r).state in
      let e : Entry = record { bytes = r; answer = (step day k r).answer } in
      let ok = step_ok day is_day k h r o.0 in
      by_bool (accepted_call e)
      (λ c.
      let begun = (step_begins day k h r).begins c in
      record {
        declaring = [];
        working = r ∷ rs;
        parts = refl;
        no_call = refl;
        no_declaration = and_both (call_declares_not (is_accepted e.answer) (is_declaration (opened r).answer) c) (begun_declares_none day is_day rs z ok o.1 begun);
        declaring_octets = tt;
        working_octets = o;
      })
      (λ c.
      let p = in_parts rs z ok o.1 in
      record {
        declaring = r ∷ p.declaring;
        working = p.working;
        parts = ap (λ (l : List (List ℕ)). r ∷ l) p.parts;
        no_call = and_both (not_of_false (accepted_call e) c) p.no_call;
        no_declaration = p.no_declaration;
        declaring_octets = (o.0, p.declaring_octets);
        working_octets = p.working_octets;
      })

  -- ---- no record of a list is refused with 1 or 16

  not_away : (k : State) → Passes day k → (s : List ℕ) → not (turned_away (record { bytes = s; answer = (step day k s).answer })) ≡ true
  not_away k p s =
      let n = (step day k s).answer.number in
      let q = refusals_numbered day k s in
      rw (ne_eqb n 1 (λ e. contra (taken_valid day k p.tested) (q.first e)), ne_eqb n 16 (λ e. (q.second e).1 (taken_filed day k p.tested)))

  never_away : (rs : List (List ℕ)) (k : State) → Passes day k → AllOctets rs → without turned_away (log day k rs) ≡ true
  unfolding AllOctets without log
  never_away [] k p o = refl
  never_away (r ∷ rs) k p o = and_both (not_away k p r) (never_away rs (step day k r).state (step_passes day is_day k p r o.0) o.1)

pub all_parted : AllParted
all_parted day is_day rs o =
    let p = in_parts day is_day rs nothing (nothing_ok day is_day) o in
    let f = declared_is_fresh day is_day p.declaring p.declaring_octets p.no_call in
    record {
      declaring = p.declaring;
      working = p.working;
      parts = p.parts;
      entries = ap (log day nothing) p.parts ∙ log_append day nothing p.declaring p.working;
      last = ap (final day nothing) p.parts ∙ final_append day nothing p.declaring p.working;
      no_call = p.no_call;
      no_declaration = p.no_declaration;
      never_turned_away = never_away day is_day rs nothing (nothing_passes day is_day) o;
      fresh = f;
      preset = presets_are_kept day is_day p.declaring p.declaring_octets p.no_call;
      balanced = balance day is_day (final day nothing p.declaring) f p.working p.working_octets p.no_declaration;
    }
