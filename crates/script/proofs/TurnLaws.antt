-- One run over the rest of a script: it gets on, and the machine's last kernel stays the same.
use mathlib.Core.Path.{◌≡◌, refl, sym, ap, ◌∙◌}
use mathlib.Core.List.{List, [], ◌∷◌, ◌++◌}
use Prim.Native.Nat.{ℕ, zero, suc, ◌+◌, ◌-◌, ◌≤◌, ◌<◌}
use native.Mathlib.Omega.{arith}
use lib.ListN.{length, drop, length-append, length-drop}
use lib.Seq.{drop-drop}
use Rattle.calendar.specs.Limits.{day_length}
use Rattle.machine.specs.Log.{final, log}
use Rattle.machine.specs.declared.State.{State}
use Rattle.machine.proofs.Rows.{final_append}
use Rattle.lines.specs.Lines.{longest_line}
use Rattle.lines.proofs.PlacedLaws.{text_within}
use Rattle.script.specs.Printed.{lines}
use Rattle.script.specs.Records.{records}
use Rattle.script.specs.Script.{going_on, Carried, carried, some, Runs, GetsOn}
use Rattle.script.specs.Promises.{Carries}
use Rattle.script.specs.declared.Script.{Script}
use Rattle.script.specs.declared.run.Ran.{Ran}
use Rattle.script.proofs.CarryLaws.{goes_on_law}
use Rattle.script.proofs.PromiseProofs.{scripts_carried}
use Rattle.script.proofs.RecordLaws.{first_record, records_over}

-- At the end of the script the machine has nothing more to do.
pub at_end : (p : Script) (s : List ℕ) (at : ℕ) {last : State} → length s ≤ at → final day_length p.kernel.state (records (drop at s)) ≡ last → p ≡ going_on last
unfolding final
at_end p s at h e = goes_on_law p ∙ ap going_on (rw (records_over s at h) at e)

-- Nothing done is no text.
no_text : (k : State) → lines (log day_length k []) ≡ []
unfolding lines log
no_text k = refl

-- With room for a longest line, less is left than there was.
fewer : (p : Script) (rs : List (List ℕ)) (room : ℕ) (c : Carried) → Carries day_length p rs room c → longest_line ≤ room → 0 < length rs
    → length c.left < length rs
fewer p rs room c g h some-there = go g.done c.left refl refl
  where
    go : (d l : List (List ℕ)) → g.done ≡ d → c.left ≡ l → length c.left < length rs
    go d [] e f = rw f some-there
    go [] (r ∷ l) e f =
        let t : length c.text ≡ 0 = ap length (g.text ∙ ap (λ (x : List (List ℕ)). lines (log day_length p.kernel.state x)) e ∙ no_text p.kernel.state) in
        absurd (omega (arith, g.full (ap some f)))
    go (x ∷ d) (r ∷ l) e f =
        let s = ap length (g.split ∙ ap (λ (y : List (List ℕ)). y ++ c.left) e) in
        omega (arith, s, length-append (x ∷ d) c.left)

module _ (p : Script) (s before after : List ℕ) (at : ℕ) (r : Ran) (t : Runs day_length p (drop at s) before after r) where
  stays : final day_length r.script.kernel.state (records (drop (at + r.read) s)) ≡ final day_length p.kernel.state (records (drop at s))
  stays =
      let g = scripts_carried day_length p (records (drop at s)) (length before) in
      let rest : records (drop (at + r.read) s) ≡ (carried day_length p (records (drop at s)) (length before)).left = rw (← drop-drop r.read at s) t.rest in
      let k = p.kernel.state in
      let last = t.script ∙ g.script in
      rw (last, rest) (sym (final_append day_length k g.done _) ∙ ap (final day_length k) (sym g.split))

  gets_on : longest_line ≤ length before → at < length s → 0 < r.read
  gets_on room h = go r.read refl
    where
      go : (n : ℕ) → r.read ≡ n → 0 < r.read
      go (suc n) e = rw e (omega arith)
      go zero e =
          let d = length-drop at s in
          let g = scripts_carried day_length p (records (drop at s)) (length before) in
          let same : records (drop at s) ≡ (carried day_length p (records (drop at s)) (length before)).left = rw e at t.rest in
          let n = ap length (first_record (drop at s) (omega arith)) in
          absurd (omega (arith, ap length same, fewer p (records (drop at s)) (length before) _ g room (omega arith)))

  pub turned : longest_line ≤ length before → at < length s → GetsOn p s at before after r
  turned room h =
      record {
        runs = t;
        further = gets_on room h;
        within = omega (arith, t.within, length-drop at s);
        text = text_within t.text;
        last = stays;
      }
