-- What is carried on is the machine's log and last kernel, as far as the room reaches.
use mathlib.Core.Path.{refl, ap}
use mathlib.Core.Bool.{Bool, true, false, not}
use mathlib.Core.List.{List, [], ◌∷◌, ◌++◌}
use Prim.Native.Nat.{ℕ, ◌-◌, ◌≤◌, ◌<◌}
use native.Mathlib.Omega.{arith}
use lib.Dec.{ltb}
use lib.ListN.{length, length-append}
use borrow.Author.Tests.{ltb-true, ltb-false}
use Rattle.machine.specs.Log.{final, log}
use Rattle.machine.specs.Step.{step}
use Rattle.machine.specs.declared.Answer.{Answer}
use Rattle.machine.specs.declared.State.{State}
use Rattle.lines.specs.Lines.{line, longest_line}
use Rattle.lines.proofs.LineLaws.{no_line_longer}
use Rattle.facts.proofs.Bools.{by_bool, contra}
use Rattle.script.specs.Printed.{shown, silent, printed, lines}
use Rattle.script.specs.Script.{going_on, Carried, after_text, carried}
use Rattle.script.specs.Promises.{Carries, ScriptsCarried}
use Rattle.script.proofs.AnswerLaws.{answer_in_types}
use Rattle.script.proofs.CarryLaws.{goes_on_law, carried_none, carried_stop, carried_go}

shown_le : (b : Bool) (a : Answer) → length (line a) ≤ longest_line → length (shown b a) ≤ longest_line
shown_le true a h = h
shown_le false a h = omega arith

-- A record's text is never longer than the longest line.
pub printed_le : (day : ℕ) (k : State) (r : List ℕ) → length (printed r (step day k r).answer) ≤ longest_line
unfolding printed
printed_le day k r = shown_le (not (silent r (step day k r).answer)) _ (no_line_longer _ (answer_in_types day k r))

none_done : (day : ℕ) (k : State) (room : ℕ) → Carries day (going_on k) [] room (record { script = going_on k; text = []; left = [] })
unfolding lines log final
none_done day k room =
    record {
      done = [];
      split = refl;
      text = refl;
      script = refl;
      full = λ e. contra e refl;
      all = λ h. refl;
    }

stop_done : (day : ℕ) (k : State) (r : List ℕ) (rs : List (List ℕ)) (room : ℕ) → room < longest_line
    → Carries day (going_on k) (r ∷ rs) room (record { script = going_on k; text = []; left = r ∷ rs })
unfolding lines log final
stop_done day k r rs room h =
    record {
      done = [];
      split = refl;
      text = refl;
      script = refl;
      full = λ e. omega arith;
      all = λ l. absurd (omega arith);
    }

more_done : (day : ℕ) (k : State) (r : List ℕ) (rs : List (List ℕ)) (room : ℕ) (c : Carried) → longest_line ≤ room
    → Carries day (going_on (step day k r).state) rs (room - length (printed r (step day k r).answer)) c
    → Carries day (going_on k) (r ∷ rs) room (after_text (printed r (step day k r).answer) c)
unfolding lines log final
more_done day k r rs room c h g =
    let t = printed r (step day k r).answer in
    record {
      done = r ∷ g.done;
      split = ap (λ (l : List (List ℕ)). r ∷ l) g.split;
      text = ap (λ (l : List ℕ). t ++ l) g.text;
      script = g.script;
      full = λ e. omega (arith, g.full e, length-append t c.text);
      all = λ l. g.all (omega (arith, printed_le day k r));
    }

abbrev Right : ℕ → State → List (List ℕ) → ℕ → Type 0
Right day k rs room = Carries day (going_on k) rs room (carried day (going_on k) rs room)

one_more : (day : ℕ) (k : State) (r : List ℕ) (rs : List (List ℕ)) (room : ℕ)
    → Right day (step day k r).state rs (room - length (printed r (step day k r).answer)) → Right day k (r ∷ rs) room
one_more day k r rs room g =
    by_bool (ltb room longest_line)
    (λ e. let h = ltb-true room longest_line e in rw (carried_stop day k r rs room h) (stop_done day k r rs room h))
    (λ e. let h = ltb-false room longest_line e in rw (carried_go day k r rs room h) (more_done day k r rs room _ h g))

carries : (day : ℕ) (k : State) (rs : List (List ℕ)) (room : ℕ) → Right day k rs room
carries day k [] room = rw (carried_none day (going_on k) room) (none_done day k room)
carries day k (r ∷ rs) room = one_more day k r rs room (carries day (step day k r).state rs (room - length (printed r (step day k r).answer)))

pub scripts_carried : ScriptsCarried
scripts_carried day p rs room = rw (goes_on_law p) (carries day p.kernel.state rs room)
