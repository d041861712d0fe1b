-- One record of what is carried on.
use mathlib.Core.Path.{◌≡◌, refl}
use mathlib.Core.List.{List, [], ◌∷◌, ◌++◌, append_assoc}
use Prim.Native.Nat.{ℕ, ◌-◌, ◌+◌, ◌≤◌, ◌<◌}
use lib.ListN.{length}
use borrow.Author.Tests.{lt-ltb, le-ltb}
use Rattle.machine.specs.Step.{step}
use Rattle.machine.specs.declared.State.{State}
use Rattle.lines.specs.Lines.{longest_line}
use Rattle.script.specs.Printed.{printed}
use Rattle.script.specs.Script.{going_on, next, Carried, after_text, carried}
use Rattle.script.specs.declared.Stand.{Stand}
use Rattle.script.specs.declared.Stand.TheVariants.{GoingOn}
use Rattle.script.specs.declared.Script.{Script}

-- A script stands in one place only.
pub goes_on_law : (p : Script) → p ≡ going_on p.kernel.state
goes_on_law p = go p.stands
  where
    go : (s : Stand) → record { kernel = p.kernel; stands = s } ≡ going_on p.kernel.state
    go GoingOn = refl

pub carried_none : (day : ℕ) (p : Script) (room : ℕ) → carried day p [] room ≡ record { script = p; text = []; left = [] }
unfolding carried
carried_none day p room = refl

module _ (day : ℕ) (k : State) (r : List ℕ) (rs : List (List ℕ)) (room : ℕ) where
  pub carried_stop : room < longest_line → carried day (going_on k) (r ∷ rs) room ≡ record { script = going_on k; text = []; left = r ∷ rs }
  unfolding carried
  carried_stop h = rw (lt-ltb room longest_line h)

  pub carried_go : longest_line ≤ room
      → carried day (going_on k) (r ∷ rs) room
      ≡ after_text (printed r (step day k r).answer) (carried day (going_on (step day k r).state) rs (room - length (printed r (step day k r).answer)))
  unfolding carried next
  carried_go h = rw (le-ltb room longest_line h)

pub after_after : (t u : List ℕ) (c : Carried) → after_text t (after_text u c) ≡ after_text (t ++ u) c
after_after t u c = rw (append_assoc t u c.text)
