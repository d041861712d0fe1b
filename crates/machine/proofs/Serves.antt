-- Serving grants one list after the other, whole, until nobody waits on a list that could be granted.
use Rattle.std.specs.Prelude.{None, Some}
use mathlib.Core.Path.{◌≡◌, refl}
use mathlib.Core.Bool.{true}
use Prim.Native.Nat.{ℕ, zero, suc, ◌≤◌}
use native.Mathlib.Omega.{arith}
use mathlib.Core.List.{List}
use Rattle.machine.specs.Running.{Running}
use Rattle.machine.specs.Granting.{servable}
use Rattle.machine.specs.Serving.{Served, next_served, grant_to, serve}
use Rattle.machine.specs.Promises.{Chosen, AreBytes}
use Rattle.machine.specs.Whole.{Grants, Loop, ServesAll}
use Rattle.machine.proofs.Urgency.{next_served_first}
use Rattle.machine.proofs.Serving.{served_free, grant_at, grant_other, waiters, waiters_le, grant_fewer, none_waits}

grant_whole : (n : ℕ) (p : Served) (i : ℕ) → servable n p.tasks p.locks i ≡ true → Grants i p (grant_to i p)
unfolding grant_to
grant_whole n p i e =
    record {
      free = served_free n p i e;
      locks = refl;
      over = grant_at n p i e;
      others = λ j h. grant_other p i j h;
      granted = refl;
    }

serve_loops : (n : ℕ) (ps : List ℕ) (turns : ℕ) (p : Served) → AreBytes n ps → waiters n p.tasks ≤ turns → Loop n ps p (serve n ps turns p)
unfolding serve
serve_loops n ps zero p h w = Loop.stop (none_waits n p w)
serve_loops n ps (suc turns) p h w = go (λ q. serve_loops n ps turns q h) (next_served n ps p) (next_served_first n ps p h)
  where
    go : ((q : Served) → waiters n q.tasks ≤ turns → Loop n ps q (serve n ps turns q))
        → (r : Running) → Chosen n (servable n p.tasks p.locks) ps p.tasks r
        → Loop n ps p (elim r [ None ↦ p | Some i ↦ serve n ps turns (grant_to i p) ])
    go ih None c = Loop.stop c
    go ih (Some i) c =
        Loop.next i c (grant_whole n p i c.passes) (ih (grant_to i p) (omega (arith, grant_fewer n p i c.below c.passes)))

pub serves_all : ServesAll
serves_all n ps p h = serve_loops n ps n p h (waiters_le n p.tasks)
