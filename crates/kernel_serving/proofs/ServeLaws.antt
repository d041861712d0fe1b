-- Serving turn by turn.
use Rattle.std.specs.Prelude.{None, Some}
use mathlib.Core.Path.{◌≡◌, refl, sym, ◌∙◌, ap, ap₂}
use mathlib.Core.Bool.{true, false}
use mathlib.Core.List.{List}
use Prim.Native.Nat.{ℕ, zero, suc, ◌<◌}
use Rattle.lock.specs.Locks.{waiting}
use Rattle.machine.specs.Sets.{put}
use Rattle.machine.specs.State.{task_at}
use Rattle.machine.specs.Granting.{servable}
use Rattle.machine.specs.Serving.{Served, next_served, grant_to, serve}
use Rattle.machine.specs.declared.Counts.{Counts}
use Rattle.machine.specs.declared.State.{State}
use Rattle.machine.specs.Running.{Running}
use Rattle.machine.proofs.Below.{most_urgent_at, most_urgent_none}
use Rattle.kernel_test.specs.Looks.{waits_ok}
use Rattle.kernel_serving.specs.Served.{served, with_served, served_of}
use Rattle.kernel_serving.proofs.WaitLaws.{servable_idle, waits_kept}

pub next_right : (n : ℕ) (ps : List ℕ) (p : Served) (j : ℕ) → next_served n ps p ≡ Some j → (j < n) × (servable n p.tasks p.locks j ≡ true)
next_right n ps p j e = most_urgent_at n (servable n p.tasks p.locks) _ j e

serve_idle : (n : ℕ) (ps : List ℕ) (turns : ℕ) (p : Served) → next_served n ps p ≡ None → serve n ps turns p ≡ p
unfolding serve
serve_idle n ps zero p e = refl
serve_idle n ps (suc turns) p e = rw (e, serve)

serve_grant : (n : ℕ) (ps : List ℕ) (turns : ℕ) (p : Served) (j : ℕ) → next_served n ps p ≡ Some j → serve n ps (suc turns) p ≡ serve n ps turns (grant_to j p)
unfolding serve
serve_grant n ps turns p j e = rw (e, serve)

-- ---- a kernel's turns

pub served_idle : (k : State) (g : ℕ) → next_served k.counts.tasks k.places (served k 0) ≡ None → served_of k g ≡ served k g
unfolding served_of
served_idle k g e = serve_idle k.counts.tasks k.places k.counts.tasks (served k g) e

-- The kernel `now`, with g granted so far and as many turns left, comes to what serving makes of k with `first` granted.
pub record Serves (k : State) (first left : ℕ) (now : State) (g : ℕ) : Type 0 where
  pub waits : waits_ok now ≡ true
  pub counts : now.counts ≡ k.counts
  pub places : now.places ≡ k.places
  pub state : with_served (serve k.counts.tasks k.places left (served now g)) now ≡ with_served (served_of k first) k
  pub granted : (serve k.counts.tasks k.places left (served now g)).granted ≡ (served_of k first).granted

-- It has come to that.
abbrev Ends : State → ℕ → State → ℕ → Type 0
Ends k first now g = (now ≡ with_served (served_of k first) k) × (g ≡ (served_of k first).granted)

pub serves_start : (k : State) (g : ℕ) → waits_ok k ≡ true → {left : ℕ} → left ≡ k.counts.tasks → Serves k g left k g
unfolding served_of
serves_start k g w e = record { waits = w; counts = refl; places = refl; state = rw e; granted = rw e }

module _ {k : State} {first left : ℕ} {now : State} {g : ℕ} (h : Serves k first left now g) where
  counted : {r : Running} → next_served now.counts.tasks now.places (served now 0) ≡ r → next_served k.counts.tasks k.places (served now 0) ≡ r
  counted e = ap₂ (λ (n : Counts) (ps : List ℕ). next_served n.tasks ps (served now 0)) (sym h.counts) (sym h.places) ∙ e

  pub serves_idle : next_served now.counts.tasks now.places (served now 0) ≡ None → Ends k first now g
  serves_idle e =
      let q = sym (serve_idle k.counts.tasks k.places left (served now g) (counted e)) in
      (ap (λ (p : Served). with_served p now) q ∙ h.state, ap (λ (p : Served). p.granted) q ∙ h.granted)

  pub serves_end : left ≡ 0 → Ends k first now g
  unfolding serve
  serves_end e = (rw e at h.state, rw e at h.granted)

  pub serves_turn : (j less : ℕ) → left ≡ suc less → next_served now.counts.tasks now.places (served now 0) ≡ Some j
      → Serves k first less (with_served (grant_to j (served now 0)) now) (put j g)
  unfolding grant_to
  serves_turn j less l e =
      let n = k.counts.tasks in
      let ps = k.places in
      let q : serve n ps less (grant_to j (served now g)) ≡ serve n ps left (served now g) = rw l (sym (serve_grant n ps less (served now g) j (counted e))) in
      record {
        waits = waits_kept now h.waits j (next_right now.counts.tasks now.places (served now 0) j e).1;
        counts = h.counts;
        places = h.places;
        state = ap (λ (p : Served). with_served p now) q ∙ h.state;
        granted = ap (λ (p : Served). p.granted) q ∙ h.granted;
      }

-- ---- where nobody waits

-- Nobody is served.
pub next_none : (k : State) → ((i : ℕ) → i < k.counts.tasks → waiting (task_at k.tasks i).wait ≡ false)
    → next_served k.counts.tasks k.places (served k 0) ≡ None
next_none k f = most_urgent_none k.counts.tasks _ _ (λ i l. servable_idle k.counts.tasks k.tasks k.locks i (f i l))
