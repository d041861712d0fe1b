-- Over a list of records: each RELEASE takes one away of those ahead, so the wait ends by one more.
use Rattle.std.specs.Prelude.{Some}
use mathlib.Core.Path.{◌≡◌, refl, ap}
use mathlib.Core.Bool.{Bool, true, false}
use mathlib.Core.List.{List, [], ◌∷◌}
use Prim.Native.Nat.{ℕ, suc, ◌+◌, ◌-◌, ◌≤◌, ◌<◌}
use native.Mathlib.Omega.{arith}
use borrow.Author.Tests.{ne_eqb}
use Rattle.lock.specs.Locks.{bit}
use Rattle.facts.proofs.Bools.{by_bool}
use Rattle.machine.specs.Test.{kernel_refusal}
use Rattle.machine.specs.Step.{step}
use Rattle.machine.specs.Log.{AllOctets}
use Rattle.machine.specs.Invariants.{IsDay, Passes}
use Rattle.machine.specs.declared.State.{State}
use Rattle.machine.proofs.Answers.{answers_runner}
use Rattle.machine.proofs.Invariants.{step_passes}
use Rattle.wait_bound.specs.Queue.{ahead, waits_for_one, waited_for, bound_of}
use Rattle.wait_bound.specs.declared.Releases.{Releases}
use Rattle.wait_bound.specs.Stages.{Stage, stages_from, stages, how_many, up_to, while}
use Rattle.wait_bound.specs.Waiting.{stage_of, releases, grants, waits, ends, changes_priority, overtakes, Undisturbed, NobodyGetsAhead, WaitIsBounded, BoundIsRead, NoOtherBound, BoundHolds}
use Rattle.wait_bound.proofs.Queued.{Queued, queued}
use Rattle.wait_bound.proofs.Steps.{waits_then, waits_on, fewer}
use Rattle.lock.proofs.Bits.{bit_le}

-- ---- stages that pass no test

bit_zero : (b : Bool) → bit b ≡ 0 → b ≡ false
bit_zero true e = absurd (omega arith)
bit_zero false e = refl

none_first : (f : Stage → Bool) (g : Stage) (gs : List Stage) → how_many f (g ∷ gs) ≡ 0 → f g ≡ false
unfolding how_many
none_first f g gs e = bit_zero (f g) (omega arith)

none_rest : (f : Stage → Bool) (g : Stage) (gs : List Stage) → how_many f (g ∷ gs) ≡ 0 → how_many f gs ≡ 0
unfolding how_many
none_rest f g gs e = omega arith

undisturbed_rest : (s j : ℕ) (g : Stage) (gs : List Stage) → Undisturbed s j (g ∷ gs) → Undisturbed s j gs
undisturbed_rest s j g gs u =
    record {
      lives = none_rest _ g gs u.lives;
      priorities = none_rest _ g gs u.priorities;
      newcomers = none_rest _ g gs u.newcomers;
    }

-- ---- one stage

pub nobody_gets_ahead : NobodyGetsAhead
nobody_gets_ahead day is_day k p b o j s a u left =
    let g = stage_of day k b in
    let q = queued day k p j s a in
    let lives = none_first (ends j) g [] u.lives in
    let priorities = none_first changes_priority g [] u.priorities in
    let newcomers = none_first (overtakes s j) g [] u.newcomers in
    (waits_then day is_day k p b o j s q lives priorities newcomers left, fewer day is_day k p b o j s q lives priorities newcomers left)

-- ---- one stage after the other

-- The running task of each answer is that of the kernel handed back with it.
pub stages_next : (day : ℕ) (k : State) → kernel_refusal day k ≡ 0 → (b : List ℕ) (bs : List (List ℕ))
    → stages day k (b ∷ bs) ≡ stage_of day k b ∷ stages day (step day k b).state bs
unfolding stages_from
stages_next day k v b bs = ap (λ r. stage_of day k b ∷ stages_from day r (step day k b).state bs) (answers_runner day k b v)

while_on : (f : Stage → Bool) (g : Stage) (gs : List Stage) → f g ≡ true → while f (g ∷ gs) ≡ g ∷ while f gs
unfolding while
while_on f g gs e = rw e

-- ---- the bound

module _ (day : ℕ) (is_day : IsDay day) (j s : ℕ) where
  abbrev Granted : ℕ → List Stage → Type 0
  Granted m gs = 0 < how_many (grants j) (up_to (releases s) m gs)

  -- Granted in the first stage, or by what is left of the bound in the others.
  granted_now : (g : Stage) (gs : List Stage) (m : ℕ) → 0 < m → grants j g ≡ true → Granted m (g ∷ gs)
  unfolding how_many up_to
  granted_now g gs m l e = rw (ne_eqb m 0 (λ z. omega arith), e) (omega arith)

  granted_later : (g : Stage) (gs : List Stage) (m : ℕ) → 0 < m → Granted (m - bit (releases s g)) gs → Granted m (g ∷ gs)
  unfolding how_many up_to
  granted_later g gs m l h = rw (ne_eqb m 0 (λ z. omega arith)) (omega arith)

  within : (bs : List (List ℕ)) → AllOctets bs → (k : State) → Passes day k → Queued k j s
      → let gs = stages day k bs in Undisturbed s j (while (waits j) gs)
      → (m : ℕ) → ahead k s j < m → m ≤ how_many (releases s) gs → Granted m gs
  unfolding AllOctets how_many
  within [] o k p a u m l h = absurd (unfold stages_from in omega arith)
  within (b ∷ bs) o k p a u m l h =
      let g = stage_of day k b in
      let z = step day k b in
      let gs = stages day z.state bs in
      let next = stages_next day k p.tested b bs in
      let on : waits j g ≡ true = rw a.kind in
      let w : Undisturbed s j (g ∷ while (waits j) gs) = rw (next, while_on (waits j) g gs on) at u in
      let room : m ≤ bit (releases s g) + how_many (releases s) gs = rw next at h in
      let lives = none_first (ends j) g (while (waits j) gs) w.lives in
      let priorities = none_first changes_priority g (while (waits j) gs) w.priorities in
      let newcomers = none_first (overtakes s j) g (while (waits j) gs) w.newcomers in
      rw next
      (by_bool (grants j g) (λ e. granted_now g gs m (omega arith) e)
      (λ e.
      let f = fewer day is_day k p b o.0 j s a lives priorities newcomers e in
      let c = bit_le (releases s g) in
      granted_later g gs m (omega arith)
      (within bs o.1 z.state (step_passes day is_day k p b o.0) (waits_on day is_day k p b o.0 j s a lives priorities newcomers e)
      (undisturbed_rest s j g (while (waits j) gs) w) (m - bit (releases s g)) (omega arith) (omega arith))))

pub wait_is_bounded : WaitIsBounded
wait_is_bounded day is_day k p bs o j s a u l =
    within day is_day j s bs o k p (queued day k p j s a) u (suc (ahead k s j)) (omega arith) (omega arith)

-- ---- the bound that is read off a kernel

pub bound_is_read : BoundIsRead
unfolding bound_of
bound_is_read k j s a = rw (a.0, a.1)

pub no_other_bound : NoOtherBound
unfolding bound_of
no_other_bound k j e = rw e

-- What is read is the bound of a task that waits so.
pub bound_parts : (k : State) (j : ℕ) (b : Releases) → bound_of k j ≡ Some b → (waits_for_one k j ≡ true) × (record { semaphore = waited_for k j; number = suc (ahead k (waited_for k j) j) } ≡ b)
unfolding bound_of
bound_parts k j b e =
    by_bool (waits_for_one k j) (λ w. (w, let z = rw w at e in cc)) (λ w. absurd (let z = rw w at e in let x : ◌≡◌ {A = ℕ} 0 1 = cc in omega arith))

pub bound_holds : BoundHolds
bound_holds day is_day k p bs o j b e =
    let q = bound_parts k j b e in
    rw (← q.1) (λ u l. wait_is_bounded day is_day k p bs o j (waited_for k j) (q.0, refl) u (omega arith))
