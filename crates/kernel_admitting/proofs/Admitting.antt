-- What bytes, counts and the first accepted call leave of a record.
use Rattle.std.specs.Prelude.{Err, Ok}
use mathlib.Core.Path.{◌≡◌, refl, sym, ap, ◌∙◌}
use mathlib.Core.Bool.{Bool}
use mathlib.Core.List.{List}
use Prim.Native.Nat.{ℕ, zero, suc, ◌≤◌}
use native.Mathlib.Omega.{arith}
use Rattle.layout.specs.Fields.{most_numbers}
use Rattle.layout.specs.declared.Call.{Call}
use Rattle.layout.specs.declared.Head.{Head}
use Rattle.record.specs.Refusals.{formed, shape}
use Rattle.record.proofs.ShapeLaws.{formed_short}
use Rattle.record.specs.Reading.{Read, call_with, refused, accepted, opened, or_refused}
use Rattle.record.specs.declared.Reading.{Reading}
use Rattle.machine.specs.declared.Counts.{Counts}
use Rattle.machine.specs.Refusals.{formal_refusal, admitted_if, admitted}
use Rattle.machine.proofs.Cases.{opened_cases}
use Rattle.machine.proofs.Passed.{unless_passed}

-- ---- shapes

-- A list of a shape that isn't refused is no longer than the longest.
pub shaped_short : (c : Call) → shape c ≡ 0 → c.head.len ≤ most_numbers
unfolding shape
shaped_short c e = formed_short c (unless_passed (formed c) 2 _ e).0

-- ---- answers

pub not_accepted {ℓ} : {X : Type ℓ} {n : ℕ} {h : Head} → Err n ≡ Ok h → X
not_accepted z = absurd (let y : ◌≡◌ {A = ℕ} 0 1 = cc in omega arith)

pub same_head : {g h : Head} → ◌≡◌ {A = Read} (Ok g) (Ok h) → g ≡ h
same_head z = cc

-- ---- what is admitted

module _ (day : ℕ) (n : Counts) (begun : Bool) (s : List ℕ) {r : Reading} (o : r ≡ opened s) where
  pub admit_unread : {m : ℕ} → r.answer ≡ Err m → opened s ≡ admitted day n begun s
  unfolding admitted_if
  admit_unread e = rw (← o, e)

  module _ {h : Head} (e : r.answer ≡ Ok h) where
    pub admit_refused : {m : ℕ} → m ≡ formal_refusal day n begun (call_with h r.list) → (m ≡ 0 → ⊥) → refused m ≡ admitted day n begun s
    unfolding admitted_if
    admit_refused {m} q z = rw (← o, e, ← q) (go m _ z)
      where
        go : (m : ℕ) (x : Reading) → (m ≡ 0 → ⊥) → refused m ≡ or_refused m x
        go zero x z = absurd (z refl)
        go (suc m) x z = refl

    pub admit_passed : formal_refusal day n begun (call_with h r.list) ≡ 0 → r ≡ admitted day n begun s
    unfolding admitted_if
    admit_passed q = rw (← o, e, q)

-- What is admitted has passed.
pub admitted_formal : (day : ℕ) (n : Counts) (begun : Bool) (s : List ℕ) {r : Reading} {h : Head} → r ≡ admitted day n begun s → r.answer ≡ Ok h
    → formal_refusal day n begun (call_with h r.list) ≡ 0
unfolding admitted_if
admitted_formal day n begun s {r} {h} o e =
    opened_cases s (λ x. r ≡ admitted_if day n begun x.answer x → formal_refusal day n begun (call_with h r.list) ≡ 0)
    (λ q. let z : Err 2 ≡ Ok h = sym (ap (λ (x : Reading). x.answer) q) ∙ e in let y : ◌≡◌ {A = ℕ} 0 1 = cc in absurd (omega arith))
    (λ c q. go c (formal_refusal day n begun c) refl q) o
  where
    go : (c : Call) (m : ℕ) → formal_refusal day n begun c ≡ m → r ≡ or_refused m (accepted c) → formal_refusal day n begun (call_with h r.list) ≡ 0
    go c zero f q =
        let x : c.head ≡ h = let z : Ok c.head ≡ Ok h = sym (ap (λ (x : Reading). x.answer) q) ∙ e in cc in
        rw (q, ← x) f
    go c (suc m) f q = let z : Err (suc m) ≡ Ok h = sym (ap (λ (x : Reading). x.answer) q) ∙ e in let y : ◌≡◌ {A = ℕ} 0 1 = cc in absurd (omega arith)
