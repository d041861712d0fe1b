-- What a refused step leaves, and its number.
use Rattle.std.specs.Prelude.{None}
use mathlib.Core.Path.{◌≡◌, refl}
use mathlib.Core.Logic.{◌≢◌}
use mathlib.Core.List.{List, [], ◌∷◌}
use Prim.Native.Nat.{ℕ, zero, suc}
use native.Mathlib.Omega.{arith}
use Rattle.machine.specs.declared.State.{State}
use Rattle.machine.specs.Running.{Running}
use Rattle.machine.specs.Test.{kernel_refusal}
use Rattle.machine.specs.Step.{plain_answer, answered, step}
use Rattle.machine.specs.Log.{final, log}
use Rattle.machine.specs.Promises.{Untouched, RefusedIsUntouched, UntestedIsRefused, MisfiledIsRefused, TurnedAway, TurnedAwayForGood, Numbered, RefusalsAreNumbered}
use Rattle.machine.proofs.Filing.{filed_not}
use Rattle.machine.proofs.SetLaws.{no_members}
use Rattle.machine.proofs.Cases.{done_number, step_cases}

refuse_untouched : (k : State) (n : ℕ) (r : Running) → Untouched k (answered k n r)
unfolding answered
refuse_untouched k n r = record { state = refl; sets = no_members }

refuse_number : (k : State) (n : ℕ) (r : Running) → (answered k n r).answer.number ≡ n
unfolding answered
refuse_number k n r = refl

pub refused_untouched : RefusedIsUntouched
refused_untouched day k s =
    step_cases day k (λ t. t.answer.number ≢ 0 → Untouched k t) (λ v h. refuse_untouched k 1 _) (λ v m h. refuse_untouched k 16 _) (λ v n p q h. refuse_untouched k n _)
    (λ v c e h. absurd (h (done_number day k c))) s

pub untested_refused : UntestedIsRefused
unfolding step kernel_refusal answered
untested_refused day k s v = rw v

pub misfiled_refused : MisfiledIsRefused
unfolding step kernel_refusal answered
misfiled_refused day k s v m = rw (v, filed_not k m)

-- ---- a list of records

pub turned_away_law : (day n : ℕ) (k : State) (s : List ℕ) → kernel_refusal day k ≡ suc n → step day k s ≡ record { state = k; answer = plain_answer (suc n) None }
unfolding step answered
turned_away_law day n k s e = rw e

pub turned_away_for_good : TurnedAwayForGood
unfolding log final
turned_away_for_good day zero k e h rs = absurd (h refl)
turned_away_for_good day (suc n) k e h rs = go rs
  where
    go : (rs : List (List ℕ)) → TurnedAway day (suc n) k rs
    go [] = record { entries = refl; state = refl }
    go (r ∷ rs) =
        let z = go rs in
        record { entries = rw (turned_away_law day n k r e, z.entries); state = rw (turned_away_law day n k r e) z.state }

pub refusals_numbered : RefusalsAreNumbered
refusals_numbered day k s =
    step_cases day k (λ t. Numbered day k t.answer.number)
    (λ v. rw refuse_number (record { most = omega arith; first = λ e. v; second = λ e. absurd (omega arith) }))
    (λ v m. rw refuse_number (record { most = omega arith; first = λ e. absurd (omega arith); second = λ e. (v, m) }))
    (λ v n p q. rw refuse_number (record { most = q.most; first = λ e. absurd (q.no1 e); second = λ e. absurd (q.no16 e) }))
    (λ v c e. rw done_number (record { most = omega arith; first = λ e. absurd (omega arith); second = λ e. absurd (omega arith) })) s
