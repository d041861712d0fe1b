-- A grant helps nobody: taking makes nothing free, and the one writer who no longer waits has its bolts.
use mathlib.Core.Path.{◌≡◌, refl}
use mathlib.Core.Bool.{true, false}
use Prim.Native.Nat.{ℕ}
use Rattle.lists.specs.Lists.{names}
use Rattle.lock.specs.declared.Wait.{Wait}
use Rattle.lock.specs.declared.Wait.TheVariants.{Reserve, Enter}
use Rattle.lock.specs.Locks.{waiting, same_kind, is_free}
use Rattle.facts.proofs.Bools.{by_bool, by_eq, contra, both, and_both, not_of_false, or_then, then_or}
use Rattle.lists.proofs.EveryLaws.{every_then}
use Rattle.lock.proofs.Levels.{same_kind_law}
use Rattle.lock.proofs.Fewer.{taking_frees, reserved_shut}
use Rattle.task.specs.State.{wanted}
use Rattle.machine.specs.State.{task_at}
use Rattle.machine.specs.Granting.{goes_before, unopposed, available, could_be_granted}
use Rattle.machine.specs.Serving.{Served, grant_to}
use Rattle.machine.specs.OnePass.{can_be_served, Placed, GrantsHelpNobody}
use Rattle.machine.proofs.Below.{all_at, all_from}
use Rattle.machine.proofs.Serving.{grant_at, grant_other}

module _ (n : ℕ) (p : Served) (j : ℕ) (placed : Placed p j) (e : can_be_served n p j ≡ true) where
  -- What can be entered after the grant, the task granted didn't wait to reserve.
  not_granted : (q x : ℕ) → is_free Enter (grant_to j p).locks x ≡ true → goes_before q x (task_at p.tasks j) ≡ false
  unfolding grant_to
  not_granted q x f =
      let t = task_at p.tasks j in
      by_bool (goes_before q x t)
      (λ g.
      let a = both _ (names (wanted t) x) g in
      let r = same_kind_law t.wait Reserve (both (same_kind t.wait Reserve) _ a.0).0 in
      contra (rw r at f) (reserved_shut (wanted t) p.locks x (placed r) a.1))
      (λ g. g)

  unopposed_before : (q x : ℕ) → is_free Enter (grant_to j p).locks x ≡ true → unopposed n (grant_to j p).tasks q x ≡ true → unopposed n p.tasks q x ≡ true
  unfolding unopposed
  unopposed_before q x f u =
      all_from n _ (λ i l. by_eq i j (λ z. rw z (not_of_false _ (not_granted q x f))) (λ z. rw (grant_other p j i z) at (all_at n _ u i l)))

  free_before : (w : Wait) (x : ℕ) → is_free w (grant_to j p).locks x ≡ true → is_free w p.locks x ≡ true
  unfolding grant_to
  free_before w x = taking_frees w (task_at p.tasks j).wait (wanted (task_at p.tasks j)) p.locks x

  available_before : (q : ℕ) (w : Wait) (x : ℕ) → available n (grant_to j p).tasks (grant_to j p).locks q w x ≡ true → available n p.tasks p.locks q w x ≡ true
  unfolding available
  available_before q w x a =
      let b = both (is_free w (grant_to j p).locks x) _ a in
      and_both (free_before w x b.0)
      (then_or (same_kind w Enter) _
      (λ s. unopposed_before q x (rw (same_kind_law w Enter s) at b.0) (or_then (same_kind w Enter) _ b.1 s)))

  helped : (i : ℕ) → can_be_served n (grant_to j p) i ≡ true → can_be_served n p i ≡ true
  unfolding could_be_granted
  helped i s =
      by_eq i j (λ z. contra (rw (z, grant_at n p j e) at s) refl)
      (λ z.
      let t = task_at p.tasks i in
      let a = both (waiting t.wait) _ (rw (grant_other p j i z) at s) in
      and_both a.0 (every_then _ _ (wanted t) (available_before t.current t.wait) a.1))

pub grants_help_nobody : GrantsHelpNobody
grants_help_nobody n p j i h e s = helped n p j h e i s
