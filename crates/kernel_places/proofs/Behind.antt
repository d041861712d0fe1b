-- Who is most urgent once the tasks with an event have gone to the end, found without moving them.
use mathlib.Core.Path.{◌≡◌, sym, ◌∙◌}
use mathlib.Core.Bool.{Bool, true, cond}
use mathlib.Core.List.{List}
use Prim.Native.Nat.{ℕ, ◌+◌, ◌*◌, ◌≤◌, ◌<◌}
use native.Mathlib.Omega.{arith}
use lib.Dec.{ltb}
use lib.ListN.{length}
use borrow.Author.Tests.{ltb-true, ltb-false, lt-ltb, le-ltb}
use Rattle.facts.proofs.Bools.{by_bool}
use Rattle.task.specs.declared.Task.{Task}
use Rattle.machine.specs.Places.{moved, stands_before}
use Rattle.machine.specs.Running.{most_places, urgency, most_urgent}
use Rattle.machine.specs.State.{most_tasks, task_at, place_at}
use Rattle.machine.proofs.Places.{Apart, moved_apart, moved_order}
use Rattle.machine.proofs.Urgency.{scan_alike}
use Rattle.kernel_urgency.specs.Leads.{urgency_then}
use Rattle.facts.proofs.Numbers.{ltb_alike}

-- Priority comes first, then the rest by its own order.
by_priority : (c d x y v w : ℕ) → x < most_places → y < most_places → v < most_places → w < most_places → ltb x y ≡ ltb v w
    → ltb (most_places * c + x) (most_places * d + y) ≡ ltb (most_places * c + v) (most_places * d + w)
by_priority c d x y v w p q r s e =
    ltb_alike (most_places * c + x) (most_places * d + y) (most_places * c + v) (most_places * d + w)
    (λ l. then_less x y v w p q r s l (λ m. ltb-true v w (sym e ∙ lt-ltb x y m)))
    (λ l. then_less v w x y r s p q l (λ m. ltb-true x y (e ∙ lt-ltb v w m)))
  where
    then_less : (x y v w : ℕ) → x < most_places → y < most_places → v < most_places → w < most_places → most_places * c + x < most_places * d + y → (x < y → v < w)
        → most_places * c + v < most_places * d + w
    then_less x y v w p q r s l f =
        by_bool (ltb c d) (λ z. let m = ltb-true c d z in omega arith)
        (λ z. let m = ltb-false c d z in let k = f (omega arith) in omega arith)

module _ (n : ℕ) (ps : List ℕ) (e late : ℕ → Bool) (ts : List Task) (test : ℕ → Bool) (a : Apart n ps) (room : n ≤ length ps) (small : n ≤ most_tasks)
    (alike : (i : ℕ) → i < n → test i ≡ true → e i ≡ late i) where
  -- The place that the scan takes for task i.
  abbrev taken : ℕ → ℕ
  taken i = cond (late i) most_tasks (place_at ps i)

  taken_small : (i : ℕ) → i < n → taken i < most_places
  taken_small i l = by_bool (late i) (λ z. rw z (omega arith)) (λ z. rw z (let r = a.range i l in omega arith))

  pair : (i j : ℕ) → i < j → j < n → e i ≡ late i → e j ≡ late j → ltb (taken j) (taken i) ≡ stands_before e ps j i
  pair i j l m x y =
      let r = a.range i (omega arith) in
      let q = a.range j m in
      rw (x, y)
      (by_bool (late j)
      (λ z. by_bool (late i) (λ w. rw (z, w, le-ltb j i (omega arith), le-ltb most_tasks most_tasks (omega arith))) (λ w. rw (z, w, le-ltb most_tasks (place_at ps i) (omega arith))))
      (λ z. by_bool (late i) (λ w. rw (z, w, lt-ltb (place_at ps j) most_tasks (omega arith))) (λ w. rw (z, w))))

  pub then_urgent : most_urgent n test (urgency_then late ps ts) ≡ most_urgent n test (urgency (moved n e ps) ts)
  unfolding urgency_then urgency
  then_urgent =
      scan_alike n test _ _
      (λ i j l m x y.
      let b = moved_apart n e ps a room in
      let r = b.range i (omega arith) in
      let q = b.range j m in
      by_priority (task_at ts j).current (task_at ts i).current (taken j) (taken i) (place_at (moved n e ps) j) (place_at (moved n e ps) i)
      (taken_small j m) (taken_small i (omega arith)) (omega arith) (omega arith)
      (pair i j l m (alike i (omega arith) x) (alike j m y) ∙ sym (moved_order n e ps a room j i m (omega arith))))
