-- What owning a kernel by value tells: how long its tables are, how long the list of a task that waits, that the priority
-- which a continuation gives is a u8, and that a value and a number of readers are a u16. With s the start of a function whose first parameter is the kernel,
-- `(s.good.0.0, s.good.0.1.1)` is an `Owned k`.
use mathlib.Core.Path.{◌≡◌, refl, sym, ◌∙◌}
use mathlib.Core.Bool.{true}
use mathlib.Core.List.{List, [], ◌∷◌, map}
use Prim.Native.Nat.{ℕ, zero, suc, ◌<◌, ◌≤◌}
use native.Mathlib.Omega.{arith}
use lib.Dec.{leb}
use lib.ListN.{length, length-map, get_or}
use mir.Val.{Val}
use mir.Syntax.{w16}
use denote.Shadow.{shadow}
use denote.Array.{each}
use denote.RattleType.{owns, Valss}
use denote.Struct.Declared.{shape}
use borrow.Author.Rules.{elem_Fits}
use borrow.Author.Tests.{le-leb}
use Rattle.record.specs.Refusals.{most_value}
use Rattle.lock.specs.Locks.{empty_bolt, waiting, value_at, bolt_at}
use Rattle.lock.specs.declared.Bolt.{Bolt}
use Rattle.lock.specs.contracts.Bolt as BoltT
use Rattle.facts.proofs.Bools.{contra}
use Rattle.task.specs.declared.Task.{Task}
use Rattle.task.specs.contracts.Task as TaskT
use Rattle.machine.specs.Invariants.{Tables}
use Rattle.layout.specs.Fields.{most_numbers}
use Rattle.machine.specs.State.{most_tasks, task_at}
use Rattle.machine.specs.Sums.{all_below}
use Rattle.machine.specs.Test.{most_priority}
use Rattle.machine.specs.declared.State.{State}
use Rattle.machine.specs.contracts.State as KernelT
use Rattle.machine.proofs.Below.{all_from}

abbrev pub Owned : State → Type 0
Owned k = (v : Valss (shape KernelT.the_type).fields) × shadow (owns (shape KernelT.the_type).fields ((KernelT.the_type).to k) v)

-- The list of each task of a table that waits.
lists_long :
    (ts : List Task) (us : List Val) →
    shadow (each (TaskT.the_row).Denot (TaskT.the_row).own_val ts us) →
    (i : ℕ) → waiting (task_at ts i).wait ≡ true → length (task_at ts i).list ≡ most_numbers
lists_long [] us p i = λ w. contra w refl
lists_long (t ∷ ts) [] p i = absurd p
lists_long (t ∷ ts) (u ∷ us) p zero = λ w. p.0.1.1.1.1.1.1.1.1.0.1.0.1
lists_long (t ∷ ts) (u ∷ us) p (suc i) = lists_long ts us p.1 i

-- The priority that the continuation of each task gives.
givens_fit :
    (ts : List Task) (us : List Val) →
    shadow (each (TaskT.the_row).Denot (TaskT.the_row).own_val ts us) →
    (i : ℕ) → (task_at ts i).given < 256
givens_fit [] us p i = omega arith
givens_fit (t ∷ ts) [] p i = absurd p
givens_fit (t ∷ ts) (u ∷ us) p zero = p.0.1.1.1.1.1.1.1.1.1.0.1
givens_fit (t ∷ ts) (u ∷ us) p (suc i) = givens_fit ts us p.1 i

-- The readers of each bolt of a table.
readers_fit :
    (bs : List Bolt) (us : List Val) →
    shadow (each (BoltT.the_row).Denot (BoltT.the_row).own_val bs us) →
    (i : ℕ) → (get_or bs i empty_bolt).readers < 65536
readers_fit [] us p i = omega arith
readers_fit (b ∷ bs) [] p i = absurd p
readers_fit (b ∷ bs) (u ∷ us) p zero = p.0.1.1.1.0.1
readers_fit (b ∷ bs) (u ∷ us) p (suc i) = readers_fit bs us p.1 i

module _ (k : State) (g : Owned k) where
  pub tables_long : Tables k
  tables_long =
      record {
        tasks = g.1.0.1.0.1;
        places = let l = g.1.1.0 in l.1.0.1;
        semaphores = let l = g.1.1.1.0.1.1.0 in l.1.0.1;
        bolts = let l = g.1.1.1.0.1.1.1.0 in l.1.0.1;
        enabled = let l = g.1.1.1.1.0 in l.1.0.1;
      }

  pub tasks_long : length k.tasks ≡ most_tasks
  tasks_long = tables_long.tasks

  pub list_long : (i : ℕ) → waiting (task_at k.tasks i).wait ≡ true → length (task_at k.tasks i).list ≡ most_numbers
  list_long i = lists_long k.tasks g.1.0.0 g.1.0.1.1 i

  pub given_small : (i : ℕ) → (task_at k.tasks i).given ≤ most_priority
  given_small i = let h = givens_fit k.tasks g.1.0.0 g.1.0.1.1 i in omega arith

  value_fits : (i : ℕ) → value_at k.locks i < 65536
  value_fits i =
      let l = g.1.1.1.0.1.1.0 in
      (elem_Fits w16 w16 k.locks.semaphores l.0 i l.1.1 tt).fits

  bolt_fits : (i : ℕ) → (bolt_at k.locks i).readers < 65536
  bolt_fits i = let l = g.1.1.1.0.1.1.1.0 in readers_fit k.locks.bolts l.0 l.1.1 i

  pub values_small : (n : ℕ) → all_below n (λ i. leb (value_at k.locks i) most_value) ≡ true
  values_small n = all_from n _ (λ i l. le-leb (value_at k.locks i) most_value (omega (arith, value_fits i)))

  pub readers_small : (n : ℕ) → all_below n (λ i. leb (bolt_at k.locks i).readers most_value) ≡ true
  readers_small n = all_from n _ (λ i l. le-leb (bolt_at k.locks i).readers most_value (omega (arith, bolt_fits i)))
