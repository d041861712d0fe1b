-- Two states of tasks and locks that are alike in what is declared: serving keeps them so.
use Rattle.std.specs.Prelude.{None, Some}
use mathlib.Core.Path.{◌≡◌, refl}
use mathlib.Core.List.{List}
use Prim.Native.Nat.{ℕ, zero, suc, ◌<◌}
use native.Mathlib.Omega.{arith}
use lib.ListN.{set}
use lib.Seq.{get_or-set_same, get_or-set_other}
use Rattle.lock.specs.declared.Way.TheVariants.{Take}
use Rattle.lock.specs.declared.Locks.{Locks}
use Rattle.facts.proofs.Bools.{by_eq, contra}
use Rattle.facts.proofs.Tables.{Like, like_set}
use Rattle.lock.proofs.Alike.{Alike, seen, move_alike}
use Rattle.task.specs.State.{no_task, wanted, wait_over}
use Rattle.task.specs.declared.Task.{Task}
use Rattle.task.proofs.Waits.{NoNewWait}
use Rattle.machine.specs.declared.Counts.{Counts}
use Rattle.machine.specs.Running.{Running, urgency}
use Rattle.machine.specs.State.{most_tasks, most_semaphores, most_bolts, task_at, place_at}
use Rattle.machine.specs.Granting.{servable}
use Rattle.machine.specs.Serving.{Served, next_served, grant_to, serve}
use Rattle.machine.proofs.Urgency.{scan_same}
use Rattle.machine.proofs.Passed.{Listed, Fits}
use Rattle.machine.proofs.Looks.{urgency_same, servable_same}
use Rattle.machine.proofs.Below.{Found, scan_finds}

-- Each wait's list is declared.
pub record Pair (n : Counts) (ts ts' : List Task) (r r' : Locks) : Type 0 where
  pub tasks : Like no_task most_tasks n.tasks ts ts'
  pub locks : Alike most_semaphores most_bolts n.semaphores n.bolts r r'
  pub listed : (i : ℕ) → i < n.tasks → Listed n (task_at ts i)

-- A turn that begins no wait leaves the list declared.
pub listed_on : (n : Counts) (t u : Task) → NoNewWait t u → Listed n t → Listed n u
listed_on n t u h l w = let (a, b, c) = h w in rw (a, b, c) (l (rw a at w))

-- A wait's end leaves nothing to declare.
listed_over : (n : Counts) (t : Task) → Listed n (wait_over t)
listed_over n t w = contra w refl

module _ (n : Counts) (f : Fits n) where
  abbrev AlikeLocks : Locks → Locks → Type 0
  AlikeLocks r r' = Alike most_semaphores most_bolts n.semaphores n.bolts r r'

  -- One task changes.
  pub pair_set : (ts ts' : List Task) (r r' s s' : Locks) → Pair n ts ts' r r' → AlikeLocks s s'
      → (i : ℕ) (t t' : Task) → (i < n.tasks → t ≡ t') → Listed n t → Pair n (set ts i t) (set ts' i t') s s'
  pair_set ts ts' r r' s s' h g i t t' e l =
      record {
        tasks = like_set no_task most_tasks n.tasks ts ts' h.tasks f.tasks i t t' e;
        locks = g;
        listed = λ j m. by_eq j i (λ q. rw (q, get_or-set_same ts i t no_task (omega (arith, h.tasks.long, f.tasks))) l)
            (λ q. rw (get_or-set_other ts i j t no_task q) (h.listed j m));
      }

  abbrev PairOf : Served → Served → Type 0
  PairOf p p' = Pair n p.tasks p'.tasks p.locks p'.locks × (p.granted ≡ p'.granted)

  grant_pair : (p p' : Served) → PairOf p p' → (i : ℕ) → i < n.tasks → PairOf (grant_to i p) (grant_to i p')
  unfolding grant_to
  grant_pair p p' (h, g) i l =
      let t = task_at p.tasks i in
      rw (← h.tasks.below i l, ← g) (
        pair_set p.tasks p'.tasks p.locks p'.locks _ _ h
            (move_alike most_semaphores most_bolts n.semaphores n.bolts f.semaphores f.bolts Take t.wait (wanted t) p.locks p'.locks h.locks)
            i (wait_over t) (wait_over t) (λ m. refl) (listed_over n t),
        refl,
      )

  module _ (ps ps' : List ℕ) (stand : (i : ℕ) → i < n.tasks → place_at ps i ≡ place_at ps' i) where
    next_same : (p p' : Served) → PairOf p p' → next_served n.tasks ps p ≡ next_served n.tasks ps' p'
    next_same p p' (h, g) =
        let s = seen most_semaphores most_bolts n.semaphores n.bolts f.semaphores f.bolts p.locks p'.locks h.locks in
        scan_same n.tasks _ _ _ _
        (λ i l. servable_same n p.tasks p'.tasks h.tasks.below p.locks p'.locks s i l (h.listed i l))
        (urgency_same n p.tasks p'.tasks h.tasks.below ps ps' stand)

    pub serve_pair : (turns : ℕ) (p p' : Served) → PairOf p p' → PairOf (serve n.tasks ps turns p) (serve n.tasks ps' turns p')
    unfolding serve
    serve_pair zero p p' h = h
    serve_pair (suc turns) p p' h =
        rw (← next_same p p' h, serve) (go (λ q q'. serve_pair turns q q') (next_served n.tasks ps p) (scan_finds n.tasks (servable n.tasks p.tasks p.locks) (urgency ps p.tasks)))
      where
        go : ((q q' : Served) → PairOf q q' → PairOf (serve n.tasks ps turns q) (serve n.tasks ps' turns q'))
            → (r : Running) → Found n.tasks (servable n.tasks p.tasks p.locks) (urgency ps p.tasks) r
            → PairOf (elim r [ None ↦ p | Some i ↦ serve n.tasks ps turns (grant_to i p) ]) (elim r [ None ↦ p' | Some i ↦ serve n.tasks ps' turns (grant_to i p') ])
        go ih None c = h
        go ih (Some i) c = ih (grant_to i p) (grant_to i p') (grant_pair p p' h i c.0)
