-- The works of one task's turn and of the locks alone, and what a turn of every task leaves at each place.
use mathlib.Core.Path.{◌≡◌, refl, ap, ◌∙◌}
use mathlib.Core.Bool.{Bool, false}
use mathlib.Core.List.{List, [], ◌∷◌, ◌++◌, map}
use Prim.Native.Nat.{ℕ, zero, suc, ◌^◌, ◌≤◌, ◌<◌}
use native.Mathlib.Nat.{not-suc-le-zero}
use native.Mathlib.Omega.{arith}
use lib.ListN.{length, get_or, take, drop, length-drop, length-append, length-map, get_or-map, get_or-append, get_or-eq_default}
use lib.Seq.{get_or-take, length-take-le, set-get_or}
use Rattle.calendar.specs.declared.Instant.{Instant}
use Rattle.lock.specs.Locks.{bit}
use Rattle.lock.specs.declared.Locks.{Locks}
use Rattle.task.specs.State.{no_task}
use Rattle.task.specs.declared.Task.{Task}
use Rattle.task.specs.declared.Turn.{Turn}
use Rattle.machine.specs.declared.State.{State}
use Rattle.machine.specs.Sets.{has, only, set_of, no_sets, with_granted}
use Rattle.machine.specs.State.{task_at}
use Rattle.machine.specs.Work.{Work, by_turn, by_locks, changed, only_enabled, turns, every_turn}
use Rattle.machine.proofs.SetLaws.{has_set_of, set_of_lt}

-- ---- one task, or none

-- Task i has its turn.
abbrev pub one_turn : State → ℕ → Turn → Work
one_turn k i u = changed k i (by_turn k.locks u)

-- No task has a turn; locks and interrupts may change, and some tasks may be granted.
unfoldable pub only_locks : State → Locks → List Bool → ℕ → Work
only_locks k r is g =
    record {
      now = k.now;
      tasks = k.tasks;
      locks = r;
      enabled = is;
      sets = with_granted g no_sets;
    }

pub locks_alone : (k : State) (i : ℕ) (l : Locks) (b : Bool) → changed k i (by_locks (task_at k.tasks i) l b) ≡ only_locks k l k.enabled (only i b)
unfolding changed only_locks
locks_alone k i l b = rw (set-get_or k.tasks i no_task)

pub enabled_alone : (k : State) (es : List Bool) → only_enabled k es ≡ only_locks k k.locks es 0
unfolding only_enabled only_locks
enabled_alone k es = refl

-- ---- every task

pub map_at : {A B : Type 0} (f : A → B) (l : List A) (i : ℕ) (d : A) (e : B) → i < length l → get_or (map f l) i e ≡ f (get_or l i d)
map_at f [] i d e h = absurd (not-suc-le-zero h)
map_at f (x ∷ l) zero d e h = refl
map_at f (x ∷ l) (suc i) d e h = map_at f l i d e (omega arith)

module _ (n : ℕ) (f : Task → Turn) (ts : List Task) (room : n ≤ length ts) where
  turns_length : length (turns n f ts) ≡ n
  turns_length = length-map (take n ts) f ∙ length-take-le n ts room

  part_at : {B : Type 0} (g : Turn → B) (e : B) (i : ℕ) → i < n → get_or (map g (turns n f ts)) i e ≡ g (f (task_at ts i))
  part_at g e i lt =
      map_at g (turns n f ts) i (f no_task) e (omega (arith, turns_length))
      ∙ ap g (get_or-map f (take n ts) i no_task ∙ ap f (get_or-take n ts i no_task lt))

  pub turn_at : (i : ℕ) → i < n → task_at (map (λ (u : Turn). u.task) (turns n f ts) ++ drop n ts) i ≡ (f (task_at ts i)).task
  turn_at i lt =
      get_or-append (map (λ (u : Turn). u.task) (turns n f ts)) (drop n ts) no_task i (omega (arith, turns_length, length-map (turns n f ts) (λ (u : Turn). u.task)))
      ∙ part_at (λ u. u.task) no_task i lt

  -- A set has a task where its turn says so, and no other than the first n.
  pub set_at : (g : Turn → Bool) (i : ℕ) → i < n → has i (set_of (map g (turns n f ts))) ≡ bit (g (f (task_at ts i)))
  set_at g i lt = has_set_of i (map g (turns n f ts)) ∙ ap bit (part_at g false i lt)

  pub set_beyond : (g : Turn → Bool) (i : ℕ) → n ≤ i → has i (set_of (map g (turns n f ts))) ≡ 0
  set_beyond g i le =
      has_set_of i (map g (turns n f ts))
      ∙ ap bit (get_or-eq_default (map g (turns n f ts)) false (omega (arith, length-map (turns n f ts) g, turns_length)))

  pub set_lt : (g : Turn → Bool) → set_of (map g (turns n f ts)) < 2 ^ n
  set_lt g = rw (length-map (turns n f ts) g ∙ turns_length) at (set_of_lt (map g (turns n f ts)))

-- An empty one.
pub set_none : (n : ℕ) (f : Task → Turn) (ts : List Task) → n ≤ length ts → (g : Turn → Bool)
    → ((i : ℕ) → i < n → g (f (task_at ts i)) ≡ false) → set_of (map g (turns n f ts)) ≡ 0
unfolding set_of
set_none zero f ts h g e = refl
set_none (suc n) f [] h g e = absurd (not-suc-le-zero h)
set_none (suc n) f (t ∷ ts) h g e = rw (e 0 (omega arith), set_none n f ts (omega arith) g (λ i l. e (suc i) (omega arith)))

pub every_length : (k : State) (n : Instant) (f : Task → Turn) → k.counts.tasks ≤ length k.tasks → length (every_turn k n f).tasks ≡ length k.tasks
unfolding every_turn
every_length k n f room = simp (length-append, length-map, length-drop) (omega (arith, length-take-le k.counts.tasks k.tasks room))
