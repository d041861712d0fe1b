-- Every answer of the machine is in the code's types, so each has a line of at most the longest length.
use Rattle.std.specs.Prelude.{None, Some}
use mathlib.Core.Path.{◌≡◌}
use mathlib.Core.Bool.{Bool, true}
use mathlib.Core.List.{List, map}
use Prim.Native.Nat.{ℕ, ◌^◌, ◌≤◌, ◌<◌}
use native.Mathlib.Omega.{arith}
use lib.Dec.{ltb}
use lib.ListN.{length, take, length-take, length-map}
use lib.Pow.{pow_mono}
use borrow.Author.Tests.{ltb-true}
use Rattle.calendar.specs.declared.Instant.{Instant}
use Rattle.layout.specs.declared.Call.{Call}
use Rattle.layout.specs.declared.Mark.{Mark}
use Rattle.layout.specs.Marks.{is}
use Rattle.layout.specs.declared.Mark.TheVariants.{TG}
use Rattle.facts.proofs.Bools.{by_bool, both}
use Rattle.task.specs.declared.Task.{Task}
use Rattle.task.specs.declared.Turn.{Turn}
use Rattle.machine.specs.Calls.{change_of, trigger_in, interrupt_by, arrive, work_by}
use Rattle.machine.specs.Sorts.{sort_of, runner_at}
use Rattle.machine.specs.Refusals.{declared_by, declared_in}
use Rattle.machine.specs.Running.{runner, Running}
use Rattle.machine.specs.Serving.{Served, grant_to}
use Rattle.machine.specs.Sets.{Set, Granted, set_of, mark, members, each_set, no_sets}
use Rattle.machine.specs.declared.Sets.{Sets}
use Rattle.machine.specs.State.{most_tasks, task_at, enabled_at}
use Rattle.machine.specs.Step.{answered, finish, declared, carry_out, step}
use Rattle.machine.specs.Work.{Work, changed, only_enabled, turns, every_turn}
use Rattle.machine.specs.declared.Change.{Change}
use Rattle.machine.specs.declared.Sort.{Sort}
use Rattle.machine.specs.declared.Sort.TheVariants.{Declaration, OneTask, TheRunner, ListAsked, ListGiven, AnInterrupt, EveryTask}
use Rattle.machine.specs.declared.State.{State}
use Rattle.machine.proofs.Cases.{out_cases, step_cases}
use Rattle.machine.proofs.Passed.{passed, tested}
use Rattle.machine.proofs.Serving.{serve_keeps}
use Rattle.machine.proofs.SetLaws.{members_each, each_regranted, only_lt, put_lt, set_of_lt}
use Rattle.machine.proofs.Filing.{taken_valid}
use Rattle.machine.proofs.Urgency.{Below, runner_below}
use Rattle.lines.specs.Lines.{RunningByte, InTypes}

abbrev Word : ℕ → Type 0
Word n = n < 2 ^ 32

-- Each of five sets is a word.
abbrev Sized : Sets → Type 0
Sized s = (x : Set) → Word (members x s)

sized_each : (f : Set → ℕ) → ((x : Set) → Word (f x)) → Sized (each_set f)
sized_each f h x = rw (members_each x f) (h x)

sized_empty : Sized no_sets
sized_empty = sized_each (λ x. 0) (λ x. omega arith)

set_word : (g : Turn → Bool) (f : Task → Turn) (n : ℕ) (ts : List Task) → n ≤ most_tasks → Word (set_of (map g (turns n f ts)))
set_word g f n ts h =
    let l : length (map g (turns n f ts)) ≤ 32 = omega (arith, length-map (turns n f ts) g, length-map (take n ts) f, length-take n ts) in
    omega (arith, set_of_lt (map g (turns n f ts)), pow_mono l)

module _ (k : State) where
  sized_none : (is : List Bool) → Sized (only_enabled k is).sets
  unfolding only_enabled
  sized_none is = sized_empty

  sized_one : (i : ℕ) (d : Change) → i < most_tasks → Sized (changed k i d).sets
  unfolding changed
  sized_one i d h = sized_each _ (λ x. only_lt 32 i (mark x d.marks) h)

  module _ (few : k.counts.tasks ≤ most_tasks) where
    sized_every : (n : Instant) (f : Task → Turn) → Sized (every_turn k n f).sets
    unfolding every_turn
    sized_every n f = sized_each _ (λ x. set_word (λ u. mark x u.marks) f k.counts.tasks k.tasks few)

    sized_runner : (f : ℕ → Change) → Sized (changed k (runner_at (runner k)) (f (runner_at (runner k)))).sets
    sized_runner f = go (runner k) (runner_below k)
      where
        go : (r : Running) → Below k.counts.tasks r → Sized (changed k (runner_at r) (f (runner_at r))).sets
        go None b = sized_one 0 (f 0) (omega arith)
        go (Some i) b = sized_one i (f i) (omega arith)

    sized_interrupt : (day : ℕ) (m : Mark) (i : ℕ) → Sized (interrupt_by day m k i).sets
    unfolding interrupt_by trigger_in
    sized_interrupt day m i =
        by_bool (is m TG) (λ e. rw e (by_bool (enabled_at k i) (λ e. rw e (sized_every _ _)) (λ e. rw e (sized_none k.enabled))))
        (λ e. rw e (sized_none _))

    -- What a call of a sort does to task i.
    abbrev does : ℕ → Call → Sort → ℕ → Change
    does day c s i = change_of k.counts.tasks k.tasks day s c k.clock k.now (task_at k.tasks i) k.locks

    sized_work : (day : ℕ) (c : Call) (s : Sort) → declared_by s k.counts c ≡ true → Sized (work_by day s k c).sets
    unfolding work_by declared_by arrive
    sized_work day c Declaration e = sized_none k.enabled
    sized_work day c OneTask e =
        sized_one c.head.number (does day c OneTask c.head.number) (omega (arith, ltb-true c.head.number k.counts.tasks (both (ltb c.head.number k.counts.tasks) _ e).0))
    sized_work day c TheRunner e = sized_runner (does day c TheRunner)
    sized_work day c (ListAsked w b) e = sized_runner (does day c (ListAsked w b))
    sized_work day c (ListGiven w) e = sized_runner (does day c (ListGiven w))
    sized_work day c AnInterrupt e = sized_interrupt day c.head.mark c.head.number
    sized_work day c EveryTask e = sized_every _ _

    running_byte : (r : Running) → Below k.counts.tasks r → RunningByte r
    running_byte None b = tt
    running_byte (Some i) b = omega arith

    in_finish : (w : Work) → Sized w.sets → InTypes (finish k w).answer
    unfolding finish
    in_finish w s =
        record {
          number = omega arith;
          running = running_byte (finish k w).answer.running (runner_below (finish k w).state);
          sets =
              each_regranted Word w.sets _ s
              (serve_keeps k.counts.tasks k.places (λ (p : Served). Word p.granted)
              (λ p j l e h. unfold grant_to in put_lt 32 j p.granted (omega arith) h) k.counts.tasks _ (s Granted));
        }

    in_plain : (n : ℕ) → n ≤ 17 → InTypes (answered k n (runner k)).answer
    unfolding answered
    in_plain n h =
        record {
          number = omega arith;
          running = running_byte (runner k) (runner_below k);
          sets = sized_empty;
        }

    in_declared : (d : State) → InTypes (declared k d).answer
    unfolding declared answered
    in_declared d = in_plain 0 (omega arith)

    in_out : (day : ℕ) (c : Call) → declared_in c.head.mark k.counts c ≡ true → InTypes (carry_out day k c).answer
    in_out day c e =
        out_cases day k c (λ z. InTypes z.answer) (λ d. in_declared _) (λ d. in_finish _ (sized_work day c (sort_of c.head.mark) e))

in_idle : (k : State) (n : ℕ) → n ≤ 16 → InTypes (answered k n None).answer
unfolding answered
in_idle k n h =
    record {
      number = omega arith;
      running = tt;
      sets = sized_empty;
    }

pub answer_in_types : (day : ℕ) (k : State) (s : List ℕ) → InTypes (step day k s).answer
answer_in_types day k =
    step_cases day k (λ t. InTypes t.answer) (λ v. in_idle k 1 (omega arith)) (λ v m. in_idle k 16 (omega arith))
    (λ v n a b. in_plain k (tested day k (taken_valid day k v)).fits.tasks n b.most)
    (λ v c e. in_out k (tested day k (taken_valid day k v)).fits.tasks day c (passed day k c e).formal.known)
