-- The lead so far is that of the most urgent task so far that could be granted.
use borrow.Author.Rules.{rules}
use mathlib.Core.Path.{◌≡◌, refl, sym, ap, ◌∙◌}
use mathlib.Core.Bool.{Bool, true, false, not}
use Prim.Native.Nat.{ℕ, ◌+◌, ◌≤◌, ◌<◌}
use native.Mathlib.Nat.{le_antisymm}
use native.Mathlib.Omega.{arith}
use lib.ListN.{length}
use lib.Seq.{length-take-le}
use Rattle.layout.specs.Fields.{most_numbers}
use Rattle.lists.proofs.SeenLaws.{seen_all}
use Rattle.lock.specs.Locks.{waiting}
use Rattle.lock.proofs.Rests.{number_below, fails_here, passes_here}
use Rattle.machine.specs.State.{most_tasks, task_at}
use Rattle.machine.specs.Granting.{servable, could_be_granted}
use Rattle.machine.specs.declared.State.{State}
use Rattle.machine.specs.Running.{urgency}
use Rattle.kernel_granting.specs.Writers.{Known, TellsFor}
use Rattle.kernel_test.specs.Looks.{waits_ok}
use Rattle.kernel_values.proofs.Owned.{list_long}
use Rattle.kernel_granting.proofs.WriterLaws.{known_none, ready_told, ready_known, shows_here}
use Rattle.kernel_urgency.proofs.LeadLaws.{led_none, led_more, led_passed, weighed, against_later}
use Rattle.kernel_serving.proofs.WaitLaws.{Listed, listed, servable_idle, servable_waits}
use Rattle.kernel_test.proofs.SoundLaws.{places_fit}
use Rattle.kernel_serving.proofs.next_served.Goals as goal
use Rattle.kernel_serving.proofs.next_served.Goals.{Joined-is_missing, then-is_missing, else-is_missing}

abbrev can_serve : State → ℕ → Bool
can_serve k = servable k.counts.tasks k.tasks k.locks

abbrev urge : State → ℕ → ℕ
urge k = urgency k.places k.tasks

placed : (k : State) (i : ℕ) → waits_ok k ≡ true → i < k.counts.tasks → i < most_tasks
placed k i w h = omega (arith, h, places_fit k w)

-- The task waits, on a list in order,
waits : (c : Joined-is_missing) → waiting (task_at c.args.k.tasks c.tasks.i).wait ≡ true
waits c = sym c.is_waiting.ensures ∙ c.if-not-is_waiting.false

waiter : (c : Joined-is_missing) → Listed (task_at c.args.k.tasks c.tasks.i)
waiter c = listed c.args.k c.requires c.tasks.i c.tasks-test.true (waits c)

-- that is as long as it says,
fits : (c : Joined-is_missing) → (task_at c.args.k.tasks c.tasks.i).len ≤ length (task_at c.args.k.tasks c.tasks.i).list
fits c = omega (arith, (waiter c).short, list_long c.args.k (c.well_formed.0.0, c.well_formed.0.1.1) c.tasks.i (waits c))

-- and the writers are known where they are asked for.
ready : (c : Joined-is_missing) → let k = c.args.k in let w = c.if-is_missing.writers in
    Known k.counts.tasks k.tasks w × TellsFor (task_at k.tasks c.tasks.i).wait k.counts.tasks k.tasks w
ready c =
    let k = c.args.k in
    let n = k.counts.tasks in
    let t = task_at k.tasks c.tasks.i in
    elim c.if-is_missing.branch [
      | then-is_missing b ↦ ready_told t.wait n k.tasks b.writers-is b.writers_of-writers.ensures
      | else-is_missing b ↦ ready_known t.wait n k.tasks b.writers-is c.tasks.invariant.1 c.is_missing.ensures b.if-is_missing.false
    ]

pub tasks-init : goal.tasks-init
tasks-init c = (led_none _ _ c.no_lead-lead.ensures, rw c.no_writers-writers.ensures (known_none _ _))

pub bounds-k-i : goal.bounds-k-i
bounds-k-i c = placed c.args.k c.tasks.i c.requires c.tasks-test.true

pub tasks-preserved-then-not-is_waiting : goal.tasks-preserved-then-not-is_waiting
tasks-preserved-then-not-is_waiting c =
    let k = c.args.k in
    let e = sym c.is_waiting.ensures ∙ c.if-not-is_waiting.true in
    (led_passed (can_serve k) (urge k) c.tasks.i (servable_idle _ k.tasks k.locks c.tasks.i e) c.tasks.invariant.0, c.tasks.invariant.1)

pub tasks-preserved-then-lead-u : goal.tasks-preserved-then-lead-u
unfolding urgency
tasks-preserved-then-lead-u c =
    let k = c.args.k in
    let l = c.tasks in
    let u = c.urgency_of-u in
    (led_more (can_serve k) (urge k) l.i refl l.invariant.0 (weighed (placed k l.i c.requires c.tasks-test.true) u.ensures (sym (against_later l.lead _ u.result l.i c.if-lead-u.true))), l.invariant.1)

pub writers_of-writers-requires : goal.writers_of-writers-requires
writers_of-writers-requires c = places_fit c.args.k c.requires

pub slice_bounds-list-end : goal.slice_bounds-list-end
slice_bounds-list-end c = fits (goal.at.slice_bounds-list-end c).Joined-is_missing

pub slice_bounds-asked-end : goal.slice_bounds-asked-end
slice_bounds-asked-end c = sym (length-take-le _ _ (fits (goal.at.slice_bounds-asked-end c).Joined-is_missing))

pub loop-number-init : goal.loop-number-init
loop-number-init c = record { rest = refl }

pub bounds-k-x : goal.bounds-k-x
bounds-k-x c = number_below _ _ (waiter (goal.at.bounds-k-x c).Joined-is_missing).below c.loop-number-test.true

pub bounds-k-x-in-loop-number : goal.bounds-k-x-in-loop-number
bounds-k-x-in-loop-number c = number_below _ _ (waiter (goal.at.bounds-k-x-in-loop-number c).Joined-is_missing).below c.loop-number-test.true

pub bounds-writers-x : goal.bounds-writers-x
bounds-writers-x c = number_below _ _ (waiter (goal.at.bounds-writers-x c).Joined-is_missing).below c.loop-number-test.true

pub tasks-preserved-then-not-is_available : goal.tasks-preserved-then-not-is_available
unfolding urgency could_be_granted
tasks-preserved-then-not-is_available c =
    let k = c.args.k in
    let i = c.tasks.i in
    let j = (goal.at.tasks-preserved-then-not-is_available c).Joined-is_missing in
    let known = ready j in
    let shows = shows_here k.locks c.if-is_missing.writers _ (number_below _ _ (waiter j).below c.loop-number-test.true) in
    let there = c.is_available.ensures _ _ _ k.counts.tasks k.tasks shows known.1 in
    let e = servable_waits _ k.tasks k.locks i (waits j) ∙ sym (fails_here c.loop-number.invariant c.loop-number-test.true there (ap not c.if-not-is_available.true)) in
    (led_passed (can_serve k) (urge k) i e c.tasks.invariant.0, known.0)

pub loop-number-preserved : goal.loop-number-preserved
loop-number-preserved c =
    let k = c.args.k in
    let j = (goal.at.loop-number-preserved c).Joined-is_missing in
    let shows = shows_here k.locks c.if-is_missing.writers _ (number_below _ _ (waiter j).below c.loop-number-test.true) in
    let there = c.is_available.ensures _ _ _ k.counts.tasks k.tasks shows (ready j).1 in
    passes_here c.loop-number.invariant c.loop-number-test.true there (ap not c.if-not-is_available.false)

pub tasks-preserved : goal.tasks-preserved
unfolding urgency could_be_granted
tasks-preserved c =
    let k = c.args.k in
    let i = c.tasks.i in
    let j = (goal.at.tasks-preserved c).Joined-is_missing in
    let e = servable_waits _ k.tasks k.locks i (waits j) ∙ sym (seen_all c.loop-number.invariant c.loop-number-test.false) in
    (led_more (can_serve k) (urge k) i (sym e) c.tasks.invariant.0 (weighed (placed k i c.requires c.tasks-test.true) c.urgency_of-u.ensures c.against-lead.ensures), (ready j).0)

pub returns : goal.returns
returns c = c.who.ensures ∙ c.tasks.invariant.0.who ∙ rw (le_antisymm c.tasks.auto.i-end c.tasks-test.false)
