-- A tick sends to the end those that it makes runnable, and no others have an event.
use mathlib.Core.Path.{◌≡◌, refl, sym, ◌∙◌, ap}
use mathlib.Core.Bool.{Bool, true, false}
use mathlib.Core.List.{List}
use Prim.Native.Nat.{ℕ, ◌≤◌, ◌<◌}
use native.Mathlib.Omega.{arith}
use lib.ListN.{length}
use Rattle.calendar.specs.declared.Instant.{Instant}
use Rattle.lock.specs.Locks.{waiting}
use Rattle.facts.proofs.Bools.{by_bool, contra}
use Rattle.task.specs.State.{runnable}
use Rattle.task.specs.Turns.{tick_turn}
use Rattle.task.specs.declared.Task.{Task}
use Rattle.machine.specs.Places.{moved}
use Rattle.machine.specs.Running.{running_of}
use Rattle.machine.specs.Sets.{holds}
use Rattle.machine.specs.State.{most_tasks, task_at}
use Rattle.machine.specs.Test.{valid}
use Rattle.machine.specs.Work.{every_turn}
use Rattle.machine.specs.declared.State.{State}
use Rattle.machine.proofs.Below.{all_at}
use Rattle.machine.proofs.Facts.{task_untest}
use Rattle.machine.proofs.Passed.{parts, tested}
use Rattle.machine.proofs.Places.{Apart, apart_of, moved_alike}
use Rattle.machine.proofs.SetLaws.{has_empty}
use Rattle.machine.proofs.Works.{turn_at, set_at}
use Rattle.kernel_urgency.specs.Leads.{whose}
use Rattle.kernel_sets.specs.Standing.{turned_if, Turned}
use Rattle.kernel_urgency.specs.declared.scan.Lead.{Lead}
use Rattle.kernel_urgency.proofs.LeadLaws.{can_run}
use Rattle.kernel_sets.proofs.SetTill.{Till}
use Rattle.kernel_places.proofs.Behind.{then_urgent}
use Rattle.kernel_finish.proofs.EveryTask.{KeepsWait, tick_keeps, every_event}
use Rattle.kernel_time.proofs.TickRuns.{Leading, tick_event}
use Rattle.lock.proofs.Bits.{eqb_bit}

-- Whether task i turns from runnable to not or back.
abbrev pub turns : Instant → State → ℕ → Bool
turns n k i = let t = task_at k.tasks i in turned_if (runnable t) (runnable (tick_turn n t).task)

kept_waiting : (t u : Task) → KeepsWait t u → waiting t.wait ≡ waiting u.wait
kept_waiting t u k =
    by_bool (waiting t.wait) (λ e. ap waiting (sym (k.ends e).0))
    (λ e. by_bool (waiting u.wait) (λ w. contra (ap waiting (sym (k.begins w).0) ∙ w) e) (λ w. e ∙ sym w))

pub unturned : (a : Bool) → turned_if a a ≡ false
unturned true = refl
unturned false = refl

turned_back : (a b : Bool) → a ≡ turned_if (turned_if a b) b
turned_back true true = refl
turned_back true false = refl
turned_back false true = refl
turned_back false false = refl

module _ (day : ℕ) (k : State) (v : valid day k ≡ true) (long : length k.tasks ≡ most_tasks) (n : Instant) where
  abbrev after : List Task
  after = (every_turn k n (tick_turn n)).tasks

  few : k.counts.tasks ≤ most_tasks
  few = (tested day k v).fits.tasks

  pub places_apart : Apart k.counts.tasks k.places
  places_apart = apart_of k.counts.tasks k.places (parts day k v).places

  at_turn : (i : ℕ) → i < k.counts.tasks → task_at after i ≡ (tick_turn n (task_at k.tasks i)).task
  unfolding every_turn
  at_turn i l = turn_at k.counts.tasks (tick_turn n) k.tasks (omega (arith, long, few)) i l

  module _ (turned : ℕ) (t : Till (turns n k) k.counts.tasks turned) where
    -- They are those with an event,
    turned_event : (i : ℕ) → i < k.counts.tasks → holds i turned ≡ every_event k n (tick_turn n) i
    unfolding every_turn
    turned_event i l =
        t.below i l ∙ rw (← at_turn i l)
        (sym (tick_event n k.tasks after (every_turn k n (tick_turn n)).sets.started i
        (at_turn i l, rw (set_at k.counts.tasks (tick_turn n) k.tasks (omega (arith, long, few)) (λ u. u.marks.started) i l) (eqb_bit _))))

    pub turned_moves : {ps : List ℕ} → ps ≡ moved k.counts.tasks (λ i. holds i turned) k.places → ps ≡ moved k.counts.tasks (every_event k n (tick_turn n)) k.places
    turned_moves e = e ∙ moved_alike k.counts.tasks _ _ k.counts.tasks k.places turned_event

    -- and those for whom it has changed.
    pub turned_all : Turned k.counts.tasks k.tasks after (record { runnable = turned; waiting = 0 })
    turned_all =
        record {
          runnable = λ i l. rw (t.below i l, at_turn i l) (turned_back (runnable (task_at k.tasks i)) (runnable (tick_turn n (task_at k.tasks i)).task));
          waiting = λ i l. rw (has_empty i, at_turn i l)
              (kept_waiting (task_at k.tasks i) (tick_turn n (task_at k.tasks i)).task
              (tick_keeps day k.counts n (task_at k.tasks i) (task_untest day k.counts (task_at k.tasks i) (all_at k.counts.tasks _ (parts day k v).tasks i l))));
        }

    pub turned_leads : length k.places ≡ most_tasks → {lead : Lead} → Leading k.places turned after k.counts.tasks lead → {ps : List ℕ}
        → ps ≡ moved k.counts.tasks (every_event k n (tick_turn n)) k.places → whose lead ≡ running_of k.counts.tasks ps after
    unfolding running_of
    turned_leads room h e =
        h.leads.who
        ∙ rw e (then_urgent k.counts.tasks k.places (every_event k n (tick_turn n)) (λ i. holds i turned) after (can_run after) places_apart
        (omega (arith, room, few)) few (λ i l x. sym (turned_event i l)))
