-- The survey of a kernel: what one task adds, and what the whole says.
use Rattle.std.specs.Prelude.{None, Option, Some}
use mathlib.Core.Path.{◌≡◌, ◌∙◌, refl}
use mathlib.Core.Bool.{Bool, true, false}
use mathlib.Core.List.{List}
use Prim.Native.Nat.{ℕ, ◌+◌, ◌*◌, ◌≤◌, ◌<◌}
use native.Mathlib.Nat.{le_antisymm}
use native.Mathlib.Numerals.{add-one}
use Rattle.calendar.specs.Moments.{sooner, first_after, Moment}
use Rattle.calendar.specs.declared.Instant.{Instant}
use Rattle.facts.proofs.Bools.{by_bool}
use Rattle.schedule.specs.Coming.{next_of}
use Rattle.task.specs.Coming.{delay_end}
use Rattle.task.specs.declared.Task.{Task}
use Rattle.machine.specs.State.{task_at, place_at}
use Rattle.machine.specs.NextEvent.{next_event, next_among, all_pending}
use Rattle.machine.specs.Running.{running_of, runner, most_places, urgency, Running}
use Rattle.machine.specs.Test.{valid, filed, kernel_refusal}
use Rattle.machine.specs.declared.State.{State}
use Rattle.kernel_urgency.specs.Leads.{no_lead, Weighed, whose}
use Rattle.kernel_urgency.specs.declared.scan.Lead.{Lead}
use Rattle.kernel_urgency.proofs.LeadLaws.{Led, can_run, led_none, led_more, led_passed}
use Rattle.machine.specs.declared.OnFile.{OnFile}
use Rattle.kernel_test.specs.Looks.{at_ease, surveyed, file_refusal}
use Rattle.kernel_next.proofs.NextLaws.{among_more}
use Rattle.kernel_test.proofs.TaskFit.{eased_runs, busy_rests}
use Rattle.kernel_test.proofs.TestLaws.{fit_at, Upto, upto_none, upto_passes}
use Rattle.kernel_places.specs.Seen.{none_seen, with_place, seen_by}
use Rattle.kernel_places.specs.declared.seen.Seen.{Seen}

-- What the scan knows of the tasks below i: all are fit, when something next comes, the places, and who leads of those
-- that can run.
pub record Looked (day : ℕ) (k : State) (i : ℕ) (soonest : Moment) (seen : Seen) (lead : Lead) : Type 0 where
  pub tasks : Upto (fit_at day k) k.counts.tasks i
  pub comings : soonest ≡ next_among k.now i k.tasks
  pub places : seen ≡ seen_by i k.places
  pub leads : Led i (can_run k.tasks) (urgency k.places k.tasks) lead

-- One part of one task: m is what pends of it, and b what was found before.
module _ (now : Instant) (m : Moment) {w : Moment} (b : Moment) (e : b ≡ w) where
  pub sooner_more : {c r : Moment} → c ≡ r → r ≡ sooner now m b → c ≡ sooner now m w
  sooner_more q f = rw (q, f, e)

  pub sooner_same : {c : Moment} → c ≡ b → m ≡ None → c ≡ sooner now m w
  sooner_same q f = rw (q, f, e)

-- A part of a task that passed its test, and the scan's next event after it.
pub record Part (ok : Bool) (now : Instant) (m before after : Moment) : Type 0 where
  pub passes : ok ≡ true
  pub comes : after ≡ sooner now m before

-- A task at ease is held against the lead if it lives, and one that isn't leaves the lead as it was.
module _ (ps : List ℕ) (ts : List Task) (i : ℕ) {lead : Lead} (h : Led i (can_run ts) (urgency ps ts) lead) where
  pub led_eased : {r : Lead} → at_ease (task_at ts i).wait (task_at ts i).hold ≡ true
      → Weighed lead (task_at ts i).alive (most_places * (task_at ts i).current + place_at ps i) i r → Led (i + 1) (can_run ts) (urgency ps ts) r
  unfolding urgency
  led_eased e q = led_more (can_run ts) (urgency ps ts) i (eased_runs (task_at ts i) e) h q

  pub led_busy : at_ease (task_at ts i).wait (task_at ts i).hold ≡ false → Led (i + 1) (can_run ts) (urgency ps ts) lead
  led_busy e = led_passed (can_run ts) (urgency ps ts) i (busy_rests (task_at ts i) e) h

module _ (day : ℕ) (k : State) where
  pub looked_none : {seen : Seen} {lead : Lead} → seen ≡ none_seen → lead ≡ no_lead → Looked day k 0 None seen lead
  unfolding seen_by next_among all_pending first_after
  looked_none e f = record { tasks = upto_none _ _; comings = refl; places = e; leads = led_none _ _ f }

  module _ {i : ℕ} {soonest : Moment} {seen : Seen} {lead : Lead} (p : Looked day k i soonest seen lead) where
    pub looked_next :
        i < k.counts.tasks → (next : Moment) {more : Seen} {after : Lead} → fit_at day k i ≡ true
        → next ≡ sooner k.now (delay_end (task_at k.tasks i).hold) (sooner k.now (next_of (task_at k.tasks i).schedule.alarm) (sooner k.now (next_of (task_at k.tasks i).continuation) soonest))
        → more ≡ with_place (place_at k.places i) seen
        → Led (i + 1) (can_run k.tasks) (urgency k.places k.tasks) after
        → Looked day k (i + 1) next more after
    unfolding seen_by
    looked_next less next fits c s a =
        record {
          tasks = upto_passes p.tasks less fits;
          comings = among_more k.now k.tasks i soonest next p.comings c;
          places = rw (add-one, ← p.places) s;
          leads = a;
        }

    module _ (end : k.counts.tasks ≤ i) where
      last : i ≡ k.counts.tasks
      last = le_antisymm p.tasks.within end

      pub looked_event : soonest ≡ next_event k
      looked_event = p.comings ∙ rw last

      pub looked_places : seen ≡ seen_by k.counts.tasks k.places
      looked_places = p.places ∙ rw last

      pub looked_runs : whose lead ≡ runner k
      unfolding running_of
      looked_runs = p.leads.who ∙ rw last

-- ---- the whole

module _ (day : ℕ) (k : State) where
  pub unfit_is : false ≡ valid day k → None ≡ surveyed day k
  unfolding surveyed
  unfit_is e = rw (← e)

  pub fit_is :
      true ≡ valid day k → {m : Moment} {r : Running} → m ≡ next_event k → r ≡ runner k
      → Some (record { running = r; next = m }) ≡ surveyed day k
  unfolding surveyed
  fit_is e f g = rw (← e, f, g)

-- n is what was made of a survey and of what is on file.
pub said_number : (day : ℕ) (k : State) {v : Option OnFile} → v ≡ surveyed day k → {n : ℕ}
    → n ≡ file_refusal v k.file → n ≡ kernel_refusal day k
unfolding surveyed kernel_refusal filed
said_number day k e f = f ∙ by_bool (valid day k) (λ t. rw (e, t)) (λ t. rw (e, t))
