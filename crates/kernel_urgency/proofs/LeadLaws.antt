-- The lead of a scan is that of the most urgent task, of those that pass a test.
use Rattle.std.specs.Prelude.{None, Some}
use mathlib.Core.Path.{◌≡◌, refl, ◌∙◌}
use mathlib.Core.Bool.{Bool, true, false, and-false}
use mathlib.Core.List.{List}
use Prim.Native.Nat.{ℕ, ◌+◌, ◌≤◌, ◌<◌}
use native.Mathlib.Numerals.{add-one}
use lib.Dec.{ltb}
use borrow.Author.Tests.{lt-ltb, le-ltb, lt-leb}
use Rattle.facts.proofs.Bools.{by_bool}
use Rattle.task.specs.State.{runnable}
use Rattle.task.specs.declared.Task.{Task}
use Rattle.machine.specs.State.{most_tasks, task_at}
use Rattle.machine.specs.Sets.{holds}
use Rattle.machine.specs.Running.{urgency, better, most_urgent, Running}
use Rattle.machine.proofs.SetLaws.{has_empty}
use Rattle.kernel_urgency.specs.Leads.{nobody, no_lead, lead_of, against, Weighed, whose, Leads, urgency_then}
use Rattle.kernel_urgency.specs.declared.scan.Lead.{Lead}

-- The lead among the first n tasks, of those that pass a test, by the urgencies u.
abbrev pub Led : ℕ → (ℕ → Bool) → (ℕ → ℕ) → Lead → Type 0
Led n test u l = Leads u (most_urgent n test u) l

-- ---- one more task

pub leads_nobody : (u : ℕ → ℕ) → Leads u None no_lead
unfolding lead_of whose
leads_nobody u = record { lead = refl; who = refl }

pub leads_one : (u : ℕ → ℕ) (i : ℕ) → i < most_tasks → Leads u (Some i) (record { urgency = u i; task = i })
unfolding lead_of whose
leads_one u i p = record { lead = refl; who = rw (lt-leb _ _ p) }

pub led_none : (test : ℕ → Bool) (u : ℕ → ℕ) {l : Lead} → l ≡ no_lead → Led 0 test u l
unfolding most_urgent
led_none test u e = rw e (leads_nobody u)

-- A task that counts is held against the lead.
leads_better : (u : ℕ → ℕ) (i : ℕ) → i < most_tasks → u i < nobody → (r : Running) (l : Lead) → Leads u r l → Leads u (better u r i) (against l true (u i) i)
unfolding lead_of against
leads_better u i p b None l h = rw (h.lead, lt-ltb _ _ b) (leads_one u i p)
leads_better u i p b (Some j) l h =
    by_bool (ltb (u i) (u j)) (λ e. rw (h.lead, e) (leads_one u i p)) (λ e. rw (h.lead, e) (rw h.lead at h))

module _ (test : ℕ → Bool) (u : ℕ → ℕ) (i : ℕ) where
  pub led_passed : {l : Lead} → test i ≡ false → Led i test u l → Led (i + 1) test u l
  unfolding most_urgent
  led_passed e h = rw (add-one, e) h

  -- The lead r that a scan has once it has looked at task i: b is what the test said.
  pub led_more : {b : Bool} {lead r : Lead} → b ≡ test i → Led i test u lead → Weighed lead b (u i) i r → Led (i + 1) test u r
  unfolding most_urgent against
  led_more {lead = lead} e h q =
      by_bool (test i)
      (λ t. rw (q.lead, e, add-one, t) (leads_better u i q.place q.small _ lead h))
      (λ t. rw (q.lead, e, add-one, t) h)

-- With the urgency u as it was found.
pub weighed : {l r : Lead} {b : Bool} {u v i : ℕ} → i < most_tasks → (u ≡ v) × (u < nobody) → r ≡ against l b u i → Weighed l b v i r
weighed p e q = record { place = p; small = rw e.0 at e.1; lead = q ∙ rw e.0 }

-- A task that is no more urgent leaves the lead as it was.
pub against_later : (l : Lead) (b : Bool) (u i : ℕ) → l.urgency ≤ u → against l b u i ≡ l
unfolding against
against_later l b u i h = rw (le-ltb u l.urgency h, and-false b)

-- ---- the running task

abbrev pub can_run : List Task → ℕ → Bool
can_run ts i = runnable (task_at ts i)

-- ---- places

-- With nobody late the order is the kernel's.
pub nobody_late : (ps : List ℕ) (ts : List Task) (i : ℕ) → urgency_then (λ j. holds j 0) ps ts i ≡ urgency ps ts i
unfolding urgency_then urgency
nobody_late ps ts i = rw (has_empty i)
