-- The scan of the tasks: what it knows of those below i, who is runnable, who waits, and who leads.
use mathlib.Core.Path.{◌≡◌}
use mathlib.Core.Bool.{Bool, cond}
use Prim.Native.Nat.{ℕ, ◌+◌, ◌*◌}
use Rattle.lock.specs.Locks.{waiting}
use Rattle.machine.specs.Running.{most_places, most_urgent}
use Rattle.machine.specs.Sets.{holds}
use Rattle.machine.specs.State.{most_tasks, task_at, place_at}
use Rattle.machine.specs.declared.State.{State}
use Rattle.kernel_sets.specs.Puts.{put_if}
use Rattle.kernel_sets.specs.Standing.{Stands}
use Rattle.kernel_sets.specs.declared.Standing.{Standing}
use Rattle.kernel_sets.proofs.SetTill.{Till, till_none, till_more}
use Rattle.kernel_urgency.specs.Leads.{no_lead, Weighed, whose, urgency_then}
use Rattle.kernel_urgency.specs.declared.scan.Lead.{Lead}
use Rattle.kernel_urgency.proofs.LeadLaws.{Led, can_run, led_none, led_more}

-- What a scan of the first n tasks finds, those of the set late behind all others of their priority.
pub record Scanned (n : ℕ) (k : State) (late : ℕ) (lead : Lead) (s : Standing) : Type 0 where
  pub stands : Stands n k.tasks s
  pub leads : whose lead ≡ most_urgent n (can_run k.tasks) (urgency_then (λ i. holds i late) k.places k.tasks)

module _ (k : State) (late : ℕ) where
  pub record Scanning (i : ℕ) (lead : Lead) (r w : ℕ) : Type 0 where
    pub runs : Till (can_run k.tasks) i r
    pub waits : Till (λ j. waiting (task_at k.tasks j).wait) i w
    pub leads : Led i (can_run k.tasks) (urgency_then (λ j. holds j late) k.places k.tasks) lead

  pub scanning_none : {l : Lead} → l ≡ no_lead → Scanning 0 l 0 0
  scanning_none e = record { runs = till_none _; waits = till_none _; leads = led_none _ _ e }

  -- One more task: b is whether it can run, c whether it waits, d whether it is late, and p where it stands then.
  pub scanning_more : {i : ℕ} {lead after : Lead} {r w r' w' : ℕ} {b c d : Bool} {p : ℕ} → Scanning i lead r w
      → b ≡ can_run k.tasks i → r' ≡ put_if i b r → c ≡ waiting (task_at k.tasks i).wait → w' ≡ put_if i c w
      → d ≡ holds i late → p ≡ cond d most_tasks (place_at k.places i)
      → Weighed lead b (most_places * (task_at k.tasks i).current + p) i after → Scanning (i + 1) after r' w'
  unfolding urgency_then
  scanning_more {i} s e f g h l m q =
      record {
        runs = till_more _ s.runs e f;
        waits = till_more _ s.waits g h;
        leads = led_more _ (urgency_then (λ j. holds j late) k.places k.tasks) i e s.leads (rw (m, l) at q);
      }

  -- All of them.
  pub scanning_all : {i n : ℕ} {lead : Lead} {r w : ℕ} → Scanning i lead r w → i ≡ n → Scanned n k late lead (record { runnable = r; waiting = w })
  scanning_all s e =
      rw (← e) (record { stands = record { runnable = s.runs.below; waiting = s.waits.below }; leads = s.leads.who })
