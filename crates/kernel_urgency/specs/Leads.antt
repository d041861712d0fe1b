-- The task that leads a scan, and how urgent it is.
use Rattle.std.specs.Prelude.{None, Some, ◌≡◌, Bool, cond, ◌&&◌, List, ℕ, ◌+◌, ◌*◌, ◌<◌, leb, ltb}
use Rattle.task.specs.declared.Task.{Task}
use Rattle.machine.specs.State.{most_tasks, task_at, place_at}
use Rattle.machine.specs.Running.{most_places, Running}
use Rattle.kernel_urgency.specs.declared.scan.Lead.{Lead}

-- More than the urgency of any task: 256 * 255 + 255 is the largest.
abbrev pub nobody : ℕ
nobody = 65536

abbrev pub no_lead : Lead
no_lead = record { urgency = nobody; task = most_tasks }

-- A task i of urgency u is held against the lead, if it counts.
unfoldable pub against : Lead → Bool → ℕ → ℕ → Lead
against l counts u i = cond (counts && ltb u l.urgency) (record { urgency = u; task = i }) l

-- So it is done, for a place of the table and with an urgency that a task can have.
pub record Weighed (l : Lead) (counts : Bool) (u i : ℕ) (r : Lead) : Type 0 where
  pub place : i < most_tasks
  pub small : u < nobody
  pub lead : r ≡ against l counts u i

-- Who leads.
unfoldable pub whose : Lead → Running
whose l = cond (leb most_tasks l.task) None (Some l.task)

-- The lead of whom a scan has found, by the urgencies u.
unfoldable pub lead_of : (ℕ → ℕ) → Running → Lead
lead_of u None = no_lead
lead_of u (Some i) = record { urgency = u i; task = i }

pub record Leads (u : ℕ → ℕ) (r : Running) (l : Lead) : Type 0 where
  pub lead : l ≡ lead_of u r
  pub who : whose l ≡ r

-- The order of urgency once the late ones have gone to the end: behind all others of their priority. Of two such the scan
-- finds the smaller number.
unfoldable pub urgency_then : (ℕ → Bool) → List ℕ → List Task → ℕ → ℕ
urgency_then late ps ts i = most_places * (task_at ts i).current + cond (late i) most_tasks (place_at ps i)
