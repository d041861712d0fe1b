-- How a call ends, with or without serving.
use Rattle.std.specs.Prelude.{None}
use mathlib.Core.Path.{◌≡◌, refl, sym, ◌∙◌}
use mathlib.Core.Bool.{Bool, true, false, not, ◌||◌}
use mathlib.Core.List.{List}
use Prim.Native.Nat.{ℕ, ◌≤◌, ◌<◌}
use native.Mathlib.Omega.{arith}
use lib.Bits.{bit_or}
use lib.ListN.{length}
use Rattle.calendar.specs.Moments.{Moment}
use Rattle.task.specs.State.{runnable}
use Rattle.task.specs.declared.Task.{Task}
use Rattle.machine.specs.Places.{event, moved}
use Rattle.machine.specs.Running.{most_urgent, running_of}
use Rattle.machine.specs.Serving.{next_served}
use Rattle.machine.specs.Sets.{holds, with_granted}
use Rattle.machine.specs.State.{most_tasks, with_places, with_file, begun_at}
use Rattle.machine.specs.Step.{finish}
use Rattle.machine.specs.Test.{places_ok}
use Rattle.machine.specs.declared.Sets.{Sets}
use Rattle.machine.specs.declared.State.{State}
use Rattle.machine.specs.declared.Stepped.{Stepped}
use Rattle.machine.specs.NextEvent.{next_among}
use Rattle.machine.specs.Work.{Work}
use Rattle.machine.proofs.Sleeping.{finish_next}
use Rattle.machine.proofs.SetLaws.{has_empty}
use Rattle.machine.proofs.Places.{apart_of, moved_alike, event_runnable}
use Rattle.machine.proofs.Urgency.{scan_same, scan_passing}
use Rattle.kernel_urgency.specs.Leads.{whose, urgency_then}
use Rattle.kernel_sets.specs.Standing.{Stands, Turned, turned_if}
use Rattle.kernel_urgency.specs.declared.scan.Lead.{Lead}
use Rattle.kernel_sets.specs.declared.Standing.{Standing}
use Rattle.kernel_urgency.proofs.LeadLaws.{can_run}
use Rattle.kernel_places.proofs.Behind.{then_urgent}
use Rattle.kernel_sets.proofs.SetOps.{holds_or}
use Rattle.kernel_serving.specs.Served.{served, with_served, served_of}
use Rattle.kernel_serving.proofs.ServeLaws.{served_idle, next_none}
use Rattle.kernel_finish.specs.Ends.{as_before, work_here, next_filed}
use Rattle.kernel_finish.proofs.Scanning.{Scanned}
use Rattle.kernel_values.specs.Answers.{answer_of}

-- Of the runnable tasks those with an event.
abbrev pub late_by : Standing → ℕ → ℕ → Bool
late_by before started i = not (holds i before.runnable) || holds i started

-- The sets say how the tasks stood before they turned.
abbrev pub Back : State → Standing → Standing → Type 0
Back k turned before = (ts : List Task) → Turned k.counts.tasks ts k.tasks turned → Stands k.counts.tasks ts before

-- The first scan is made of the kernel as its work has left it,
pub record First (k : State) (m : Sets) (turned : Standing) (now : State) (granted late : ℕ) : Type 0 where
  pub state : now ≡ k
  pub all : granted ≡ m.granted
  pub behind : late ≡ bit_or turned.runnable m.started

-- and the second one of the kernel that serving leaves, where `before` is known from the first.
pub record Second (k : State) (m : Sets) (turned : Standing) (now : State) (granted late : ℕ) (before : Standing) : Type 0 where
  pub state : now ≡ with_served (served_of k m.granted) k
  pub all : granted ≡ (served_of k m.granted).granted
  pub behind : (i : ℕ) → i < most_tasks → holds i late ≡ late_by before m.started i
  pub back : Back k turned before

-- Nobody is to be served.
abbrev pub Unserved : State → Type 0
Unserved k = next_served k.counts.tasks k.places (served k 0) ≡ None

-- Where a call stands once nobody is to be served: the kernel, the grants, who leads, and how the tasks stood and stand.
pub record Settled (k : State) (m : Sets) (ts : List Task) (now : State) (granted : ℕ) (lead : Lead) (before after : Standing) : Type 0 where
  pub state : now ≡ with_served (served_of k m.granted) k
  pub all : granted ≡ (served_of k m.granted).granted
  pub stood : Stands k.counts.tasks ts before
  pub stands : Stands k.counts.tasks (served_of k m.granted).tasks after
  pub leads : whose lead
      ≡ most_urgent k.counts.tasks (can_run (served_of k m.granted).tasks) (urgency_then (late_by before m.started) k.places (served_of k m.granted).tasks)

turned_twice : (b : Bool) → not (turned_if b true) ≡ b
turned_twice true = refl
turned_twice false = refl

module _ (k : State) (m : Sets) (turned : Standing) {now : State} {granted late : ℕ} {lead : Lead} {before after : Standing} (s : Scanned k.counts.tasks now late lead after) where
  -- The first scan has been made, and u says how `before` was found from it.
  module _ (f : First k m turned now granted late) (u : (n : ℕ) (ts us : List Task) → Stands n us after → Turned n ts us turned → Stands n ts before) where
    stood : Back k turned before
    stood ts t = u _ ts _ (rw f.state at s.stands) t

    -- Where nobody waits, nobody is to be served.
    pub nobody_waits : after.waiting ≡ 0 → Unserved now
    nobody_waits e = next_none now (rw f.state (λ i l. sym (rw f.state at s.stands.waiting i l) ∙ rw (e, has_empty i)))

    -- So the call has settled,
    pub settled_idle : Unserved now → (ts : List Task) → Turned k.counts.tasks ts k.tasks turned → Settled k m ts now granted lead before after
    unfolding urgency_then
    settled_idle e ts t =
        let z = served_idle k m.granted (rw f.state at e) in
        let b = stood ts t in
        let s' : Scanned k.counts.tasks k late lead after = rw f.state at s in
        record {
          state = rw z f.state;
          all = rw z f.all;
          stood = b;
          stands = rw z s'.stands;
          leads =
              rw z (rw f.behind at s'.leads
              ∙ scan_passing k.counts.tasks (can_run k.tasks) _ _
              (λ i l r. rw (holds_or i turned.runnable m.started, b.runnable i l, t.runnable i l, r, turned_twice (holds i turned.runnable))));
        }

    -- or the waiting tasks are served, and there is a second scan.
    pub then_second : {now' : State} {granted' late' : ℕ} → (now' ≡ with_served (served_of now granted) now) × (granted' ≡ (served_of now granted).granted)
        → ((i : ℕ) → i < most_tasks → holds i late' ≡ late_by before m.started i) → Second k m turned now' granted' late' before
    then_second e l =
        record { state = rw (f.state, f.all) at e.0; all = rw (f.state, f.all) at e.1; behind = l; back = stood }

  -- After it the call has settled too.
  pub settled_served : k.counts.tasks ≤ most_tasks → Second k m turned now granted late before
      → (ts : List Task) → Turned k.counts.tasks ts k.tasks turned → Settled k m ts now granted lead before after
  unfolding urgency_then
  settled_served fits f ts t =
      let s' : Scanned k.counts.tasks (with_served (served_of k m.granted) k) late lead after = rw f.state at s in
      record {
        state = f.state;
        all = f.all;
        stood = f.back ts t;
        stands = s'.stands;
        leads = s'.leads ∙ scan_same k.counts.tasks _ _ _ _ (λ i l. refl) (λ i l. rw (f.behind i (omega arith)));
      }

-- So the call ends.
pub settled_ends : (k : State) (m : Sets) → k.counts.tasks ≤ most_tasks → places_ok k.counts.tasks k.places ≡ true → length k.places ≡ most_tasks
    → (ts : List Task) (now : State) (granted : ℕ) (lead : Lead) (before after : Standing) → Settled k m ts now granted lead before after
    → (events : ℕ) → ((us : List Task) → Stands k.counts.tasks us after → (i : ℕ) → i < k.counts.tasks → holds i events ≡ event ts us m.started i)
    → (places : List ℕ) → places ≡ moved k.counts.tasks (λ i. holds i events) now.places
    → (next : Moment)
    → record {
      state = begun_at now.now (with_file (record { running = whose lead; next = next }) (with_places places now));
      answer = answer_of 0 (whose lead) (with_granted granted m);
    }
    ≡ next_filed next (finish (as_before ts k) (work_here k m))
unfolding finish served_of running_of
settled_ends k m fits ok long ts now granted lead before after s events ev places p next =
    let n = k.counts.tasks in
    let us = (served_of k m.granted).tasks in
    let e = event ts us m.started in
    let o : places ≡ moved n e k.places = p ∙ rw s.state (moved_alike n (λ i. holds i events) e n k.places (ev us s.stands)) in
    let r = s.leads ∙ then_urgent n k.places e (late_by before m.started) us (can_run us) (apart_of n k.places ok) (omega (arith, long)) fits
    (λ i l x. event_runnable ts us m.started i x ∙ rw (s.stood.runnable i l)) in
    rw (o, r, s.state, s.all)

-- With what it has on file already, a step stays.
pub next_filed_law : (s : Stepped) {m : Moment} → m ≡ s.state.file.next → next_filed m s ≡ s
next_filed_law s e = rw e

-- So it does with what the call's own work leaves to come.
pub next_of_work : (k : State) (w : Work) {m : Moment} → m ≡ next_among w.now k.counts.tasks w.tasks → next_filed m (finish k w) ≡ finish k w
next_of_work k w e = next_filed_law (finish k w) (e ∙ sym (finish_next k w))
