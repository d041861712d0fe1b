-- Who runs after a tick: a task that can run keeps its priority, so the lead only has to be held against the turns.
use Rattle.std.specs.Prelude.{None, Option, Some}
use mathlib.Core.Path.{◌≡◌, refl, sym, ◌∙◌, ap}
use mathlib.Core.Logic.{◌≢◌}
use mathlib.Core.Bool.{Bool, true, false, not, ◌&&◌, cond, ◌||◌}
use mathlib.Core.List.{List}
use Prim.Native.Nat.{ℕ, ◌+◌, ◌*◌, ◌≤◌, ◌<◌}
use native.Mathlib.Omega.{arith}
use lib.Dec.{ltb}
use lib.ListN.{length, set, length-set}
use lib.Seq.{get_or-set_same, get_or-set_other}
use borrow.Author.Tests.{lt-ltb, ltb-true, ltb-false, not-true}
use Rattle.calendar.specs.declared.Instant.{Instant}
use Rattle.lock.specs.Locks.{waiting}
use Rattle.facts.proofs.Bools.{by_bool, by_eq, contra, both}
use Rattle.schedule.specs.Alarms.{falls}
use Rattle.schedule.specs.Schedules.{advance}
use Rattle.task.specs.State.{no_task, runnable, unheld, with_schedule}
use Rattle.task.specs.Continuations.{continue_at}
use Rattle.task.specs.Turns.{due_if, delay_ends, wake, fall_turn, tick_turn}
use Rattle.task.proofs.Alike.{like_continue_at}
use Rattle.task.proofs.Continuing.{at_idle}
use Rattle.task.specs.declared.Hold.{Hold}
use Rattle.task.specs.declared.Hold.TheVariants.{Unheld, Suspended, Delayed}
use Rattle.task.specs.declared.Task.{Task}
use Rattle.task.specs.declared.Turn.{Turn}
use Rattle.task.proofs.Waits.{no_wait_tick}
use Rattle.machine.specs.State.{most_tasks, task_at, place_at}
use Rattle.machine.specs.Running.{urgency, most_urgent, running_of, most_places, Running}
use Rattle.machine.proofs.Below.{Found, scan_finds, most_urgent_at}
use Rattle.machine.specs.Sets.{has, holds}
use Rattle.machine.specs.Places.{event}
use Rattle.machine.proofs.Places.{Apart}
use Rattle.machine.proofs.Urgency.{scan_same}
use Rattle.machine.proofs.SetLaws.{has_empty}
use Rattle.kernel_urgency.specs.Leads.{nobody, no_lead, lead_of, against, Weighed, Leads, urgency_then}
use Rattle.kernel_urgency.specs.declared.scan.Lead.{Lead}
use Rattle.kernel_urgency.proofs.LeadLaws.{can_run, leads_nobody, leads_one, nobody_late}
use Rattle.kernel_sets.specs.Puts.{put_if}
use Rattle.kernel_sets.specs.Standing.{turned_if}
use Rattle.kernel_sets.proofs.SetTill.{put_here, put_other}

-- ---- one number that changes

-- A scan finds one.
found_one : (n : ℕ) (test : ℕ → Bool) (u : ℕ → ℕ) (r r' : Running) → Found n test u r → Found n test u r' → r ≡ r'
found_one n test u None None f g = refl
found_one n test u None (Some j) f g = contra g.1 (f j g.0)
found_one n test u (Some i) None f g = contra f.1 (g i f.0)
found_one n test u (Some i) (Some j) f g =
    by_bool (ltb i j) (λ e. absurd (omega (arith, g.3 i (ltb-true i j e) f.1, f.2 j g.0 g.1)))
    (λ e. by_eq i j (λ q. ap Some q) (λ q. absurd (omega (arith, f.3 j (omega (arith, ltb-false i j e, q)) g.1, g.2 i f.0 f.1))))

-- If it passes on as urgent as before, or didn't pass, only it can become the lead. It isn't as urgent as a later one.
module _ (n : ℕ) (test test' : ℕ → Bool) (u u' : ℕ → ℕ) (i : ℕ) (l : i < n)
    (same : (j : ℕ) → j ≢ i → (test j ≡ test' j) × (u j ≡ u' j))
    (stays : test i ≡ true → (test' i ≡ true) × (u i ≡ u' i))
    (later : (j : ℕ) → i < j → j < n → u' i ≢ u j) (place : i < most_tasks) (small : u' i < nobody) where
  kept : (j : ℕ) → test j ≡ true → (test' j ≡ true) × (u j ≡ u' j)
  kept j e = by_eq j i (λ q. rw q (stays (rw q at e))) (λ q. (sym (same j q).0 ∙ e, (same j q).1))

  abbrev Held : Lead → Type 0
  Held a = (r : Running) × Leads u' r (against a (test' i) (u' i) i) × Found n test' u' r

  held : (r : Running) (a : Lead) → Leads u r a → Found n test u r → Held a
  unfolding lead_of against
  held None a h f =
      rw h.lead
      (by_bool (test' i)
      (λ e. (
        Some i,
        rw (e, lt-ltb _ _ small) (leads_one u' i place),
        (
          l,
          e,
          λ j x t. by_eq j i (λ q. rw q (omega arith)) (λ q. contra ((same j q).0 ∙ t) (f j x)),
          λ j x t. contra ((same j (λ q. omega arith)).0 ∙ t) (f j (omega arith)),
        ),
      ))
      (λ e. (None, rw e (leads_nobody u'), λ j x. by_eq j i (λ q. rw q e) (λ q. sym (same j q).0 ∙ f j x))))
  held (Some k) a h f =
      by_bool (test' i && ltb (u' i) a.urgency)
      (λ e.
      let b = both (test' i) _ e in
      let less : u' i < u k = rw h.lead at (ltb-true (u' i) a.urgency b.1) in (
        Some i,
        rw e (leads_one u' i place),
        (
          l,
          b.0,
          λ j x t. by_eq j i (λ q. rw q (omega arith)) (λ q. omega (arith, less, f.2 j x ((same j q).0 ∙ t), (same j q).1)),
          λ j x t. let q : j ≢ i = λ q. omega arith in omega (arith, less, f.2 j (omega arith) ((same j q).0 ∙ t), (same j q).1),
        ),
      ))
      (λ e.
      let p = kept k f.1 in (
        Some k,
        rw e (record { lead = h.lead ∙ rw p.1; who = h.who }),
        (
          f.0,
          p.0,
          λ j x t.
              by_eq j i
              (λ q.
              let t' : test' i ≡ true = rw q at t in
              let most : u k ≤ u' i = rw h.lead at (ltb-false (u' i) a.urgency (rw t' at e)) in
              rw q (omega (arith, p.1, most)))
              (λ q. omega (arith, p.1, f.2 j x ((same j q).0 ∙ t), (same j q).1)),
          λ j x t.
              by_eq j i
              (λ q.
              let t' : test' i ≡ true = rw q at t in
              let most : u k ≤ u' i = rw h.lead at (ltb-false (u' i) a.urgency (rw t' at e)) in
              let ne = later k (omega (arith, q, x)) f.0 in
              rw q (by_eq (u' i) (u k) (λ z. absurd (ne z)) (λ z. omega (arith, p.1, most, z))))
              (λ q. omega (arith, p.1, f.3 j x ((same j q).0 ∙ t), (same j q).1)),
        ),
      ))

  leads_set : (a : Lead) → Leads u (most_urgent n test u) a → Leads u' (most_urgent n test' u') (against a (test' i) (u' i) i)
  leads_set a h =
      let x = held _ a h (scan_finds n test u) in
      rw (found_one n test' u' (most_urgent n test' u') x.0 (scan_finds n test' u') x.2) x.1

-- ---- a turn at a tick

awake : (n : Instant) (h : Hold) → unheld h ≡ true → delay_ends n h ≡ false
awake n Unheld e = refl
awake n Suspended e = contra e refl
awake n (Delayed m) e = contra e refl

-- A task goes on as it was.
abbrev GoesOn : Task → Turn → Type 0
GoesOn t u = (runnable u.task ≡ true) × (u.task.current ≡ t.current) × (u.marks.started ≡ false)

due_on : (p : ℕ) (t : Task) → runnable t ≡ true → (a : Bool) (b : Option ℕ) → a ≡ true
    → GoesOn t (due_if a b p t)
unfolding due_if
due_on p t e false b z = contra z refl
due_on p t e true None z = (e, refl, refl)
due_on p t e true (Some r) z = (e, refl, refl)

fall_on : (n : Instant) (t : Task) → runnable t ≡ true → GoesOn t (fall_turn n t)
unfolding fall_turn
fall_on n t e =
    let p = both t.alive (unheld t.hold) (both (t.alive && unheld t.hold) (not (waiting t.wait)) e).0 in
    let t' = with_schedule (advance n t.schedule) t in
    by_bool (falls n t.schedule.alarm) (λ f. rw f (due_on t.schedule.priority t' e t.alive t.kept p.0)) (λ f. rw f (e, refl, refl))

-- A task that can run can run on, with the priority that it had, and isn't started: its continuation, if it comes due, finds
-- it unheld.
pub runs_on : (n : Instant) (t : Task) → runnable t ≡ true → GoesOn t (tick_turn n t)
unfolding wake
runs_on n t e =
    let u = (both t.alive (unheld t.hold) (both (t.alive && unheld t.hold) (not (waiting t.wait)) e).0).1 in
    let l = like_continue_at n t in
    let m = at_idle n t u in
    let f = fall_on n (continue_at n t) (rw (l.alive, m.hold, l.wait) e) in
    rw (awake n t.hold u) (f.0, f.1 ∙ m.current, f.2)

-- So it has an event exactly where it turns from not runnable to runnable.
pub tick_event : (n : Instant) (ts us : List Task) (s i : ℕ) → (let u = tick_turn n (task_at ts i) in (task_at us i ≡ u.task) × (holds i s ≡ u.marks.started))
    → event ts us s i ≡ turned_if (runnable (task_at ts i)) (runnable (task_at us i))
unfolding event
tick_event n ts us s i (e, f) =
    let t = task_at ts i in
    let u = tick_turn n t in
    rw (e, f)
    (by_bool (runnable t)
    (λ r. let z = runs_on n t r in rw (r, z.0, z.2, rested u.task z.0))
    (λ r. rw r (fresh (runnable u.task) (waiting u.task.wait) (waiting t.wait) (λ w. ap waiting (sym (no_wait_tick t n w).0) ∙ w))))
  where
    rested : (u : Task) → runnable u ≡ true → waiting u.wait ≡ false
    rested u e = not-true (waiting u.wait) (both (u.alive && unheld u.hold) (not (waiting u.wait)) e).1

    fresh : (r w v : Bool) → (w ≡ true → v ≡ true) → ((r && true) || (w && not v)) ≡ r
    fresh true w v h = refl
    fresh false true v h = rw (h refl)
    fresh false false v h = refl

-- ---- a table, and who leads of those of its first c tasks that can run

-- The order of the tasks, those of the set late behind all others of their priority.
abbrev pub order : List ℕ → ℕ → List Task → ℕ → ℕ
order ps late ts = urgency_then (λ j. holds j late) ps ts

pub record Leading (ps : List ℕ) (late : ℕ) (ts : List Task) (c : ℕ) (lead : Lead) : Type 0 where
  pub long : length ts ≡ most_tasks
  pub leads : Leads (order ps late ts) (most_urgent c (can_run ts) (order ps late ts)) lead

module _ (ps : List ℕ) (ts : List Task) (c : ℕ) (f : length ts ≡ most_tasks) where
  first : {r : Running} → running_of c ps ts ≡ r → most_urgent c (can_run ts) (order ps 0 ts) ≡ r
  unfolding running_of
  first e = scan_same c _ _ _ _ (λ i l. refl) (λ i l. nobody_late ps ts i) ∙ e

  pub leading_none : running_of c ps ts ≡ None → {lead : Lead} → lead ≡ no_lead → Leading ps 0 ts c lead
  leading_none e q = record { long = f; leads = rw (q, first e) (leads_nobody (order ps 0 ts)) }

  pub leading_from : (j : ℕ) → running_of c ps ts ≡ Some j → {none lead : Lead}
      → none ≡ no_lead → Weighed none true (most_places * (task_at ts j).current + place_at ps j) j lead → Leading ps 0 ts c lead
  unfolding against urgency_then
  leading_from j e z q =
      record {
        long = f;
        leads = rw (q.lead, z, lt-ltb _ _ q.small, first e) (rw (has_empty j) at (leads_one (order ps 0 ts) j q.place));
      }

-- Task i has had its turn,
pub leading_more : (n : Instant) (ps : List ℕ) (late : ℕ) (ts : List Task) (c i : ℕ) → i < c → c ≤ most_tasks → Apart c ps
    → ((j : ℕ) → i ≤ j → has j late ≡ 0) → {ts' : List Task} {late' : ℕ} {lead lead' held : Lead} {runs turns : Bool} {p : ℕ}
    → (u : Turn) → u ≡ tick_turn n (task_at ts i) → Leading ps late ts c lead → ts' ≡ set ts i u.task → runs ≡ runnable u.task
    → turns ≡ turned_if (runnable (task_at ts i)) (runnable u.task) → late' ≡ put_if i turns late → p ≡ cond turns most_tasks (place_at ps i)
    → Weighed lead runs (most_places * u.task.current + p) i held → lead' ≡ held → Leading ps late' ts' c lead'
unfolding urgency_then
leading_more n ps late ts c i l b a above {lead = lead} {turns = turns} u e h x r y m p q z =
    let ts' = set ts i u.task in
    let late' = put_if i turns late in
    let there : task_at ts' i ≡ u.task = get_or-set_same ts i u.task no_task (omega (arith, h.long)) in
    let now : holds i late' ≡ turns = put_here i turns late (above i (omega arith)) in
    let moved =
    leads_set c (can_run ts) (can_run ts') (order ps late ts) (order ps late' ts') i l
    (λ j ne. let o = get_or-set_other ts i j u.task no_task ne in (rw o, rw (o, put_other i j turns late ne)))
    (λ g. let s = runs_on n (task_at ts i) g in rw (there, now, above i (omega arith), y, e, g, s.0) (refl, rw s.1))
    (λ j o k. rw (there, now, above j (omega arith)) (behind turns u.task.current (task_at ts j).current (a.range i l) (a.range j k) (λ w. omega (arith, a.apart i j l k w))))
    q.place (rw (there, now, ← p) q.small)
    lead h.leads in
    rw (x, m) (record { long = length-set ts i u.task ∙ h.long; leads = rw (z, q.lead, r, p) (rw (there, now) at moved) })
  where
    behind : (t : Bool) (x y : ℕ) {v w : ℕ} → v < c → w < c → v ≢ w → most_places * x + cond t most_tasks v ≢ most_places * y + w
    behind true x y p q f e = omega arith
    behind false x y p q f e = f (omega arith)

-- or was passed over.
pub leading_still : {ps : List ℕ} {late late' : ℕ} {ts ts' : List Task} {c : ℕ} {lead lead' : Lead}
    → Leading ps late ts c lead → ts' ≡ ts → late' ≡ late → lead' ≡ lead → Leading ps late' ts' c lead'
leading_still h a m b = rw (a, m, b) h

pub runs_below : (ps : List ℕ) (ts : List Task) (c j : ℕ) → running_of c ps ts ≡ Some j → j < c
unfolding running_of
runs_below ps ts c j e = (most_urgent_at c _ _ j e).0
