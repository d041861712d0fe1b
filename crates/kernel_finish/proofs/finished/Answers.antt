-- The scan's sets and lead are those of all tasks; the second scan is of the kernel that serving leaves.
use borrow.Author.Rules.{rules}
use Rattle.std.specs.Prelude.{None}
use mathlib.Core.Path.{◌≡◌, refl, sym, ◌∙◌}
use native.Mathlib.Nat.{min-eq_left, le_antisymm}
use Rattle.facts.proofs.Bools.{contra}
use Rattle.kernel_values.proofs.Owned.{tables_long}
use Rattle.kernel_test.proofs.SoundLaws.{places_fit}
use Rattle.kernel_finish.proofs.Scanning.{Scanned, scanning_none, scanning_more, scanning_all}
use Rattle.kernel_finish.proofs.EndLaws.{Settled, nobody_waits, settled_idle, then_second, settled_served, settled_ends}
use Rattle.kernel_finish.proofs.finished.Goals as goal
use Rattle.kernel_finish.proofs.finished.Goals.{then-served, else-served+then-waiting-eq0, else-served+else-waiting-eq0+then-is_none}

pub loop-i-2-init : goal.loop-i-2-init
loop-i-2-init c = (search rules, scanning_none _ _ c.no_lead-lead.ensures)

pub loop-i-2-preserved : goal.loop-i-2-preserved
loop-i-2-preserved c = (
  search rules,
  scanning_more _ _ c.loop-i-2.invariant.1 c.can_run-runs.ensures c.put_if-runnable.ensures c.is_waiting.ensures c.put_if-waiting.ensures
      c.is_in.ensures c.place_if.ensures c.against_if-lead.ensures,
)

pub loop-i-preserved : goal.loop-i-preserved
loop-i-preserved c =
    let l = c.loop-i-2 in
    let fits = places_fit c.args.k c.requires.k_value in
    let scan = scanning_all _ _ l.invariant.1 (le_antisymm l.invariant.0 c.loop-i-2-test.false ∙ c.in_table-n.ensures ∙ min-eq_left fits) in
    let first = c.loop-i.invariant.0 c.if-served.false in
    (λ e. contra refl e, λ e. then_second _ _ _ scan first c.turned_back-before.ensures c.serve-s.ensures c.late_of-late.ensures)

pub moved-k-requires : goal.moved-k-requires
moved-k-requires c = places_fit c.args.k c.requires.k_value

pub returns : goal.returns
returns c ts t =
    let a = c.args in
    let p = c.loop-i in
    let l = c.loop-i-2 in
    let fits = places_fit a.k c.requires.k_value in
    let scan = scanning_all _ _ l.invariant.1 (le_antisymm l.invariant.0 c.loop-i-2-test.false ∙ c.in_table-n.ensures ∙ min-eq_left fits) in
    let s : Settled a.k a.m ts p.k p.granted l.lead c.if-served.before (record { runnable = l.runnable; waiting = l.waiting }) =
    elim c.if-served.branch [
      | then-served w ↦ rw w.before-is (settled_served _ _ _ scan fits (p.invariant.1 w.if-served.true) ts t)
      | else-served+then-waiting-eq0 w ↦
          rw w.before-is (settled_idle _ _ _ scan (p.invariant.0 w.if-served.false) w.turned_back-before.ensures
          (nobody_waits _ _ _ scan (p.invariant.0 w.if-served.false) w.turned_back-before.ensures w.if-waiting-eq0.true) ts t)
      | else-served+else-waiting-eq0+then-is_none w ↦
          rw w.before-is (settled_idle _ _ _ scan (p.invariant.0 w.if-served.false) w.turned_back-before.ensures
          (sym w.next_served.ensures ∙ (let h : w.next_served.result ≡ None = search rules in h)) ts t)
    ] in
    rw (c.answer_of.ensures, c.begun_at.ensures, c.who-running.ensures)
    (settled_ends a.k a.m fits c.requires.places_value (tables_long a.k (c.well_formed.0.0, c.well_formed.0.1.1)).places ts
    p.k p.granted l.lead c.if-served.before _ s
    c.events_of-events.result (λ us q. c.events_of-events.ensures _ ts us fits s.stood q) c.moved-k.result c.moved-k.ensures a.next)
