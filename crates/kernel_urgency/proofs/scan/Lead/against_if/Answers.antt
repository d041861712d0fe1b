-- A task that doesn't count, or whose priority is behind the lead's, leaves the lead as it was.
use borrow.Author.Rules.{rules}
use mathlib.Core.Path.{sym, ◌∙◌}
use Prim.Native.Nat.{◌+◌, ◌*◌}
use native.Mathlib.Omega.{arith}
use Rattle.machine.specs.Running.{most_places}
use Rattle.kernel_urgency.specs.Leads.{against}
use Rattle.kernel_urgency.proofs.LeadLaws.{weighed, against_later}
use Rattle.kernel_urgency.proofs.scan.Lead.against_if.Goals as goal

pub returns-then-not-counts : goal.returns-then-not-counts
unfolding against
returns-then-not-counts c = record { place = search rules; small = omega arith; lead = rw (c.if-not-counts.true) }

pub returns-then-self-current : goal.returns-then-self-current
returns-then-self-current c =
    let a = c.args in
    record {
      place = search rules;
      small = omega arith;
      lead = sym (against_later a.self a.counts (most_places * a.current + a.place) a.i (omega (arith, c.if-self-current.true)));
    }

pub returns : goal.returns
returns c =
    weighed (search rules) c.urgency_of.ensures (c.against.ensures ∙ rw (c.if-not-counts.false))
