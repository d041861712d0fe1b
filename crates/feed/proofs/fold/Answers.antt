-- What is carried out lies in the buffer, and less than a record stays.
use borrow.Author.Rules.{rules}
use borrow.Author.Tests.{not-false}
use mathlib.Core.Path.{refl, sym}
use native.Mathlib.Omega.{arith}
use denote.Param.Always.{mut_next}
use lib.Seq.{length-take-le}
use Rattle.feed.proofs.WholeLaws.{whole_within, whole_fits, rest_short}
use Rattle.feed.proofs.fold.Goals as goal

pub slice_bounds-step-end : goal.slice_bounds-step-end
slice_bounds-step-end g c = whole_fits c.read_on-fed.result c.read_on-fed.ensures.read_on

pub keep-held-requires-clause-from_le_to : goal.keep-held-requires-clause-from_le_to
keep-held-requires-clause-from_le_to g c = whole_within c.read_on-fed.result c.read_on-fed.ensures.read_on

pub slice_bounds-step-end-in-loop : goal.slice_bounds-step-end-in-loop
slice_bounds-step-end-in-loop g c = sym (length-take-le _ _ (whole_fits c.read_on-fed.result c.read_on-fed.ensures.read_on))

pub loop-preserved : goal.loop-preserved
loop-preserved g c =
    let few = rest_short c.read_on-fed.result c.read_on-fed.ensures.read_on (not-false c.read_on-fed.result.more c.if-not-fed.false) in (
      mut_next g.F.FnMut _ _ _ _ _ c.step.ensures refl c.loop.invariant.0,
      search rules,
      omega (arith, few, c.keep-held.ensures.value),
    )
