-- The places looked at have moved up.
use Rattle.std.proofs.Common.{rules, refl, arith}
use Rattle.std.proofs.lemmas.List.{set-get_or}
use Rattle.kernel_places.proofs.Closing.{closing_none, closing_up, closing_stay, closing_all}
use Rattle.kernel_places.proofs.to_end.Goals as goal
use Rattle.kernel_places.proofs.to_end.Goals.{then-p-q, else-p-q}

pub loop-q-init : goal.loop-q-init
loop-q-init c = (refl, closing_none _ c.args.places)

pub loop-q-preserved : goal.loop-q-preserved
loop-q-preserved c =
    let h = c.loop-q.invariant in (
      refl,
      elim c.if-p-q.branch [
        | then-p-q w ↦ rw w.q-items-is (closing_up h.1 (omega (arith, c.well_formed.0.1.0.1, c.loop-q-test.true)) w.if-p-q.true)
        | else-p-q w ↦ rw (w.q-items-is, set-get_or c.loop-q.q-items c.loop-q.q-index 0) (closing_stay h.1 w.if-p-q.false)
      ],
    )

pub returns : goal.returns
returns c = let a = c.args in let h = c.loop-q.invariant in closing_all a.n a.i a.places h.1 (omega (arith, c.well_formed.0.1.0.1, c.loop-q-test.false))
