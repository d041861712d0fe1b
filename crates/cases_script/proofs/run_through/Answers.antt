-- A run's text lies within the buffer.
use mathlib.Core.Path.{sym}
use lib.Seq.{length-take-le}
use Rattle.lines.proofs.PlacedLaws.{text_within}
use Rattle.cases_script.proofs.run_through.Goals as goal

pub slice_bounds-tell-end : goal.slice_bounds-tell-end
slice_bounds-tell-end g c = text_within c.run-ran.ensures.text

pub slice_bounds-tell-end-in-loop-rest : goal.slice_bounds-tell-end-in-loop-rest
slice_bounds-tell-end-in-loop-rest g c = sym (length-take-le _ _ (text_within c.run-ran.ensures.text))
