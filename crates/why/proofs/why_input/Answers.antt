-- `why::why_input` meets its contract: the arrays' fronts hold the pairs that are handed on and all the values. Assumes nothing.
use mathlib.Core.Path.{sym}
use lib.Seq.{length-take-le}
use Rattle.why.proofs.why_input.Goals as goal

pub slice_bounds-why_frame-end : goal.slice_bounds-why_frame-end
slice_bounds-why_frame-end c = sym (length-take-le _ _ c.read_values-n.ensures.fits)

pub slice_bounds-why_frame-end-2 : goal.slice_bounds-why_frame-end-2
slice_bounds-why_frame-end-2 c = sym (length-take-le _ _ c.read_pairs-words.ensures.fits)
