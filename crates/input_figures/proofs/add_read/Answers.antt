-- `input_figures::add_read` meets its contract: the arrays' fronts hold the pairs that are handed on and all the values.
use mathlib.Core.Path.{sym}
use lib.Seq.{length-take-le}
use Rattle.input_figures.proofs.add_read.Goals as goal

pub slice_bounds-add_frames-end : goal.slice_bounds-add_frames-end
slice_bounds-add_frames-end c = sym (length-take-le _ _ c.read_values-n.ensures.fits)

pub slice_bounds-add_frames-end-2 : goal.slice_bounds-add_frames-end-2
slice_bounds-add_frames-end-2 c = sym (length-take-le _ _ c.read_pairs-words.ensures.fits)
