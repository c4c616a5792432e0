-- `listing::list_input` meets its contract: the arrays' fronts hold the pairs that are handed on and all the values. Assumes nothing.
use mathlib.Core.Path.{sym}
use lib.Seq.{length-take-le}
use Rattle.listing.proofs.list_input.Goals as goal

pub slice_bounds-list_frames-end : goal.slice_bounds-list_frames-end
slice_bounds-list_frames-end c = sym (length-take-le _ _ c.read_values-n.ensures.fits)

pub slice_bounds-list_frames-end-2 : goal.slice_bounds-list_frames-end-2
slice_bounds-list_frames-end-2 c = sym (length-take-le _ _ c.read_pairs-words.ensures.fits)
