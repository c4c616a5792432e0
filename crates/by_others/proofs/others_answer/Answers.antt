-- `by_others::others_answer` meets its contract: a fold goes on from the entries before to those after. Assumes nothing.
use mathlib.Core.Path.{refl}
use mathlib.Core.Bool.{false}
use lib.Ieee.{inf, div, of_bits}
use Rattle.softmath.specs.Single.{one32}
use Rattle.by_others.specs.Others.{lesser_of, turned_by}
use Rattle.softmath.proofs.LeaveOneOut.{fold-append}
use Rattle.by_others.proofs.others_answer.Goals as goal

pub returns : goal.returns
unfolding div of_bits
returns c = let signs = c in
    rw (c.least_from-2.ensures, c.least_from.ensures, signs.sign_from-sign.ensures, signs.sign_from.ensures)
    (rw (fold-append lesser_of (inf false) _ _, fold-append turned_by one32 _ _) refl)
