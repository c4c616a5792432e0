-- `work_area::clear_area` meets its contract: its first 3,070 places go to `clear`. Assumes nothing.

use Rattle.work_area.proofs.Area.{front-cleared}
use Rattle.work_area.proofs.clear_area.Goals as goal

pub returns : goal.returns
returns c = let cleared = c in
    let s = cleared in
    front-cleared s.args.work.now _ s.requires cleared.clear.ensures
