-- `decoded_input::frames_held` meets its contract. The two cases are the two branches.
use borrow.Author.Tests.{lt-ltb, le-ltb}
use Rattle.decoded_input.proofs.frames_held.Goals as goal

pub returns-then-frames-lt25 : goal.returns-then-frames-lt25
returns-then-frames-lt25 c = simp (lt-ltb _ _ c.if-frames-lt25.true)

pub returns-else-frames-lt25 : goal.returns-else-frames-lt25
returns-else-frames-lt25 c = simp (le-ltb _ _ c.if-frames-lt25.false)
