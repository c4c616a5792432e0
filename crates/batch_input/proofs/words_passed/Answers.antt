-- `batch_input::words_passed` meets its contract. Below 25 frames twice their number is the lesser, and from there on 50. Assumes nothing.
use native.Mathlib.Omega.{arith}
use Rattle.batch_input.proofs.words_passed.Goals as goal

pub overflow_mul-result : goal.overflow_mul-result
overflow_mul-result c = omega arith

pub returns-then-frames-lt25 : goal.returns-then-frames-lt25
returns-then-frames-lt25 c = omega arith

pub returns-else-frames-lt25 : goal.returns-else-frames-lt25
returns-else-frames-lt25 c = omega arith
