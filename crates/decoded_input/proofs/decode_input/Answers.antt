-- `decoded_input::decode_input` meets its contract: the batch call with the numbers of the header.
use mathlib.Core.Path.{sym}
use Rattle.decoded_input.proofs.decode_input.Goals as goal

pub returns : goal.returns
returns c = let done = c in
    let head = done.read_header-head.ensures in
    rw (sym head.code, sym head.rule, sym head.limit, sym head.scale) done.decode_batch.ensures
