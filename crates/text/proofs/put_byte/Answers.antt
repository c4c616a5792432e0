-- `text::put_byte` meets its contract. One place is set. Assumes nothing.
use Rattle.text.proofs.Put.{one}
use Rattle.text.proofs.put_byte.Goals as goal

pub returns : goal.returns
returns c = one c.args.out.now c.args.at c.args.byte c.requires
