-- `crc::lay_payload` meets its contract: nine bytes copied, and three stored behind them.
use native.Mathlib.Omega.{arith}
use lib.ListN.{length-set}
use Rattle.crc.proofs.Places.{laid-set}
use Rattle.crc.proofs.lay_payload.Goals as goal

pub bounds-a91-10 : goal.bounds-a91-10
bounds-a91-10 c = simp length-set (omega arith)

pub bounds-a91-11 : goal.bounds-a91-11
bounds-a91-11 c = simp length-set (omega arith)

pub returns : goal.returns
returns c = laid-set c.args.payload.now c.args.a91.now _ c.requires.0 c.requires.1 c.copy_front.ensures
