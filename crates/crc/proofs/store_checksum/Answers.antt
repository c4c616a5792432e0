-- `crc::store_checksum` meets its contract: three stores within a block of twelve bytes.
use mathlib.Core.Path.{refl}
use Rattle.crc.proofs.store_checksum.Goals as goal

pub returns : goal.returns
returns c = refl
