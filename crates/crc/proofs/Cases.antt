-- The smallest input on which the register and QEX differ: by computation.
use mathlib.Core.Path.{◌≡◌, refl}
use mathlib.Core.List.{[], ◌∷◌}
use lib.ListN.{take}
use Rattle.bits.specs.Bits.{bits_of, bits}
use Rattle.checksum.specs.Qex.{bring_down, divide, qex}
use Rattle.checksum.specs.Register.{turn, fed, register, crc14}

-- one bit of the byte 0x01: the bit is 0, and the register has taken in the byte's last bit too
pub smallest_difference : (crc14 (0x01 ∷ []) 1 ≡ 0x0080) × (qex (take 1 (bits (0x01 ∷ []))) ≡ 0)
unfolding turn fed register crc14 bits_of bits bring_down divide qex
smallest_difference = (refl, refl)
