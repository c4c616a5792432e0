-- The checksum of the bits is the one that `ft8_add_crc` stores for them, and answers known beforehand, computed.
use mathlib.Core.Path.{◌≡◌, refl, sym, ap, ◌∙◌}
use mathlib.Core.Bool.{true, false}
use mathlib.Core.List.{List, [], ◌∷◌, ◌++◌}
use Prim.Native.Nat.{ℕ, ◌*◌, ◌≤◌}
use native.Mathlib.Omega.{arith}
use lib.Ieee.{is_nan, nan}
use lib.ListN.{length, take, replicate, length-append}
use lib.Seq.{length-take-le, take_at}
use Rattle.bits.specs.Bits.{number_after}
use Rattle.bits.proofs.AreBits.{are_bits_append, zeros_are}
use Rattle.bits.proofs.Packed.{unpacked}
use Rattle.crc.specs.Block.{payload_bits, block_checksum}
use Rattle.checksum.specs.Qex.{bring_down, divide, qex}
use Rattle.tanner.specs.Checks.{low_bits}
use Rattle.tanner.proofs.Count.{low-length}
use Rattle.clean.specs.Clean.{any_nan, payload_checksum, payload_of, checksum_right, frame_clean}
use Rattle.clean.proofs.Steps.{low-bits}

-- "the checksum that `ft8_add_crc` would store for its 77 payload bits": that of the payload with these bits
pub payload_has : (bits : List ℕ) → 77 ≤ length bits → payload_bits (payload_of bits) ≡ low_bits (take 77 bits)
payload_has bits long =
    let low = low_bits (take 77 bits) in
    let size : length low ≡ 77 = low-length (take 77 bits) ∙ length-take-le 77 bits long in
    let eighty : length (low ++ replicate 3 0) ≡ 8 * 10 = omega (arith, length-append low (replicate 3 0), size) in
    rw (unpacked 10 (low ++ replicate 3 0) eighty (are_bits_append (low-bits (take 77 bits)) (zeros_are 3))) (take_at low (replicate 3 0) 77 size)

pub stored : (bits : List ℕ) → 77 ≤ length bits → payload_checksum bits ≡ block_checksum (payload_of bits)
stored bits long = ap (λ (l : List ℕ). qex (l ++ replicate 5 0)) (sym (payload_has bits long))

-- "The all-zero (174,91) word still passes its checksum."
pub zero-passes : checksum_right (replicate 91 0) ≡ true
unfolding checksum_right low_bits qex divide bring_down number_after
zero-passes = refl

-- the first bit alone has another checksum
pub one_fails : checksum_right (1 ∷ replicate 90 0) ≡ false
unfolding checksum_right low_bits qex divide bring_down number_after
one_fails = refl

-- a frame of NaN is open
pub nan_open : frame_clean 0 (nan ∷ []) 0 [] ≡ false
unfolding frame_clean any_nan is_nan
nan_open = refl
