-- What `ldpc_count_errors` counts: mask 255 counts whole bytes, and on words of bits that is the number of unsatisfied checks. By the laws of every check
-- list, at
-- this one. Assumes nothing.
use mathlib.Core.Path.{◌≡◌}
use mathlib.Core.List.{List}
use Prim.Native.Nat.{ℕ}
use Rattle.tanner.specs.Checks.{Word, count, count_bytes, syndrome_of_bytes}
use Rattle.tanner.specs.Masked.{syndrome_masked}
use Rattle.lists.specs.Below.{Below}
use Rattle.tanner.proofs.Count.{bits-count}
use Rattle.tanner.proofs.First.{byte_syndrome}
use Rattle.code174.specs.Code174.{checks}

pub bytes_counted : (bytes : List ℕ) → Below 256 bytes → syndrome_masked 255 checks bytes ≡ syndrome_of_bytes checks bytes
bytes_counted bytes low = byte_syndrome checks bytes low

pub bits_counted : (w : Word) → Below 2 w → count_bytes checks w ≡ count checks w
bits_counted w low = bits-count checks w low
