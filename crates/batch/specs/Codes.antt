-- The four code numbers of a batch: sizes, what is decoded, and the encoding.
use Rattle.std.specs.Prelude.{List, ℕ}
use Rattle.staircase.specs.Codes.{columns}
use Rattle.staircase.specs.Staircase.{encoded}
use Rattle.ldpc_encoding.specs.Encoding.{encode_bits}
use Rattle.tanner.specs.Checks.{Word}
-- N, a frame's values, and K, its message bits: defined in crate `numbered` (specs/Codes.antt)
pub use Rattle.numbered.specs.Codes.{by_code}
unfoldable pub use Rattle.numbered.specs.Codes.{size_n, size_k}
-- what is decoded of a frame's values: defined in crate `one_frame` (specs/Codes.antt)
pub use Rattle.one_frame.specs.Codes.{decode_of}
unfoldable pub use Rattle.one_frame.specs.Codes.{decode_by}

-- the word that encodes K message bits
unfoldable pub encoding_by : ℕ → List ℕ → Word
encoding_by code message = by_code code (λ c. encoded c.m (columns c) message) (encode_bits message)
