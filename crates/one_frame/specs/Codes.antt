-- What is decoded of a frame's values, by the number of its code and of its rule.
use Rattle.std.specs.Prelude.{List, ℕ, Float}
use Rattle.softmath.specs.declared.DecodeRule.{DecodeRule}
use Rattle.one_round.specs.Round.{Decode}
use Rattle.rules.specs.Rules.{rule_of}
use Rattle.decoders.specs.Decodes.{staircase_decode, ft8_decode}
-- N, a frame's values, and K, its message bits: defined in crate `numbered` (specs/Codes.antt)
pub use Rattle.numbered.specs.Codes.{by_code}
unfoldable pub use Rattle.numbered.specs.Codes.{size_n, size_k}

-- the decode of a frame's values by a check step
unfoldable pub decode_by : ℕ → DecodeRule → List Float → Decode
decode_by code r llr = by_code code (λ c. staircase_decode c r llr) (ft8_decode r llr)

-- and by the reading of a rule and a scale
abbrev pub decode_of : ℕ → ℕ → Float → List Float → Decode
decode_of code rule scale llr = decode_by code (rule_of code rule scale) llr
