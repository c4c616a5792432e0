-- What is decoded by a check step: a frame of a staircase code, and one of (174,91).
use Rattle.std.specs.Prelude.{List, Float}
use Rattle.softmath.specs.declared.DecodeRule.{DecodeRule}
use Rattle.softmath.specs.declared.SumKind.TheVariants.{Total, Others}
use Rattle.construction.specs.Codes.{Code}
use Rattle.staircase.specs.Codes as staircase
use Rattle.code174.specs.Code174 as code174
use Rattle.one_round.specs.Round.{Decode}

-- a staircase code's decode
abbrev pub staircase_decode : Code → DecodeRule → List Float → Decode
staircase_decode c rule llr = record { checks = staircase.checks c; rule = rule; kind = Total; llr = llr }

-- (174,91)'s, "over the same tables, with code 3's own sums" by either rule
abbrev pub ft8_decode : DecodeRule → List Float → Decode
ft8_decode rule llr = record { checks = code174.checks; rule = rule; kind = Others; llr = llr }
