-- The number of each refusal: document 01's, and those of the change requests, 14 and 15 of N5, 16 of N7, 17 and 18 of N10, 19 of N11, 20 of N13.
use Rattle.std.specs.Prelude.{◌≡◌, ℕ}
use Rattle.refusal.specs.declared.Refusal.{Refusal}
use Rattle.refusal.specs.declared.Refusal.TheVariants.{
  UnknownCode,
  UnknownRule,
  RuleNotOfCode,
  InputLength,
  WordTooShort,
  MessageSlack,
  TooManyPairs,
  OutputLength,
  WorkTooShort,
  PairLength,
  PairOrder,
  PairPastEnd,
  Malformed,
  SumPastLimit,
  NoFrames,
  ErasureByte,
  ByteOutOfRange,
  NotEighths,
  NoSuchPlace,
  GroupSizes,
}

abbrev pub number_of : Refusal → ℕ
number_of UnknownCode = 1
number_of UnknownRule = 2
number_of RuleNotOfCode = 3
number_of InputLength = 4
number_of WordTooShort = 5
number_of MessageSlack = 6
number_of TooManyPairs = 7
number_of OutputLength = 8
number_of WorkTooShort = 9
number_of PairLength = 10
number_of PairOrder = 11
number_of PairPastEnd = 12
number_of Malformed = 13
number_of SumPastLimit = 14
number_of NoFrames = 15
number_of ErasureByte = 16
number_of ByteOutOfRange = 17
number_of NotEighths = 18
number_of NoSuchPlace = 19
number_of GroupSizes = 20

-- what `u8::from` and `u16::from` give of a refusal
abbrev pub numbers : Refusal → ℕ → Type 0
numbers r n = n ≡ number_of r
