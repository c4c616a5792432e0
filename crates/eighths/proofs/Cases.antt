-- The known answers, by computing. Assumes nothing.
use mathlib.Core.Path.{◌≡◌, refl}
use mathlib.Core.Bool.{true, false}
use mathlib.Core.List.{map}
use lib.Ieee.{of_bits, neg, mul, of_int}
use Rattle.soft_bytes.specs.Values.{value_of, whole_eighths, minus_zero, passes, eight_times, byte_of}
use Rattle.eighths.specs.Calls.{values_of, bytes_of}
use Rattle.eighths.specs.Cases.{bytes, plain, negated, tested, passing}

pub plain_values : values_of false bytes ≡ plain
unfolding values_of value_of of_bits mul of_int
plain_values = refl

pub negated_values : values_of true bytes ≡ negated
unfolding values_of value_of of_bits mul of_int neg
negated_values = refl

pub plain-bytes : bytes_of false plain ≡ bytes
unfolding bytes_of byte_of eight_times of_bits
plain-bytes = refl

pub negated-bytes : bytes_of true negated ≡ bytes
unfolding bytes_of byte_of eight_times of_bits
negated-bytes = refl

pub passing_values : map passes tested ≡ passing
unfolding passes whole_eighths minus_zero of_bits
passing_values = refl
