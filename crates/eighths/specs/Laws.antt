-- The converter's laws (change request N10): either direction undoes the other, and nothing is rounded.
use Rattle.std.specs.Prelude.{◌≡◌, Bool, true, false, List, [], ◌∷◌, ℕ, T, ℤ, pos, negsuc, nat_abs, Float}
use Rattle.std.specs.Float.{binary32}
use Rattle.std.specs.Float.Ieee.{fits, mul}
use Rattle.std.specs.Float.Ieee.Exact.{HasValue}
use Rattle.std.specs.Int.{w8}
use Rattle.std.proofs.Common.{SFits}
use Rattle.refusal.specs.Outcome.{Outcome, accepted, Condition, judged}
use Rattle.soft_bytes.specs.Values.{eight32, times_eighth}
use Rattle.eighths.specs.Calls.{bytes_refusals, values_refusals, values_of, bytes_of}

-- every entry is such a one
pub data Each {A : Type 0} (Such : A → Type 0) : List A → Type 0 where
  none : Each Such []
  more : {x : A} {xs : List A} → Such x → Each Such xs → Each Such (x ∷ xs)

-- what a slice of i8 holds, and what a slice of f32 holds
abbrev pub I8s : List ℤ → Type 0
I8s bytes = Each (λ b. SFits w8 b) bytes

abbrev pub F32s : List Float → Type 0
F32s values = Each (λ v. T (fits binary32 v)) values

abbrev pub Accepted : List Condition → Type 0
Accepted conditions = ◌≡◌ {A = Outcome Unit} (judged conditions tt) (accepted tt)

-- "Either direction undoes the other on what it accepts": the other accepts what the one writes, and writes what there was
pub record BytesUndone (positive_is_one : Bool) (bytes : List ℤ) : Type 0 where
  pub taken_back : Accepted (values_refusals (values_of positive_is_one bytes) bytes)
  pub undone : bytes_of positive_is_one (values_of positive_is_one bytes) ≡ bytes

pub record ValuesUndone (positive_is_one : Bool) (values : List Float) : Type 0 where
  pub taken_back : Accepted (bytes_refusals (bytes_of positive_is_one values) values)
  pub undone : values_of positive_is_one (bytes_of positive_is_one values) ≡ values

-- "no rounding occurs". `HasValue x s a c`: x is finite, has the sign s, and is a / c in size

-- whether a byte is below zero
abbrev pub negative : ℤ → Bool
negative (pos n) = false
negative (negsuc n) = true

-- the rounded product of a byte and 0.125 is the byte over eight
abbrev pub ByteUnrounded : ℤ → Type 0
ByteUnrounded b = HasValue (times_eighth b) (negative b) (nat_abs b) 8

-- a value of n eighths: the rounded product of it and 8.0 is n
pub record ValueUnrounded (v : Float) : Type 0 where
  pub sign : Bool
  pub size : ℕ
  pub eighths : HasValue v sign size 8
  pub product : HasValue (mul binary32 v eight32) sign size 1
