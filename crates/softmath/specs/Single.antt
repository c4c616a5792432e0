-- f32 numbers: one rounded operation for each operation of the code, and the constants that document 01 names.
-- (Document 01, "Rounds": "each float operation rounds once, in the order given here".)
use Rattle.std.specs.Prelude.{List, fold, Float}
use Rattle.std.specs.Float.{binary32}
use Rattle.std.specs.Float.Ieee.{add, sub, mul, div, of_bits}

infixl 40 ◌⊕◌
abbrev pub ◌⊕◌ : Float → Float → Float
a ⊕ b = add binary32 a b

infixl 40 ◌⊖◌
abbrev pub ◌⊖◌ : Float → Float → Float
a ⊖ b = sub binary32 a b

infixl 50 ◌⊗◌
abbrev pub ◌⊗◌ : Float → Float → Float
a ⊗ b = mul binary32 a b

infixl 50 ◌⊘◌
abbrev pub ◌⊘◌ : Float → Float → Float
a ⊘ b = div binary32 a b

-- +0.0
abbrev pub zero32 : Float
zero32 = of_bits binary32 0

-- 1.0
abbrev pub one32 : Float
one32 = of_bits binary32 0x3f800000

-- 2.0
abbrev pub two32 : Float
two32 = of_bits binary32 0x40000000

-- an operation over a list, from the start on, left to right
unfoldable pub fold_from : (Float → Float → Float) → Float → List Float → Float
fold_from op start xs = fold op start xs

-- "multiply from 1.0, in .. order"
abbrev pub product : List Float → Float
product xs = fold_from ◌⊗◌ one32 xs

-- a sum from the start on, left to right
abbrev pub sum_from : Float → List Float → Float
sum_from start xs = fold_from ◌⊕◌ start xs
