-- Known answers: bytes and their values in both kinds of model, and which floats pass.
use Rattle.std.specs.Prelude.{Bool, true, false, List, [], ◌∷◌, map, ℕ, ℤ, pos, negsuc, Float}
use Rattle.std.specs.Float.{binary32}
use Rattle.std.specs.Float.Ieee.{of_bits}

abbrev floats : List ℕ → List Float
floats bits = map (of_bits binary32) bits

-- -127, -1, 0, 1, 127
abbrev pub bytes : List ℤ
bytes = negsuc 126 ∷ negsuc 0 ∷ pos 0 ∷ pos 1 ∷ pos 127 ∷ []

-- -15.875, -0.125, 0.0, 0.125, 15.875
abbrev pub plain : List Float
plain = floats (0xc17e0000 ∷ 0xbe000000 ∷ 0 ∷ 0x3e000000 ∷ 0x417e0000 ∷ [])

-- 15.875, 0.125, 0.0, -0.125, -15.875
abbrev pub negated : List Float
negated = floats (0x417e0000 ∷ 0x3e000000 ∷ 0 ∷ 0xbe000000 ∷ 0xc17e0000 ∷ [])

-- 15.875, 0.125, -0.0, 0.0625, 16.0, NaN, infinity, the least subnormal
abbrev pub tested : List Float
tested = floats (0x417e0000 ∷ 0x3e000000 ∷ 0x80000000 ∷ 0x3d800000 ∷ 0x41800000 ∷ 0x7fc00000 ∷ 0x7f800000 ∷ 1 ∷ [])

abbrev pub passing : List Bool
passing = true ∷ true ∷ false ∷ false ∷ false ∷ false ∷ false ∷ false ∷ []
