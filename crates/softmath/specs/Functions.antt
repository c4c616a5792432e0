-- The functions of one f32 that the check and variable nodes use.
use Rattle.std.specs.Prelude.{ℕ, false, cond, Float}
use Rattle.std.specs.Float.{nan, inf, fin, binary32}
use Rattle.std.specs.Float.Ieee.{neg, lt, le, of_bits}
use Rattle.softmath.specs.Single.{◌⊕◌, ◌⊗◌, ◌⊘◌, zero32, one32}

-- x (945 + x² (105 + x²)) / (945 + x² (420 + 15 x²)), where xx is x²
abbrev pub tanh_fraction : Float → Float → Float
tanh_fraction x xx =
    (x ⊗ (of_bits binary32 0x446c4000 ⊕ xx ⊗ (of_bits binary32 0x42d20000 ⊕ xx)))
    ⊘ (of_bits binary32 0x446c4000 ⊕ xx ⊗ (of_bits binary32 0x43d20000 ⊕ xx ⊗ of_bits binary32 0x41700000))

-- the Rust's `fast_tanh`: -1.0 below -4.97, 1.0 above 4.97, and the fraction between
unfoldable pub tanh : Float → Float
tanh x =
    cond (lt x (neg (of_bits binary32 0x409f0a3d))) (neg one32)
    (cond (lt (of_bits binary32 0x409f0a3d) x) one32 (tanh_fraction x (x ⊗ x)))

-- x (945 + x² (-735 + 64 x²)) / (945 + x² (-1050 + 225 x²)), where xx is x²
abbrev pub atanh_fraction : Float → Float → Float
atanh_fraction x xx =
    (x ⊗ (of_bits binary32 0x446c4000 ⊕ xx ⊗ (neg (of_bits binary32 0x4437c000) ⊕ xx ⊗ of_bits binary32 0x42800000)))
    ⊘ (of_bits binary32 0x446c4000 ⊕ xx ⊗ (neg (of_bits binary32 0x44834000) ⊕ xx ⊗ of_bits binary32 0x43610000))

-- the Rust's `fast_atanh`
unfoldable pub atanh : Float → Float
atanh x = atanh_fraction x (x ⊗ x)

-- "clamped to -1.0 to 1.0 (NaN remains)"
unfoldable pub clamp_unit : Float → Float
clamp_unit x = cond (lt x (neg one32)) (neg one32) (cond (lt one32 x) one32 x)

-- the value without its sign: "-0.0 has magnitude +0.0", and NaN is its own
unfoldable pub magnitude_of : Float → Float
magnitude_of nan = nan
magnitude_of (inf s) = inf false
magnitude_of (fin s m e) = fin false m e

-- "A value at or below zero decides bit 1; 0.0 and -0.0 do too, NaN decides 0."
unfoldable pub decide : Float → ℕ
decide x = cond (le x zero32) 1 0
