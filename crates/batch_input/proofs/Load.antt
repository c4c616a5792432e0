-- Numbers of the input loaded one after the other: what is written so far is the list's front. Bits of a NaN are read as NaN. Assumes nothing.
use mathlib.Core.Path.{◌≡◌, refl, sym, ap, ◌∙◌}
use mathlib.Core.Bool.{true}
use mathlib.Core.List.{List, [], ◌∷◌, ◌++◌}
use Prim.Native.Nat.{ℕ, zero, suc, ◌+◌, ◌*◌, ◌<◌}
use native.Mathlib.Nat.{add-zero}
use native.Mathlib.Numerals.{add-one}
use native.Mathlib.Omega.{arith}
use lib.Ieee.{Float, nan, inf, fin, binary32, is_nan, nan_bits, of_bits}
use lib.Ieee.Bits.{nan_bits_is}
use lib.ListN.{length, take, set}
use lib.Seq.{take-suc-set, take_all}
use Rattle.batch_input.specs.Input.{u32_at, u32s_from}

module _ {A : Type 0} (f : ℕ → A) (s : List ℕ) where
  pub words-length : (at n : ℕ) → length (u32s_from f s at n) ≡ n
  unfolding u32s_from
  words-length at zero = refl
  words-length at (suc n) = ap suc (words-length (at + 4) n)

  -- one more, at the end
  words_more : (at n : ℕ) → u32s_from f s at (suc n) ≡ u32s_from f s at n ++ (f (u32_at s (at + 4 * n)) ∷ [])
  unfolding u32s_from
  words_more at zero = ap (λ (i : ℕ). f (u32_at s i) ∷ []) (sym (add-zero at))
  words_more at (suc n) =
      let e : at + 4 + 4 * n ≡ at + 4 * suc n = omega arith in
      ap (λ (l : List A). f (u32_at s at) ∷ l) (rw e at (words_more (at + 4) n))

  pub load-more : (at : ℕ) (out : List A) (i : ℕ) (v : A) → i < length out → v ≡ f (u32_at s (at + 4 * i)) → take i out ≡ u32s_from f s at i
      → take (i + 1) (set out i v) ≡ u32s_from f s at (i + 1)
  load-more at out i v h e t = rw (add-one i, take-suc-set out i v h, words_more at i, t, e)

  pub load-none : (at : ℕ) (out : List A) → take 0 out ≡ u32s_from f s at 0
  unfolding u32s_from
  load-none at [] = refl
  load-none at (x ∷ l) = refl

  pub load-done : (at : ℕ) (out : List A) (i n : ℕ) → length out ≡ n → i ≡ n → take i out ≡ u32s_from f s at i → out ≡ u32s_from f s at n
  load-done at out i n l e t = sym (take_all i out (omega arith)) ∙ t ∙ ap (λ (k : ℕ). u32s_from f s at k) e

is-nan : (x : Float) → is_nan x ≡ true → x ≡ nan
unfolding is_nan
is-nan nan h = refl
is-nan (inf s) h = cc
is-nan (fin s m e) h = cc

pub nan-bits : (b : ℕ) → nan_bits binary32 b ≡ true → of_bits binary32 b ≡ nan
nan-bits b h = is-nan (of_bits binary32 b) (sym (nan_bits_is binary32 b) ∙ h)
