-- A loop that puts in each element's place what a call makes of it: one turn, and what the calls leave where each is a function's. By induction.
-- Assumes nothing.
use Rattle.std.proofs.Common.{◌≡◌, ℕ, ◌+◌, ◌<◌, List, [], ◌∷◌, map, length, take, drop, set, get_or, refl, sym, ◌∙◌, add-one, arith, drop-cons}
use Rattle.std.proofs.Math.Seq.{take-suc, take-suc-set, drop-set-lt}
use Rattle.std.proofs.lemmas.Slice.Zip.{all_zipped_more}
use Rattle.std.specs.List.{AllZip}
use lib.Ieee.{Float, nan}

-- the first i elements of v were made from those of w, and the rest of v is w's
abbrev pub MadeTo : (Float → Float → Type 0) → ℕ → List Float → List Float → Type 0
MadeTo R i w v = AllZip R (take i w) (take i v) × (drop i v ≡ drop i w)

module _ (R : Float → Float → Type 0) (w : List Float) where
  pub made_more : (i : ℕ) (v : List Float) (y : Float) → i < length v → i < length w → R (get_or v i nan) y → MadeTo R i w v → MadeTo R (i + 1) w (set v i y)
  made_more i v y h k r m =
      let rest : get_or v i nan ∷ drop (i + 1) v ≡ get_or w i nan ∷ drop (i + 1) w =
      rw add-one (sym (drop-cons v i nan h) ∙ m.1 ∙ drop-cons w i nan k)
      in
      let here : get_or v i nan ≡ get_or w i nan = cc in
      let left : drop (i + 1) v ≡ drop (i + 1) w = cc in
      let next : i < i + 1 = omega arith in
      (rw (add-one, take-suc w i nan k, take-suc-set v i y h) (all_zipped_more R _ _ _ _ m.0 (rw here at r)), rw drop-set-lt left)

pub made_all : {R : Float → Float → Type 0} (f : Float → Float) → ((x y : Float) → R x y → y ≡ f x) → (w v : List Float) → AllZip R w v → v ≡ map f w
made_all f h [] [] a = refl
made_all f h [] (y ∷ v) a = absurd a
made_all f h (x ∷ w) [] a = absurd a
made_all f h (x ∷ w) (y ∷ v) a = rw (h x y a.0, made_all f h w v a.1)
