-- The frame that pair j names, and its bits among those of all frames. Assumes nothing.
use mathlib.Core.Path.{◌≡◌, sym, ap, ◌∙◌}
use mathlib.Core.List.{List, []}
use Prim.Native.Nat.{ℕ, ◌+◌, ◌-◌, ◌*◌, ◌<◌}
use native.Mathlib.Numerals.{add-one}
use native.Mathlib.Omega.{arith}
use lib.Ieee.{Float}
use lib.ListN.{length, take, drop, get_or, length-map}
use lib.Seq.{drop-cons}
use Rattle.batch.specs.Pairs.{pairs_of, frame_of, frames_of, AllWithin}
use Rattle.batch.proofs.Frames.{frames-next}

module _ (values : List Float) (pairs : List ℕ) where
  pub frames-many : length (frames_of values (pairs_of pairs)) ≡ length (pairs_of pairs)
  frames-many = length-map (pairs_of pairs) (frame_of values)

  pub frame_at : (n j : ℕ) → AllWithin n (length values) (pairs_of pairs) → j < length (pairs_of pairs)
      → let offset = get_or pairs (j * 2) 0 in get_or (frames_of values (pairs_of pairs)) j [] ≡ take (offset + n - offset) (drop offset values)
  frame_at n j w h =
      let fs = frames_of values (pairs_of pairs) in
      let e = sym (drop-cons fs j [] (omega (arith, frames-many))) ∙ rw add-one at (frames-next values pairs n j w h) in
      ap (λ (l : List (List Float)). get_or l 0 []) e

-- the k bits from place j times k on
pub bits_at : (bits : List ℕ) (j k n : ℕ) → k ≡ n → take (j * k + k - j * k) (drop (j * k) bits) ≡ take n (drop (j * n) bits)
bits_at bits j k n e = let s : j * n + n - j * n ≡ n = omega arith in rw (e, s)
