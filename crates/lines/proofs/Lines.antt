-- The frames' lines, a turn at a time; a frame's line is short, and so are all together. Assumes nothing.
use mathlib.Core.Path.{◌≡◌}
use mathlib.Core.List.{List, [], ◌++◌}
use Prim.Native.Nat.{ℕ, zero, suc, ◌+◌, ◌-◌, ◌*◌, ◌≤◌, ◌<◌}
use native.Mathlib.Numerals.{add-one}
use native.Mathlib.Omega.{arith}
use lib.Ieee.{Float}
use lib.Dec.{lit≤}
use lib.ListN.{length, drop, length-take, length-append}
use Rattle.batch.specs.Codes.{size_k}
use Rattle.batch.specs.Calls.{Lent}
use Rattle.batch.proofs.Sizes.{size_small}
use Rattle.clean_frames.specs.CleanFrames.{bits_of}
use Rattle.one_line.proofs.Lengths.{frame_short}
use Rattle.lines.specs.Lines.{line_at, lines_from}

pub lines_more : (line : ℕ → List ℕ) (j n : ℕ) → j < n → lines_from line j (n - j) ≡ line j ++ lines_from line (j + 1) (n - (j + 1))
unfolding lines_from
lines_more line j n h =
    let e : n - j ≡ suc (n - (j + 1)) = omega arith in
    rw (e, add-one j)

pub lines_none : (line : ℕ → List ℕ) (j n : ℕ) → n ≤ j → lines_from line j (n - j) ≡ []
unfolding lines_from
lines_none line j n h =
    let e : n - j ≡ 0 = omega arith in
    rw e

-- a frame's bits are few
bits_few : (code : ℕ) (bits : List ℕ) (j : ℕ) → length (bits_of code bits j) ≤ 384
bits_few code bits j = omega (arith, length-take (size_k code) (drop (j * size_k code) bits), (size_small code).bits)

-- a frame's line is short
pub line_short : (code : ℕ) (fs : List (List Float)) (l : Lent) (j : ℕ) → length (line_at code fs l j) ≤ 127
line_short code fs l j = frame_short _ _ _ _ _ _ (bits_few code l.bits j)

-- and so are the lines together
pub lines_short : (line : ℕ → List ℕ) → ((j : ℕ) → length (line j) ≤ 127) → (j n : ℕ) → length (lines_from line j n) ≤ 127 * n
unfolding lines_from
lines_short line h j zero = lit≤ tt
lines_short line h j (suc n) = rw (length-append (line j) (lines_from line (suc j) n)) (omega (arith, h j, lines_short line h (suc j) n))
