-- `groups::clean_list` meets its contract. The invariant: what is passed of the list is right. Assumes nothing.
use mathlib.Core.Path.{◌≡◌}
use mathlib.Core.Bool.{Bool}
use mathlib.Core.List.{List}
use Prim.Native.Nat.{ℕ}
use lib.Ieee.{Float}
use lib.ListN.{length, take}
use Rattle.batch.specs.Pairs.{pairs_of, frames_of}
use Rattle.clean_frames.specs.CleanFrames.{clean_of}
use Rattle.groups.specs.Groups.{clean_from}
use Rattle.groups.proofs.clean_list.Given as goal

-- whether each frame is clean
abbrev pub frame_clean : (code : ℕ) → List Float → List ℕ → List ℕ → List ℕ → ℕ → Bool
frame_clean code values pairs counts bits = clean_of code (frames_of values (pairs_of pairs)) counts bits

abbrev pub invariant-loop-j : goal.invariant-loop-j
invariant-loop-j l =
    take l.j l.clean ≡ take l.j (clean_from (frame_clean l.code l.values l.pairs l.counts l.bits) 0 (length l.initial.clean))
