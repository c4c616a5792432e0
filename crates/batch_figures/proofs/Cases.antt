-- Answers known beforehand, computed: three (174,91) frames, of which the second is open by its count and the third by a NaN.
use mathlib.Core.Path.{◌≡◌, refl}
use mathlib.Core.Bool.{Bool, true, false}
use mathlib.Core.List.{List, [], ◌∷◌, ◌++◌}
use Prim.Native.Nat.{ℕ}
use lib.Ieee.{Float, nan, binary32, of_bits, of_fields, is_nan}
use lib.ListN.{replicate}
use Rattle.bits.specs.Bits.{number_after}
use Rattle.checksum.specs.Qex.{bring_down, divide, qex}
use Rattle.tanner.specs.Checks.{low_bits}
use Rattle.refusal.specs.Outcome.{accepted, refused}
use Rattle.batch.specs.Codes.{size_n, size_k}
use Rattle.batch.specs.Pairs.{pair, frame_of}
use Rattle.batch.specs.Calls.{pair_refusals}
use Rattle.clean.specs.Clean.{any_nan, checksum_right, frame_clean}
use Rattle.figures.specs.Totals.{Frame, totals_of, nothing_yet}
use Rattle.figures.specs.declared.Totals.{Totals}
use Rattle.batch_figures.specs.Results.{Results, results, frames_from, batch_frames, result_refusals, added}

one : Float
one = of_bits binary32 0x3f800000

three : List ℕ → Results
three rounds =
    results 3 (replicate 521 one ++ (nan ∷ [])) (pair 0 174 ∷ pair 174 174 ∷ pair 348 174 ∷ []) (replicate 273 0) (0 ∷ 5 ∷ 0 ∷ []) rounds

frame : ℕ → ℕ → Bool → Frame
frame count rounds clean = record { count = count; rounds = rounds; clean = clean }

total : ℕ → ℕ → ℕ → ℕ → Totals
total frames clean counts rounds = record { frames = frames; clean = clean; counts = counts; rounds = rounds }

its_frames : batch_frames (three (0 ∷ 20 ∷ 3 ∷ [])) ≡ frame 0 0 true ∷ frame 5 20 false ∷ frame 0 3 false ∷ []
unfolding three one frame batch_frames frames_from frame_of frame_clean any_nan is_nan checksum_right low_bits qex divide bring_down number_after
    size_k of_bits of_fields
its_frames = refl

its_total : added nothing_yet (three (0 ∷ 20 ∷ 3 ∷ [])) ≡ accepted (total 3 1 5 23)
unfolding three one total batch_frames frames_from frame_of frame_clean any_nan is_nan checksum_right low_bits qex divide bring_down number_after
    size_n size_k of_bits
    of_fields totals_of result_refusals pair_refusals
its_total = refl

-- a total near its limit, and an output that is a place short
refusals : (added (total 0 0 0 18446744073709551593) (three (0 ∷ 20 ∷ 3 ∷ [])) ≡ refused 14) × (added nothing_yet (three (0 ∷ 20 ∷ [])) ≡ refused 8)
unfolding three one total batch_frames frames_from frame_of frame_clean any_nan is_nan checksum_right low_bits qex divide bring_down number_after
    size_n size_k of_bits
    of_fields totals_of result_refusals pair_refusals
refusals = (refl, refl)
