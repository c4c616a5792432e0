-- `clean_frames::clean_at` meets its contract: what pair j names lies within the values and is the frame at place j, and its bits lie within all. Assumes
-- nothing.
use mathlib.Core.Path.{◌≡◌, sym, ap, ap₂, ◌∙◌}
use mathlib.Core.List.{List}
use Prim.Native.Nat.{ℕ, ◌+◌, ◌*◌, ◌≤◌}
use native.Mathlib.Omega.{arith}
use lib.Ieee.{Float}
use lib.ListN.{length, get_or}
use Rattle.batch.specs.Codes.{size_n, size_k}
use Rattle.batch.specs.Pairs.{pairs_of}
use Rattle.batch.proofs.Sizes.{bits_ft8}
use Rattle.lists.proofs.Parts.{part_size}
use Rattle.batch.proofs.Frames.{place-fits, pair_inside, frame-inside}
use Rattle.clean.specs.Clean.{frame_clean}
use Rattle.clean_frames.proofs.FrameAt.{frame_at, bits_at}
use Rattle.clean_frames.proofs.clean_at.Goals as goal

pub bounds-pairs-j : goal.bounds-pairs-j
bounds-pairs-j c = omega (arith, pair_inside c.args.values.now c.args.pairs.now _ c.args.j c.requires.all_within c.requires.j_in_bounds)

pub slice_bounds-is_clean-end : goal.slice_bounds-is_clean-end
slice_bounds-is_clean-end c =
    omega (arith, frame-inside c.args.values.now c.args.pairs.now _ c.args.j c.requires.all_within c.requires.j_in_bounds, c.frame_values.ensures)

pub is_clean-requires : goal.is_clean-requires
is_clean-requires c =
    let a = c.args in
    let k = c.message_bits-k.ensures in
    let front : a.j * c.message_bits-k.result ≡ a.j * size_k a.code = ap (λ (k : ℕ). a.j * k) k in
    let fits = place-fits a.j (length (pairs_of a.pairs.now)) (size_k a.code) c.requires.j_in_bounds in
    let within : a.j * size_k a.code + size_k a.code ≤ length a.bits.now = omega (arith, c.requires.counts_len.1, fits) in
    λ e. part_size a.bits.now _ _ (omega (arith, front, within, k)) ∙ k ∙ sym (bits_ft8 a.code (omega (arith, e)))

pub returns : goal.returns
returns c =
    let a = c.args in
    let here = frame_at a.values.now a.pairs.now (size_n a.code) a.j c.requires.all_within c.requires.j_in_bounds in
    let values = sym (rw (← c.frame_values.ensures) at here) in
    let bits = bits_at a.bits.now a.j _ _ c.message_bits-k.ensures in
    c.is_clean.ensures ∙ ap₂ (λ (v : List Float) (b : List ℕ). frame_clean a.code v (get_or a.counts.now a.j 0) b) values bits
