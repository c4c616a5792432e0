-- `listing::write_frames` meets its contract: the head line with the numbers of the header, and then the frames' lines. Assumes nothing.
use mathlib.Core.Path.{◌≡◌, ap, ap₂, ◌∙◌}
use mathlib.Core.List.{List}
use Prim.Native.Nat.{ℕ, ◌+◌, ◌*◌, ◌≤◌}
use native.Mathlib.Omega.{arith}
use lib.ListN.{length}
use Rattle.text.proofs.Put.{then, room-left}
use Rattle.batch.specs.Pairs.{pairs_of}
use Rattle.batch_input.specs.Input.{code_of, rule_of, limit_of}
use Rattle.one_line.specs.Line.{head_line}
use Rattle.one_line.proofs.Lengths.{head_short}
use Rattle.listing.specs.Listing.{frames_text}
use Rattle.listing.proofs.write_frames.Goals as goal

-- the head line as it is written, and as it is defined; there is room for it and for the lines
module _ (s : List ℕ) (limit frames many : ℕ) where
  head-is : limit ≡ limit_of s → frames ≡ many → head_line (code_of s) (rule_of s) limit frames ≡ head_line (code_of s) (rule_of s) (limit_of s) many
  head-is l f = ap₂ (head_line (code_of s) (rule_of s)) l f

  room : (out : List ℕ) → many ≤ 24 → 4096 ≤ length out → 0 + (length (head_line (code_of s) (rule_of s) limit frames) + 127 * many) ≤ length out
  room out few big = omega (arith, head_short (code_of s) (rule_of s) limit frames)

pub head_line-at-requires : goal.head_line-at-requires
head_line-at-requires c =
    let free = room c.args.input.now c.u16_at-limit.result c.u16_at-frames.result (length (pairs_of c.args.pairs.now)) c.args.out.now
    c.requires.pairs_len_bound c.requires.in_bounds_2 in
    omega (arith, free)

pub frame_lines-requires : goal.frame_lines-requires
frame_lines-requires c =
    let free = room c.args.input.now c.u16_at-limit.result c.u16_at-frames.result (length (pairs_of c.args.pairs.now)) c.args.out.now
    c.requires.pairs_len_bound c.requires.in_bounds_2 in
    record {
      all_within = c.requires.all_within;
      pairs_len_bound = c.requires.pairs_len_bound;
      counts_len = c.requires.counts_len;
      rounds_len = c.requires.rounds_len;
      pairs_in_bounds = room-left _ _ _ _ _ _ c.head_line-at.ensures free;
    }

pub returns : goal.returns
unfolding frames_text
returns c =
    let s = c.args.input.now in
    let many = length (pairs_of c.args.pairs.now) in
    let free = room s c.u16_at-limit.result c.u16_at-frames.result many c.args.out.now c.requires.pairs_len_bound c.requires.in_bounds_2 in
    let is = head-is s c.u16_at-limit.result c.u16_at-frames.result many c.u16_at-limit.ensures (c.u16_at-frames.ensures ∙ c.requires.in_bounds.1) in
    then (rw is at c.head_line-at.ensures) (omega (arith, free, ap length is)) c.frame_lines.ensures
