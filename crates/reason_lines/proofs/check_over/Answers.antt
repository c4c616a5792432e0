-- `reason_lines::check_over` meets its contract: the check's positions lie between its start and the next. Assumes nothing.
use mathlib.Core.List.{List}
use Prim.Native.Nat.{ℕ, ◌+◌, ◌-◌, ◌<◌, ◌≤◌}
use native.Mathlib.Omega.{arith}
use lib.ListN.{length, get_or, take, drop}
use Rattle.tanner.specs.Flat.{Within, rows_of}
use Rattle.lists.proofs.Below.{below-part}
use Rattle.text.specs.Text.{field}
use Rattle.text.proofs.Put.{then}
use Rattle.reason_lines.specs.Lines.{check_word, entries, check_line}
use Rattle.reason_lines.proofs.Lengths.{check-length}
use Rattle.reason_lines.proofs.Steps.{row_is}
use Rattle.reason_lines.proofs.check_over.Goals as goal

-- the positions of check c
module _ (starts flat : List ℕ) (c : ℕ) where
  abbrev a : ℕ
  a = get_or starts c 0

  abbrev b : ℕ
  b = get_or starts (c + 1) 0

  abbrev row : List ℕ
  row = take (b - a) (drop a flat)

  bounds : Within starts (length flat) → c + 1 < length starts → (a ≤ b) × (b ≤ length flat)
  unfolding Within
  bounds within inside = within c inside

  -- the room for the head, the positions and the line's end
  room0 : (word out : List ℕ) → c + 1 < length starts → length (check_line (rows_of starts flat) word c) ≤ length out
      → 0 + (length (field check_word c) + (length (entries row word) + 1)) ≤ length out
  room0 word out inside fits =
      let long = rw (row_is starts flat c inside) at (check-length (rows_of starts flat) word c) in
      omega (arith, fits)

pub put_field-at-requires : goal.put_field-at-requires
put_field-at-requires c =
    let z = c.args in
    omega (arith, room0 z.starts.now z.flat.now z.c z.word.now z.out.now c.requires.c_in_bounds c.requires.c_in_bounds_2)

pub offset_bounds-flat-a : goal.offset_bounds-flat-a
offset_bounds-flat-a c = omega (arith, bounds c.args.starts.now c.args.flat.now c.args.c c.requires.flat_checks.within c.requires.c_in_bounds)

pub slice_bounds-put_entries-start : goal.slice_bounds-put_entries-start
slice_bounds-put_entries-start c =
    omega (arith, bounds c.args.starts.now c.args.flat.now c.args.c c.requires.flat_checks.within c.requires.c_in_bounds)

pub slice_bounds-put_entries-end : goal.slice_bounds-put_entries-end
slice_bounds-put_entries-end c = omega (arith, bounds c.args.starts.now c.args.flat.now c.args.c c.requires.flat_checks.within c.requires.c_in_bounds)

pub slice_bounds-put_entries-count : goal.slice_bounds-put_entries-count
slice_bounds-put_entries-count c =
    omega (arith, bounds c.args.starts.now c.args.flat.now c.args.c c.requires.flat_checks.within c.requires.c_in_bounds)

pub put_entries-next-requires : goal.put_entries-next-requires
put_entries-next-requires c =
    let z = c.args in
    record {
      below = below-part _ z.flat.now (a z.starts.now z.flat.now z.c) (b z.starts.now z.flat.now z.c) c.requires.flat_checks.low;
      word_in_bounds =
          omega (arith, room0 z.starts.now z.flat.now z.c z.word.now z.out.now c.requires.c_in_bounds c.requires.c_in_bounds_2);
    }

pub put_byte-requires : goal.put_byte-requires
put_byte-requires c =
    let z = c.args in
    omega (arith, room0 z.starts.now z.flat.now z.c z.word.now z.out.now c.requires.c_in_bounds c.requires.c_in_bounds_2)

pub returns : goal.returns
unfolding check_line
returns c =
    let z = c.args in
    let room = room0 z.starts.now z.flat.now z.c z.word.now z.out.now c.requires.c_in_bounds c.requires.c_in_bounds_2 in
    let rest = then c.put_entries-next.ensures (omega (arith, room)) c.put_byte.ensures in
    rw (row_is z.starts.now z.flat.now z.c c.requires.c_in_bounds) (then c.put_field-at.ensures (omega (arith, room)) rest)
