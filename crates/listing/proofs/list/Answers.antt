-- `listing::list` meets its contract. An input that is malformed is refused before all else. Assumes nothing.
use mathlib.Core.Path.{◌≡◌, sym, ◌∙◌}
use Prim.Native.Nat.{ℕ, ◌+◌, ◌≤◌}
use native.Mathlib.Omega.{arith}
use lib.ListN.{length}
use Rattle.text.specs.Text.{refusal_line}
use Rattle.text.proofs.Lengths.{refusal_short}
use Rattle.listing.specs.Listing.{listing_of}
use borrow.Author.Rules.{rules}
use Rattle.listing.proofs.list.Goals as goal

-- a refusal's line, whichever it is, fits into the buffer
fits : (number room : ℕ) → 4096 ≤ room → 0 + length (refusal_line number) ≤ room
fits number room h = omega (arith, refusal_short number)

short : (number end : ℕ) → end ≡ 0 + length (refusal_line number) → end ≤ 4096
short number end e = omega (arith, refusal_short number)

pub refusal_line-requires : goal.refusal_line-requires
refusal_line-requires c = fits _ _ (search rules)

pub returns-then-is_malformed : goal.returns-then-is_malformed
unfolding listing_of
returns-then-is_malformed c = let done = c in
    let test = done in
    let wrote = done.refusal_line.ensures in
    record { written = rw (sym test.is_malformed.ensures ∙ test.if-is_malformed.true) wrote; upper_bound = short _ _ wrote.end }

pub list_input-requires : goal.list_input-requires
list_input-requires c = record { input_value = sym c.is_malformed.ensures ∙ c.if-is_malformed.false; in_bounds = search rules }
