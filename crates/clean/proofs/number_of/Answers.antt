-- `clean::number_of` meets its contract. The invariant: the number is that of the bits so far, which stays below a power of 2.
use Rattle.std.proofs.Common.{ℕ, ◌+◌, ◌*◌, ◌%◌, get_or, refl, ap, sym, ◌∙◌, arith}
use Rattle.bits.specs.Bits.{number, number_after}
use Rattle.tanner.proofs.Count.{low_at}
use Rattle.clean.proofs.Steps.{number_more, all_digits, below_pow}
use Rattle.clean.proofs.number_of.Goals as goal

pub loop-byte-init : goal.loop-byte-init
unfolding number_after
loop-byte-init c = (omega arith, refl)

pub loop-byte-preserved : goal.loop-byte-preserved
loop-byte-preserved c =
    let bytes = c.args.bytes.now in
    let i = c.loop-byte.byte-index in
    let was = c.loop-byte.invariant in
    let bit = get_or bytes i 0 % 2 in (
      below_pow c.loop-byte.n bit i was.0 (omega arith),
      ap (λ (n : ℕ). n * 2 + bit) was.1 ∙ number_more bytes i bit c.loop-byte-test.true (sym (low_at bytes i)),
    )

pub returns : goal.returns
returns c = c.loop-byte.invariant.1 ∙ ap number (all_digits c.args.bytes.now c.loop-byte.byte-index c.loop-byte-test.false)
