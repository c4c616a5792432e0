-- `soft_bytes::whole_eighths` meets its contract: where eight times the value is whole, the cut finds it, and what is found is compared. Assumes nothing.

use Rattle.std.proofs.Common.{T, sym, subst}
use lib.Ieee.{of_bits, neg}
use Rattle.soft_bytes.proofs.Value.{too-low, too-high, too_many, found}
use Rattle.soft_bytes.proofs.whole_eighths.Goals as goal

pub truncating_f32_to_u64-n-requires : goal.truncating_f32_to_u64-n-requires
unfolding of_bits neg
truncating_f32_to_u64-n-requires c =
    record { lower_bound = subst T (sym c.if-t.true) tt; upper_bound = subst T (sym c.if-t-2.true) tt }

pub returns-then-n-lt128 : goal.returns-then-n-lt128
returns-then-n-lt128 c =
    found c.args.v c.requires.zero32_value c.requires.v_value c.truncating_f32_to_u64-n.result c.truncating_f32_to_u64-n.ensures c.if-n-lt128.true

pub returns-else-n-lt128 : goal.returns-else-n-lt128
returns-else-n-lt128 c =
    too_many c.args.v c.requires.zero32_value c.requires.v_value c.truncating_f32_to_u64-n.result c.truncating_f32_to_u64-n.ensures c.if-n-lt128.false

pub returns-else-t-2 : goal.returns-else-t-2
returns-else-t-2 c = too-high c.args.v c.requires.zero32_value c.requires.v_value c.if-t-2.false

pub returns-else-t : goal.returns-else-t
returns-else-t c = too-low c.args.v c.requires.zero32_value c.requires.v_value c.if-t.false
