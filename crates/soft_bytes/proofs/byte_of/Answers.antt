-- `soft_bytes::byte_of` meets its contract: eight times a value that passes is a whole number in an i8's range, and so is its negative. Assumes nothing.

use Rattle.std.proofs.Common.{ℤ, pos, ◌-ℤ◌, sym, ap, ◌∙◌, subst, w8, SFits, to_z, of_z}
use mir.ValLaws.{to_z-of_z}
use Rattle.soft_bytes.specs.Values.{eight_times, byte_of}
use Rattle.soft_bytes.proofs.Value.{cast}
use Rattle.soft_bytes.proofs.Byte.{read_back_lem, negative-is, negative_fits}
use Rattle.soft_bytes.proofs.byte_of.Goals as goal

pub float_to_int-n : goal.float_to_int-n
float_to_int-n c = (cast c.args.v c.requires).0

pub overflow_sub-result : goal.overflow_sub-result
overflow_sub-result c =
    subst (λ (z : ℤ). SFits w8 (pos 0 -ℤ z)) (sym (read_back_lem c.args.v c.requires)) (negative_fits c.args.v c.requires)

pub returns-then-positive_is_one : goal.returns-then-positive_is_one
unfolding byte_of
returns-then-positive_is_one c =
    let v = c.args.v in
    rw c.if-positive_is_one.true
    (ap (λ (z : ℤ). to_z w8 (of_z w8 (pos 0 -ℤ z))) (read_back_lem v c.requires)
    ∙ to_z-of_z w8 (pos 0 -ℤ eight_times v) (negative_fits v c.requires)
    ∙ negative-is v c.requires)

pub returns-else-positive_is_one : goal.returns-else-positive_is_one
unfolding byte_of
returns-else-positive_is_one c = rw c.if-positive_is_one.false (read_back_lem c.args.v c.requires)
