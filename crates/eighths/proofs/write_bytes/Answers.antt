-- `eighths::write_bytes` meets its contract. The invariant: what is written so far is the bytes of the values so far.
use Rattle.std.proofs.Common.{ℤ, get_or, to_z, of_z, ap, ◌∙◌, w8, arith}
use Rattle.std.proofs.lemmas.Int.{to_z-of_z}
use lib.Ieee.{nan}
use Rattle.soft_bytes.specs.Values.{byte_of}
use Rattle.eighths.specs.Calls.{bytes_of}
use Rattle.soft_bytes.proofs.Byte.{byte_fits}
use Rattle.lists.proofs.Loops.{map_more, map-done}
use Rattle.eighths.proofs.Lists.{pass_at}
use Rattle.eighths.proofs.write_bytes.Goals as goal

pub byte_of-requires : goal.byte_of-requires
byte_of-requires c = pass_at c.args.values.now c.loop-i.i c.requires.values_value (omega arith)

pub loop-i-preserved : goal.loop-i-preserved
unfolding bytes_of
loop-i-preserved c =
    let a = c.args in
    let now = c.loop-i in
    let passing = pass_at a.values.now now.i c.requires.values_value (omega arith) in
    map_more (byte_of a.positive_is_one) nan a.values.now now.bytes now.i _ (omega arith) (omega arith)
    (ap (λ (z : ℤ). to_z w8 (of_z w8 z)) c.byte_of.ensures ∙ to_z-of_z w8 _ (byte_fits (get_or a.values.now now.i nan) passing a.positive_is_one))
    now.invariant

pub returns : goal.returns
unfolding bytes_of
returns c =
    let a = c.args in
    map-done (byte_of a.positive_is_one) nan a.values.now c.loop-i.bytes c.loop-i.i (omega arith) (omega arith) c.loop-i.invariant
