-- `decoders::decode_soft_with` meets its contract: the decode, of a frame that no test refused. Assumes nothing.
use mathlib.Core.Path.{◌≡◌, ◌∙◌}
use native.Mathlib.Omega.{arith}
use Prim.Native.Nat.{◌<◌}
use lib.ListN.{length}
use Rattle.construction.specs.Codes.{block_length}
use Rattle.staircase.specs.Codes.{code_of}
use Rattle.decoders.specs.Calls.{soft_with}
use Rattle.decoders.proofs.Answers.{staircase-at, size_of, decoded, soft-right}
use Rattle.decoders.proofs.decode_soft_with.Goals as goal

pub decode-requires-clause-llr_len : goal.decode-requires-clause-llr_len
decode-requires-clause-llr_len c = rw c.of_number.ensures (c.if-llr-values_of.false ∙ c.values_of.ensures ∙ size_of _ c.if-code-ge3.false)

pub decode-requires-clause-bits_len_bound : goal.decode-requires-clause-bits_len_bound
decode-requires-clause-bits_len_bound c =
    rw c.of_number.ensures (omega (arith, c.if-bits-bits_of.false ∙ c.bits_of.ensures, size_of _ c.if-code-ge3.false))

pub returns : goal.returns
returns c =
    let a = c.args in
    let rule : a.rule < 4 = omega arith in
    let values : length a.llr.now ≡ block_length (code_of a.code) = c.if-llr-values_of.false ∙ c.values_of.ensures in
    let places : length a.bits.now ≡ (code_of a.code).k = c.if-bits-bits_of.false ∙ c.bits_of.ensures in
    let right = soft-right a.code a.rule a.llr.now a.bits.now a.work.now c.if-code-ge3.false rule values places (omega arith) in
    let chose = rw (c.of_number.ensures, staircase-at _ c.if-code-ge3.false _ _, c.staircase_rule.ensures, places) at c.decode.ensures.chose in
    decoded (soft_with a.code a.rule a.scale a.limit a.llr.now a.bits.now a.work.now) right _ _ _ chose c.decode.ensures.work_after
