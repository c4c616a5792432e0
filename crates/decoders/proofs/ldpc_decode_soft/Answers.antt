-- `decoders::ldpc_decode_soft` meets its contract: the decode, of a frame that no test refused. Assumes nothing.
use mathlib.Core.Path.{◌≡◌}
use native.Mathlib.Omega.{arith}
use lib.ListN.{length}
use Rattle.passes.specs.Codes.{size_n}
use Rattle.decoders.specs.Calls.{ft8_soft}
use Rattle.decoders.proofs.Answers.{ft8-at, decoded, lengths-right}
use Rattle.decoders.proofs.ldpc_decode_soft.Goals as goal

pub decode-requires-clause-llr_len : goal.decode-requires-clause-llr_len
unfolding size_n
decode-requires-clause-llr_len c = omega arith

pub decode-requires-clause-bits_len_bound : goal.decode-requires-clause-bits_len_bound
unfolding size_n
decode-requires-clause-bits_len_bound c = omega arith

pub returns : goal.returns
returns c =
    let a = c.args in
    let n : length a.llr.now ≡ 174 = omega arith in
    let k : length a.plain.now ≡ 174 = omega arith in
    let right = lengths-right 174 174 a.llr.now a.plain.now a.work.now n k (omega arith) in
    decoded (ft8_soft a.llr.now a.limit a.plain.now a.work.now) right _ _ _ (rw (ft8-at _ _, k) at c.decode.ensures.chose) c.decode.ensures.work_after
