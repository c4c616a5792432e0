-- `one_round::round` meets its contract: what its passes leave is a round of the definition, whatever messages the work area held. Assumes nothing.
use Rattle.numbered.specs.Numbers.{code_number}
use Rattle.one_round.proofs.RoundHeld.{round-held}
use Rattle.one_round.proofs.round.Goals as goal

pub returns : goal.returns
returns c =
    let a = c.args in
    record {
      round_by = round-held (code_number a.code) a.rule a.llr.now c.requires.llr_len _ _ _ _ _ _ c.requires.hard_len
          c.check_pass.ensures c.bit_pass.ensures c.count.ensures;
      value = c.count.ensures;
    }
