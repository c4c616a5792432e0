-- `one_frame::decode_frame` meets its contract: the decode at the code's number, by the rule's reading. Assumes nothing.
use Rattle.numbered.specs.Numbers.{code_number}
use Rattle.one_frame.proofs.Place.{frame-chosen}
use Rattle.one_frame.proofs.decode_frame.Goals as goal

pub returns-clause-chose : goal.returns-clause-chose
returns-clause-chose c =
    let a = c.args in
    let step = rw c.from.ensures at c.rule_of-step.ensures in
    frame-chosen (code_number a.code) a.rule a.scale a.limit a.llr.now _ _ _ _ step c.decode_uncleared.ensures.chose
