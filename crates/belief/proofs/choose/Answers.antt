-- `belief::choose` meets its contract: the initial word, its count and its front, and then the rounds. Assumes nothing.
use mathlib.Core.Path.{sym}
use Rattle.numbered.specs.Numbers.{code_number}
use Rattle.belief.proofs.Whole.{initial_is, initial-kept}
use Rattle.belief.proofs.choose.Goals as goal

pub improve-requires-clause-hard_value : goal.improve-requires-clause-hard_value
improve-requires-clause-hard_value c = initial_is (code_number c.args.code) c.args.rule c.args.llr.now _ c.initial_word.ensures

pub improve-requires-clause-kept : goal.improve-requires-clause-kept
improve-requires-clause-kept c =
    let a = c.args in
    initial-kept (code_number a.code) a.rule a.llr.now _ _ _ _ _ c.initial_word.ensures c.counted-first.ensures c.keep_word.ensures (sym c.keep_word.auto.bits)
