-- `ldpc::counted` meets its contract: the rows count what the checks count, and no check is counted where the count is 0. Assumes nothing.
use mathlib.Core.Path.{sym, ap₂, ◌∙◌}
use Rattle.tanner.proofs.First.{both, zero-none, masked_adds}
use Rattle.ldpc.proofs.Sevens.{behind-counted, behind-first}
use Rattle.ldpc.proofs.counted.Goals as goal

pub returns-then-count-eq0 : goal.returns-then-count-eq0
returns-then-count-eq0 c = let e = c.count_word-count.ensures ∙ behind-counted c.args.mask c.args.padded.now c.requires.padded_len c.requires.padded_value in
    ap₂ both e (sym (zero-none _ _ (masked_adds _ _) 0 _ (sym e ∙ c.if-count-eq0.true)))

pub returns : goal.returns
returns c = ap₂ both
    (c.count_word-count.ensures ∙ behind-counted c.args.mask c.args.padded.now c.requires.padded_len c.requires.padded_value)
    (c.first_word-first.ensures ∙ behind-first c.args.mask c.args.padded.now c.requires.padded_len c.requires.padded_value)
