-- `parities::encode` meets its contract: the parity bits are filled in after the message. Assumes nothing.
use mathlib.Core.Path.{ap, ◌∙◌}
use Rattle.staircase.specs.Codes.{code_of, checks}
use Rattle.stair_parity.specs.Filling.{filled}
use Rattle.parities.proofs.Filled.{filled-after}
use Rattle.parities.proofs.encode.Goals as goal

pub returns : goal.returns
returns c = let done = c in
    let copied = done in
    let start = copied in
    let a = start.args in
    done.fill.ensures ∙ ap (filled (checks (code_of a.code)) (code_of a.code).k) copied.copy_message.ensures
    ∙ filled-after (code_of a.code) a.message.now a.codeword.now start.requires.message_len start.requires.codeword_len
