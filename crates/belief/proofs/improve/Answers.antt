-- `belief::improve` meets its contract: no round where the initial word satisfies every check, else the rounds from the first messages. Assumes nothing.
use mathlib.Core.Path.{ap, ◌∙◌}
use lib.ListN.{length}
use Rattle.numbered.specs.Numbers.{code_number}
use Rattle.one_round.proofs.BitWords.{initial_length}
use Rattle.one_round.proofs.RoundHeld.{first-held}
use Rattle.belief.proofs.Whole.{run_none, run-some}
use Rattle.belief.proofs.improve.Goals as goal

pub returns-then-first-eq0 : goal.returns-then-first-eq0
returns-then-first-eq0 c =
    let a = c.args in
    run_none (code_number a.code) a.rule a.llr.now _ _ _ c.requires.hard_value _ _ c.if-first-eq0.true c.requires.kept

pub rounds-requires-clause-hard_len : goal.rounds-requires-clause-hard_len
rounds-requires-clause-hard_len c = ap length c.requires.hard_value ∙ initial_length _ ∙ c.requires.llr_len

pub returns : goal.returns
returns c =
    let a = c.args in
    let p = c.requires in
    let held = first-held (code_number a.code) a.rule a.llr.now p.llr_len _ _ p.messages_len c.first_messages.ensures in
    run-some (code_number a.code) a.rule a.llr.now _ _ _ p.hard_value _ _ _ _ _ c.if-first-eq0.false p.kept held c.rounds.ensures
