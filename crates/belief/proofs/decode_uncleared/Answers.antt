-- `belief::decode_uncleared` meets its contract: the choice over the front of the work area, which clearing covers. Assumes nothing.
use mathlib.Core.Path.{sym, ◌∙◌}
use native.Mathlib.Omega.{arith}
use lib.Seq.{length-take-le}
use Rattle.work_area.proofs.Area.{lent-cleared}
use Rattle.numbered.specs.Numbers.{code_number}
use Rattle.one_round.proofs.RoundHeld.{few_positions}
use Rattle.belief.proofs.decode_uncleared.Goals as goal

pub slice_bounds-hard-end : goal.slice_bounds-hard-end
slice_bounds-hard-end c = omega (arith, c.requires.llr_len, few_positions (code_number c.args.code))

pub slice_bounds-choose-end-3 : goal.slice_bounds-choose-end-3
slice_bounds-choose-end-3 c = sym (length-take-le _ _ (omega (arith, c.requires.llr_len, few_positions (code_number c.args.code))))

pub choose-requires-clause-hard_len : goal.choose-requires-clause-hard_len
choose-requires-clause-hard_len c = length-take-le _ _ (omega (arith, c.requires.llr_len, few_positions (code_number c.args.code))) ∙ c.requires.llr_len

pub returns-clause-work_unchanged : goal.returns-clause-work_unchanged
returns-clause-work_unchanged c =
    lent-cleared c.args.work.now _ c.message_room-room.result c.choose.auto.messages c.message_room-room.ensures.upper_bound c.requires.in_bounds
