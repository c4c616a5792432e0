-- `batch_input::load_words` meets its contract. The invariant: what is written so far is the front of the list.
use Rattle.std.proofs.Common.{◌≡◌, take}
use Rattle.batch_input.specs.Input.{u32s_from, float_of}
use Rattle.batch_input.proofs.load_words.Given as goal

abbrev pub invariant-loop-i : goal.invariant-loop-i
invariant-loop-i l = take l.i l.words ≡ u32s_from (λ w. w) l.input l.at l.i
