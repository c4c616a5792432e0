-- `parities::copy_message` meets its contract. The invariant: what is passed is the message's, and the rest is as it was. Assumes nothing.
use Rattle.std.proofs.Common.{◌≡◌, ◌≤◌, ◌++◌, length, take, drop}
use Rattle.parities.proofs.copy_message.Given as goal

abbrev pub invariant-loop-i : goal.invariant-loop-i
invariant-loop-i l = (l.i ≤ length l.message)
    × ((length l.codeword ≡ length l.initial.codeword) × (l.codeword ≡ take l.i l.message ++ drop l.i l.initial.codeword))
