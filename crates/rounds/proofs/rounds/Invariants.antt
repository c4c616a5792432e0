-- `rounds::rounds` meets its contract. The invariant: whatever messages the work area held at first, what is kept is of the chosen word so far, the choice
-- from here is the choice among all, and the rounds run with those ahead are all. Assumes nothing.
use mathlib.Core.Path.{◌≡◌}
use mathlib.Core.List.{List}
use Prim.Native.Nat.{◌-◌}
use lib.Ieee.{Float}
use lib.ListN.{length}
use Rattle.numbered.specs.Numbers.{code_number}
use Rattle.passes.specs.Codes.{size_n, size_m, degree, room}
use Rattle.rounds.specs.Rounds.{words_from, chosen_from}
use Rattle.one_round.specs.Held.{HeldBy, decode_at}
use Rattle.rounds.proofs.Loop.{Running}
use Rattle.rounds.proofs.rounds.Given as goal

abbrev pub invariant-loop-turn : goal.invariant-loop-turn
invariant-loop-turn l =
    let d = decode_at (code_number l.code) l.rule l.llr in
    (l.done ≡ l.turn) × (length l.messages ≡ room (code_number l.code)) × (length l.hard ≡ size_n (code_number l.code))
    × (length l.bits ≡ length l.initial.bits)
    × ((ms : List Float) → HeldBy (code_number l.code) l.initial.messages ms
    → Running d (size_m (code_number l.code)) (degree (code_number l.code)) (length l.initial.bits) (l.limit - l.turn) l.messages l.bits l.kept l.turn
    (chosen_from d.checks l.initial.hard (words_from d l.limit ms)) (length (words_from d l.limit ms)))
