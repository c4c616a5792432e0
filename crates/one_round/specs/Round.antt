-- What a decode is of, and one round of it (document 01, "Rounds"), over any check list: the answers, the word decided, the new messages.
use Rattle.std.specs.Prelude.{List, [], ◌∷◌, ◌++◌, map, ℕ, suc, Float, length, get_or, take, drop}
use Rattle.std.specs.Float.{nan}
use Rattle.softmath.specs.CheckNode.{check_step}
use Rattle.softmath.specs.Functions.{decide}
use Rattle.softmath.specs.VariableNode.{decision_sum, new_messages, answers_at}
use Rattle.softmath.specs.declared.DecodeRule.{DecodeRule}
use Rattle.softmath.specs.declared.SumKind.{SumKind}
use Rattle.tanner.specs.Checks.{Word, Checks}
use Rattle.tanner.specs.Flat.{joined, places}

-- what a decode is of: a code's checks, the rule of its check step, its kind of new messages, and the frame's channel values
pub record Decode : Type 0 where
  pub checks : Checks
  pub rule : DecodeRule
  pub kind : SumKind
  pub llr : List Float

-- Messages and answers: one float an edge, check by check, in row order.

abbrev pub channel : Decode → ℕ → Float
channel d p = get_or d.llr p nan

-- "Each edge's message starts as its bit's channel value."
unfoldable pub first_messages : Decode → List Float
first_messages d = map (channel d) (joined d.checks)

-- the messages of each check
unfoldable pub by_check : Checks → List Float → List (List Float)
by_check [] ms = []
by_check (c ∷ cs) ms = take (length c) ms ∷ by_check cs (drop (length c) ms)

-- the check step: each check answers its own messages
unfoldable pub answers : Decode → List Float → List Float
answers d ms = joined (map (check_step d.rule) (by_check d.checks ms))

-- what position p hears: the answers at its edges, checks ascending
unfoldable pub heard : Decode → List Float → ℕ → List Float
heard d ans p = answers_at ans (places p 0 (joined d.checks))

-- the decision: "a round's word is what its decision gives", from position p on
unfoldable pub decided_from : Decode → List Float → ℕ → List Float → Word
decided_from d ans p [] = []
decided_from d ans p (l ∷ ls) = decide (decision_sum l (heard d ans p)) ∷ decided_from d ans (suc p) ls

abbrev pub decided : Decode → List Float → Word
decided d ans = decided_from d ans 0 d.llr

-- The new messages: of a position's own, the first goes to its first edge, the second to its second, and so on.
-- `passed` has the positions of the edges before.
unfoldable pub sent_from : Decode → List Float → List ℕ → List ℕ → List Float
sent_from d ans passed [] = []
sent_from d ans passed (p ∷ ps) =
    get_or (new_messages d.kind (channel d p) (heard d ans p)) (length (places p 0 passed)) nan
    ∷ sent_from d ans (passed ++ (p ∷ [])) ps

abbrev pub sent : Decode → List Float → List Float
sent d ans = sent_from d ans [] (joined d.checks)

-- "The initial hard word is what the channel values decide"
unfoldable pub initial_word : Decode → Word
initial_word d = map decide d.llr
