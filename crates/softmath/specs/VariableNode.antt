-- The variable node: from a bit's channel value and the answers that it hears, checks ascending, its decision and its new messages.
use Rattle.std.specs.Prelude.{ℕ, ◌<◌, ◌≢◌, List, [], ◌∷◌, map, length, get_or, set, Float}
use Rattle.std.specs.Float.{nan}
use Rattle.softmath.specs.Single.{◌⊕◌, ◌⊖◌, zero32, sum_from}
use Rattle.softmath.specs.CheckNode.{at_each}
use Rattle.softmath.specs.declared.SumKind.{SumKind}
use Rattle.softmath.specs.declared.SumKind.TheVariants.{Total, Others}

-- "Decision sum: the channel value, then each answer added, checks ascending."
abbrev pub decision_sum : Float → List Float → Float
decision_sum llr answers = sum_from llr answers

-- "Message total: the channel value plus the sum of the answers, that sum taken first, in the same order, and started from 0.0."
abbrev pub message_total : Float → List Float → Float
message_total llr answers = llr ⊕ sum_from zero32 answers

-- The new messages, one an answer. The staircase codes': "total minus the edge's own answer".
-- (174,91)'s: "channel value plus the other two, in that order".
unfoldable pub new_messages : SumKind → Float → List Float → List Float
new_messages Total llr answers = map (λ own. message_total llr answers ⊖ own) answers
new_messages Others llr answers = at_each (λ others. sum_from llr others) answers

-- ---- in a work area, where the bit's answers lie at its edges

-- the answers at the edges
unfoldable pub answers_at : List Float → List ℕ → List Float
answers_at w edges = map (λ e. get_or w e nan) edges

-- no edge stands twice
pub data Distinct : List ℕ → Type 0 where
  none : Distinct []
  more : {e : ℕ} {es : List ℕ} → ((k : ℕ) → k < length es → get_or es k 0 ≢ e) → Distinct es → Distinct (e ∷ es)

-- the values put at the edges
unfoldable pub put_at : List ℕ → List Float → List Float → List Float
put_at [] vs w = w
put_at (e ∷ es) [] w = w
put_at (e ∷ es) (v ∷ vs) w = put_at es vs (set w e v)
