-- The passes over the bits of a code whose messages lie by slots: bit by bit, the decision into the word and the new messages in place of the answers.
use Rattle.std.specs.Prelude.{List, ℕ, zero, suc, ◌*◌, ◌≤◌, Float, length, get_or, set}
use Rattle.std.specs.Float.{nan}
use Rattle.softmath.specs.Single.{◌⊕◌, ◌⊖◌}
use Rattle.softmath.specs.Functions.{decide}
use Rattle.softmath.specs.VariableNode.{decision_sum, new_messages, answers_at, put_at}
use Rattle.softmath.specs.declared.SumKind.{SumKind}
use Rattle.softmath.specs.declared.SumKind.TheVariants.{Total, Others}
use Rattle.lists.specs.Below.{Below}
use Rattle.slots.specs.Layout.{three_at, scattered}

-- the turns 0 to n - 1, one after the other
unfoldable pub turns : {A : Type 0} → (ℕ → A → A) → ℕ → A → A
turns step zero a = a
turns step (suc n) a = step n (turns step n a)

-- the word and the work area
pub record Pass : Type 0 where
  pub word : List ℕ
  pub work : List Float

abbrev pub pass_of : List ℕ → List Float → Pass
pass_of word work = record { word = word; work = work }

-- one bit, with its channel value and the places of its edges: its decision goes into the word, its new messages take the place of its answers
unfoldable pub bit_done : SumKind → Float → List ℕ → ℕ → Pass → Pass
bit_done kind l edges b s = record {
  word = set s.word b (decide (decision_sum l (answers_at s.work edges)));
  work = put_at edges (new_messages kind l (answers_at s.work edges)) s.work;
}

-- ---- bits with three edges, listed in a table

-- the message to the edge whose answer is `own`: the total less it, or the channel value and the two others
unfoldable pub message_to : SumKind → Float → Float → Float → Float → Float → Float
message_to Total llr total own one other = total ⊖ own
message_to Others llr total own one other = (llr ⊕ one) ⊕ other

-- turn b: bit b
unfoldable pub three_turn : SumKind → List Float → List ℕ → ℕ → Pass → Pass
three_turn kind llr table b s = bit_done kind (get_or llr b nan) (three_at table b) b s

-- its channel value at its edges
unfoldable pub three_first : List Float → List ℕ → ℕ → List Float → List Float
three_first llr table b w = scattered (get_or llr b nan) (three_at table b) w

-- the table lists n bits, whose edges are places of a work area of `room` messages
pub record Listed (n : ℕ) (table : List ℕ) (room : ℕ) : Type 0 where
  pub size : n * 3 ≤ length table
  pub low : Below room table
