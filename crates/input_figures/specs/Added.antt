-- The reception figures of a program's input (change request N5): the batch that it hands over, added to a total.
use Rattle.std.specs.Prelude.{List, ◌++◌, ℕ}
use Rattle.refusal.specs.Outcome.{Outcome, Condition, judged}
use Rattle.batch.specs.Calls.{written}
use Rattle.batch_input.specs.Handed.{batch_in, input_refusals}
use Rattle.figures.specs.Totals.{totals_of, sums, join_refusals}
use Rattle.figures.specs.declared.Totals.{Totals}
use Rattle.batch_figures.specs.Results.{Results, left, batch_frames}

-- what the batch of the input s leaves, and the totals of its frames
abbrev pub input_results : List ℕ → Results
input_results s = left (batch_in s) (written (batch_in s))

abbrev pub input_totals : List ℕ → Totals
input_totals s = totals_of (batch_frames (input_results s))

-- when it is refused: 13, then as its batch is, then "14 when a sum would pass its limit"
abbrev pub add_refusals : Totals → List ℕ → List Condition
add_refusals t s = input_refusals s ++ join_refusals t (input_totals s)

-- the total with the frames of its batch
unfoldable pub input_added : Totals → List ℕ → Outcome Totals
input_added t s = judged (add_refusals t s) (sums t (input_totals s))
