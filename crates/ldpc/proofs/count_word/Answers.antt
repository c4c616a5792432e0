-- `ldpc::count_word` meets its contract: part after part, the count is that of the rows so far. Assumes nothing.
use mathlib.Core.Path.{refl}
use Rattle.code174.specs.Tables.{nm}
use Rattle.tanner.specs.Masked.{count_masked}
use Rattle.ldpc.specs.Rows.{sevens}
use Rattle.ldpc.proofs.Sevens.{nm-whole}
use borrow.Author.Rules.{rules}
use Rattle.ldpc.proofs.count_word.Goals as goal

pub count_rows-n-requires : goal.count_rows-n-requires
unfolding nm count_masked sevens
count_rows-n-requires c = record { rows = nm-whole _ (search rules); first_le_end = search rules; before_value = refl }

pub count_rows-n-requires-2 : goal.count_rows-n-requires-2
unfolding nm
count_rows-n-requires-2 c = record { rows = nm-whole _ (search rules); first_le_end = search rules; before_value = c.count_rows-n.ensures }

pub count_rows-n-requires-3 : goal.count_rows-n-requires-3
unfolding nm
count_rows-n-requires-3 c = record { rows = nm-whole _ (search rules); first_le_end = search rules; before_value = c.count_rows-n-2.ensures }

pub count_rows-n-requires-4 : goal.count_rows-n-requires-4
unfolding nm
count_rows-n-requires-4 c = record { rows = nm-whole _ (search rules); first_le_end = search rules; before_value = c.count_rows-n-3.ensures }

pub count_rows-n-requires-5 : goal.count_rows-n-requires-5
unfolding nm
count_rows-n-requires-5 c = record { rows = nm-whole _ (search rules); first_le_end = search rules; before_value = c.count_rows-n-4.ensures }

pub count_rows-n-requires-6 : goal.count_rows-n-requires-6
unfolding nm
count_rows-n-requires-6 c = record { rows = nm-whole _ (search rules); first_le_end = search rules; before_value = c.count_rows-n-5.ensures }

pub count_rows-n-requires-7 : goal.count_rows-n-requires-7
unfolding nm
count_rows-n-requires-7 c = record { rows = nm-whole _ (search rules); first_le_end = search rules; before_value = c.count_rows-n-6.ensures }

pub count_rows-requires : goal.count_rows-requires
unfolding nm
count_rows-requires c = record { rows = nm-whole _ (search rules); first_le_end = search rules; before_value = c.count_rows-n-7.ensures }

pub returns : goal.returns
unfolding nm
returns c = c.count_rows.ensures
