-- `ldpc::count_low` meets its contract: the rows count what the checks count. Assumes nothing.
use mathlib.Core.Path.{refl, ap, ◌∙◌}
use Rattle.tanner.specs.Masked.{count_masked}
use Rattle.ldpc.specs.Rows.{sevens}
use Rattle.code174.specs.Tables.{nm}
use Rattle.ldpc.proofs.Sevens.{behind-counted}
use Rattle.ldpc.proofs.count_low.Goals as goal

pub returns : goal.returns
returns c = c.count_word.ensures ∙ ap (count_masked 1 (sevens 83 nm)) c.padded_word-padded.ensures
    ∙ behind-counted 1 _ (rw c.requires refl) refl
