-- `ldpc::first_low` meets its contract: the first row is the first check. Assumes nothing.
use mathlib.Core.Path.{refl, ap, ◌∙◌}
use lib.ListN.{length}
use Rattle.tanner.specs.Masked.{first_masked}
use Rattle.ldpc.specs.Rows.{sevens}
use Rattle.code174.specs.Tables.{nm}
use Rattle.ldpc.proofs.Sevens.{behind-first}
use Rattle.ldpc.proofs.first_low.Goals as goal

pub first_word-requires : goal.first_word-requires
first_word-requires c = ap length c.padded_word-padded.ensures ∙ rw c.requires refl

pub returns : goal.returns
returns c = c.first_word.ensures ∙ ap (first_masked 1 (sevens 83 nm)) c.padded_word-padded.ensures ∙ behind-first 1 _ (rw c.requires refl) refl
