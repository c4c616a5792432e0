-- `desklink::desklink_fill_erasures` meets its contract: the answer of the call beneath, as a number. Assumes nothing.
use mathlib.Core.Path.{ap, ◌∙◌}
use Rattle.coded.proofs.Signed.{read_back_lem}
use Rattle.coded.specs.Coded.{coded}
use Rattle.desklink.proofs.desklink_fill_erasures.Goals as goal

pub returns : goal.returns
returns c = record {
  value = read_back_lem (record { sfits = c.answer_code.type_inv }) ∙ c.answer_code.ensures
      ∙ ap coded c.fill_erasures.ensures.result_value;
  word_after = c.fill_erasures.ensures.word_after;
  places_after = c.fill_erasures.ensures.places_after;
}
