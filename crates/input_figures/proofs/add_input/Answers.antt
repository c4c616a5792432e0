-- `input_figures::add_input` meets its contract: an input that is malformed is refused before all else.
use mathlib.Core.Path.{sym, ◌∙◌}
use Rattle.input_figures.proofs.Added.{malformed-input}
use Rattle.input_figures.proofs.add_input.Goals as goal

pub returns-then-is_malformed : goal.returns-then-is_malformed
returns-then-is_malformed c = let a = c.args in
    malformed-input a.total a.input.now (sym c.is_malformed.ensures ∙ c.if-is_malformed.true)

pub add_read-requires : goal.add_read-requires
add_read-requires c = sym c.is_malformed.ensures ∙ c.if-is_malformed.false
