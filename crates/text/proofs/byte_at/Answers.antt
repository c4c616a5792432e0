-- `text::byte_at` meets its contract. Each of the eight bits is 0 or 1. Assumes nothing.
use Rattle.text.specs.Text.{byte_at}
use borrow.Author.Rules.{rules}
use Rattle.text.proofs.byte_at.Goals as goal

pub returns : goal.returns
unfolding byte_at
returns c = search rules
