-- `text::put_text` meets its contract. The text is copied over the bytes at its place.
use Rattle.text.proofs.Put.{copied}
use Rattle.text.proofs.put_text.Goals as goal

pub returns : goal.returns
returns c = copied _ _ _ _ c.copy_from_slice.ensures.after
