-- Lists of numbers whose entries are all below a number.
use Rattle.std.specs.Prelude.{List, ℕ, ◌<◌, length, get_or}

-- each entry is below n
unfoldable pub Below : ℕ → List ℕ → Type 0
Below n ps = (k : ℕ) → k < length ps → get_or ps k 0 < n
