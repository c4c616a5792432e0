-- "Frames lie in one f32 slice, named by a lent list of pair records, each an offset and a length": a pair, and the frames that pairs name.
use Rattle.std.specs.Prelude.{◌≡◌, List, [], ◌∷◌, map, ℕ, ◌+◌, ◌≤◌, Float, take, drop}

pub record Pair : Type 0 where
  pub offset : ℕ
  pub size : ℕ

abbrev pub pair : ℕ → ℕ → Pair
pair offset size = record { offset = offset; size = size }

-- the pairs of a flat list of numbers, offset and length in turn; an odd last number is no pair
unfoldable pub pairs_of : List ℕ → List Pair
pairs_of [] = []
pairs_of (o ∷ []) = []
pairs_of (o ∷ n ∷ ns) = pair o n ∷ pairs_of ns

-- the values that a pair names
unfoldable pub frame_of : List Float → Pair → List Float
frame_of values p = take p.size (drop p.offset values)

-- the frames, in place order
abbrev pub frames_of : List Float → List Pair → List (List Float)
frames_of values ps = map (frame_of values) ps

-- every pair names a frame of n values within the slice
pub data AllWithin (n values : ℕ) : List Pair → Type 0 where
  none : AllWithin n values []
  more : {p : Pair} {ps : List Pair} → p.size ≡ n → p.offset + p.size ≤ values → AllWithin n values ps → AllWithin n values (p ∷ ps)
