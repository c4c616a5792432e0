-- Whether a frame of a batch is clean (change request N2), of the values that its pair names and of what the batch wrote for it.
use Rattle.std.specs.Prelude.{Bool, List, [], ℕ, ◌*◌, Float, get_or, take, drop}
use Rattle.batch.specs.Codes.{size_k}
use Rattle.clean.specs.Clean.{frame_clean}

-- the K bits of frame j among those of all frames
abbrev pub bits_of : ℕ → List ℕ → ℕ → List ℕ
bits_of code bits j = let k = size_k code in take k (drop (j * k) bits)

-- the frame at place j of these, with its count and its bits among those of all frames
abbrev pub clean_of : ℕ → List (List Float) → List ℕ → List ℕ → ℕ → Bool
clean_of code frames counts bits j = frame_clean code (get_or frames j []) (get_or counts j 0) (bits_of code bits j)
