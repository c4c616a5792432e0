-- A frame under two limits. (Change request N2: "A frame clean under a limit is clean under every larger one.")
use Rattle.std.specs.Prelude.{◌≡◌, Bool, true, ℕ, ◌≤◌, List, Float}
use Rattle.rounds.specs.Rounds.{chosen_count, chosen_bits}
use Rattle.batch.specs.Codes.{size_k, decode_of}
use Rattle.batch.specs.Promise.{Call, values_at, count_at, bits_at, SameFrame}
use Rattle.clean.specs.Clean.{frame_clean}

-- whether a frame of these values is clean under a limit
unfoldable pub clean_under : ℕ → ℕ → Float → List Float → ℕ → Bool
clean_under code rule scale values limit =
    let d = decode_of code rule scale values in frame_clean code values (chosen_count d limit) (chosen_bits d limit (size_k code))

-- whether the frame at place j of a call is, by what the call left
unfoldable pub clean_at : Call → ℕ → Bool
clean_at c j = frame_clean c.handed.code (values_at c j) (count_at c j) (bits_at c j)

abbrev pub StaysClean : ℕ → ℕ → Float → List Float → Type 0
StaysClean code rule scale values = (a b : ℕ) → a ≤ b → clean_under code rule scale values a ≡ true → clean_under code rule scale values b ≡ true

-- the same of two accepted calls that hold one frame, "anywhere, whatever else they hold"
abbrev pub CleanInBoth : Call → Call → ℕ → ℕ → Type 0
CleanInBoth a b i j = SameFrame a b i j → clean_at a i ≡ true → clean_at b j ≡ true
