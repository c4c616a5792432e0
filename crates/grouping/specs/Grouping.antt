-- Groups of frames (change request N13): their sizes, and their bit bytes.
use Rattle.std.specs.Prelude.{Bool, true, false, not, ◌&&◌, ◌||◌, List, [], ◌∷◌, ◌++◌, ℕ, ◌+◌, ◌*◌, eqb, length, take, drop, replicate}
use Rattle.refusal.specs.Outcome.{Condition, ◌when◌}

-- ---- sizes

-- "a size is 0"
unfoldable pub some_zero : List ℕ → Bool
some_zero [] = false
some_zero (n ∷ ns) = eqb n 0 || some_zero ns

-- what the sizes add up to
unfoldable pub total : List ℕ → ℕ
total [] = 0
total (n ∷ ns) = n + total ns

-- "20 when a size is 0 or the sizes do not add up to the frame count". "An empty list is no list": there is then nothing to test.
abbrev pub size_refusals : ℕ → List ℕ → List Condition
size_refusals count [] = []
size_refusals count (n ∷ ns) = (20 when (some_zero (n ∷ ns) || not (eqb (total (n ∷ ns)) count))) ∷ []

-- ---- bytes

unfoldable pub all : List Bool → Bool
all [] = true
all (c ∷ cs) = c && all cs

-- "A group is delivered if all its frames are clean; otherwise all its bit bytes are written as 255."
abbrev pub group_bits : Bool → List ℕ → List ℕ
group_bits true bits = bits
group_bits false bits = replicate (length bits) 255

-- Each group takes "its frames in place order": the first group the first n frames, of k bit bytes each, and the groups after it those that are left.
-- Where the sizes add up to the frame count, no frame is left after the last group. "An empty list is no list: nothing is overwritten then."
unfoldable pub delivered : ℕ → List ℕ → List Bool → List ℕ → List ℕ
delivered k [] clean bits = bits
delivered k (n ∷ ns) clean bits =
    group_bits (all (take n clean)) (take (n * k) bits) ++ delivered k ns (drop n clean) (drop (n * k) bits)
