-- Min-sum without a place: what is kept of a check's messages, and the answer to one of them. That these are min-sum's answers is `by-columns`
-- (proofs/Minima.antt).
use Rattle.std.specs.Prelude.{Bool, false, cond, List, [], ◌∷◌, T, Float}
use Rattle.std.specs.Float.{inf, binary32}
use Rattle.std.specs.Float.Ieee.{fits, lt, eq}
use Rattle.softmath.specs.Single.{◌⊗◌, zero32, one32}
use Rattle.softmath.specs.Functions.{magnitude_of}
use Rattle.softmath.specs.CheckNode.{turned}
use Rattle.slot_minima.specs.declared.Seen.{Seen}

-- nothing seen yet
abbrev pub fresh : Seen
fresh = record { least = inf false; second = inf false; sign = one32 }

-- one message more, of magnitude a
abbrev pub least_with : Float → Float → Float
least_with a l = cond (lt a l) a l

abbrev pub second_with : Float → Float → Float → Float
second_with a l s = cond (lt a l) l (cond (lt a s) a s)

unfoldable pub noted : Seen → Float → Seen
noted t v = record { least = least_with (magnitude_of v) t.least; second = second_with (magnitude_of v) t.least t.second; sign = turned v t.sign }

unfoldable pub noted_all : Seen → List Float → Seen
noted_all t [] = t
noted_all t (v ∷ vs) = noted_all (noted t v) vs

-- the second where the own magnitude is the least, which `own` says, and otherwise the least: as the code computes it
abbrev pub pick : Bool → Float → Float → Float
pick own l s =
    let k = cond own (inf false) zero32 in
    let x = cond (lt s k) s k in
    cond (lt l x) x l

unfoldable pub answer_to : Float → Seen → Float → Float
answer_to scale t v = (scale ⊗ turned v t.sign) ⊗ pick (eq (magnitude_of v) t.least) t.least t.second

-- every message is a float of 32 bits
pub data Fit : List Float → Type 0 where
  none : Fit []
  more : {v : Float} {vs : List Float} → T (fits binary32 v) → Fit vs → Fit (v ∷ vs)
