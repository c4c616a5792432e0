-- Mending a word (change request N7), for any check list: "Its word has N bytes, 0, 1, or 2 for unknown."
use Rattle.std.specs.Prelude.{cond, List, [], ◌∷◌, ◌++◌, ℕ, zero, suc, eqb, length, get_or, set, drop}
use Rattle.tanner.specs.Checks.{Word, Checks, parity}

-- the positions of a check whose bits are unknown, in row order
unfoldable pub unknowns : List ℕ → Word → List ℕ
unknowns [] w = []
unknowns (p ∷ ps) w = let more = unknowns ps w in cond (eqb (get_or w p 0) 2) (p ∷ more) more

-- the positions of a check other than p
unfoldable pub others : ℕ → List ℕ → List ℕ
others p [] = []
others p (q ∷ qs) = let more = others p qs in cond (eqb q p) more (q ∷ more)

-- what is set next: nothing, or a position and its bit
pub data Setting : Type 0 where
  none : Setting
  at : ℕ → ℕ → Setting

-- a "check with exactly one unknown bit .. sets that bit to the parity of the others"
abbrev pub setting_of : List ℕ → Word → List ℕ → Setting
setting_of c w [] = none
setting_of c w (p ∷ []) = at p (parity (others p c) w)
setting_of c w (p ∷ (q ∷ us)) = none

unfoldable pub setting_in : List ℕ → Word → Setting
setting_in c w = setting_of c w (unknowns c w)

abbrev pub or_else : Setting → Setting → Setting
or_else none s = s
or_else (at p b) s = at p b

-- "It takes the lowest-numbered check with exactly one unknown bit"
unfoldable pub lowest : Checks → Word → Setting
lowest [] w = none
lowest (c ∷ cs) w = or_else (setting_in c w) (lowest cs w)

-- the word after, and the positions set
pub record Filled : Type 0 where
  pub word : Word
  pub places : List ℕ

-- "sets that bit .. and begins again, until there is no such check", at most n times: the setting is the one that comes next
unfoldable pub fill_by : ℕ → Checks → Setting → Word → Filled
fill_by zero cs s w = record { word = w; places = [] }
fill_by (suc n) cs none w = record { word = w; places = [] }
fill_by (suc n) cs (at p b) w =
    let v = set w p b in
    let rest = fill_by n cs (lowest cs v) v in
    record { word = rest.word; places = p ∷ rest.places }

-- N times are enough, since each sets a bit that was unknown (`none-next` of the proofs)
unfoldable pub filled : Checks → Word → Filled
filled cs w = fill_by (length w) cs (lowest cs w) w

unfoldable pub filled_word : Checks → Word → Word
filled_word cs w = (filled cs w).word

-- "It lists the positions it set, counted from 0, in the order it set them"
unfoldable pub filled_places : Checks → Word → List ℕ
filled_places cs w = (filled cs w).places

-- "the list has N places of u16, and those past the last one set are unchanged"
abbrev pub listed : List ℕ → List ℕ → List ℕ
listed done old = done ++ drop (length done) old
