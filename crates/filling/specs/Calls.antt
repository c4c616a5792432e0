-- A word to be mended, over any check list (change request N7): when it is refused, and what is answered and left.
use Rattle.std.specs.Prelude.{◌≡◌, Bool, false, not, ◌||◌, List, [], ◌∷◌, ℕ, Option, Some, None, eqb, ltb, length}
use Rattle.refusal.specs.Outcome.{Condition, ◌when◌, Outcome, judged, kept}
use Rattle.tanner.specs.Checks.{Word, Checks}
use Rattle.filling.specs.Filling.{Setting, none, at, filled_word, filled_places, listed}
use Rattle.filling.specs.declared.Setting as code

abbrev pub next_of : Option code.Setting → Setting
next_of None = none
next_of (Some s) = at s.at s.bit

-- "a byte is above 2"
unfoldable pub above_two : Word → Bool
above_two [] = false
above_two (b ∷ w) = ltb 2 b || above_two w

-- "a word of another length gets 4, a list of another length 8"; "After 8 in the order: 16 when a byte is above 2"
abbrev pub word_refusals : ℕ → Word → List ℕ → List Condition
word_refusals n word places = (4 when not (eqb (length word) n)) ∷ (8 when not (eqb (length places) n)) ∷ (16 when above_two word) ∷ []

-- what is answered, and what the word and the list are afterwards, by the conditions and the checks: it "returns how many" bits it set
abbrev pub FilledAs : List Condition → Checks → Word → List ℕ → Outcome ℕ → Word → List ℕ → Type 0
FilledAs conditions cs word places answer word_after places_after =
    (answer ≡ judged conditions (length (filled_places cs word)))
    × ((word_after ≡ kept conditions word (filled_word cs word)) × (places_after ≡ kept conditions places (listed (filled_places cs word) places)))
