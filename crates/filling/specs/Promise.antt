-- What change request N7 promises of a filled word, sentence by sentence.
use Rattle.std.specs.Prelude.{◌≡◌, List, [], ℕ, ◌<◌, ◌≤◌, length, get_or}
use Rattle.tanner.specs.Checks.{Word, Checks, count}
use Rattle.tanner.specs.Flat.{places}
use Rattle.lists.specs.Below.{Below}
use Rattle.filling.specs.Filling.{filled_word, filled_places}

-- how often a position is named
abbrev pub named : ℕ → List ℕ → ℕ
named p ps = length (places p 0 ps)

-- "check lists that name no position twice in a check"
unfoldable pub NoneTwice : Checks → Type 0
NoneTwice cs = (c p : ℕ) → named p (get_or cs c []) ≤ 1

-- p is the one position of a check that is unknown
pub record OnlyUnknown (c : List ℕ) (w : Word) (p : ℕ) : Type 0 where
  pub covered : 0 < named p c
  pub unknown : get_or w p 0 ≡ 2
  pub alone : (q : ℕ) → 0 < named q c → get_or w q 0 ≡ 2 → q ≡ p

-- a word of as many bits that "agrees with the known bits"
pub record Agrees (w v : Word) : Type 0 where
  pub long : length v ≡ length w
  pub bits : Below 2 v
  pub known : (p : ℕ) → p < length w → (get_or w p 0 ≡ 2 → ⊥) → get_or w p 0 ≡ get_or v p 0

pub record Fills (cs : Checks) (w : Word) : Type 0 where
  pub long : length (filled_word cs w) ≡ length w
  -- "Known bytes never change"
  pub known : (p : ℕ) → (get_or w p 0 ≡ 2 → ⊥) → get_or (filled_word cs w) p 0 ≡ get_or w p 0
  -- "the positions it set": each was unknown and is a bit after, none is listed twice, and no other position changes
  pub were_unknown : (i : ℕ) → i < length (filled_places cs w) → get_or w (get_or (filled_places cs w) i 0) 0 ≡ 2
  pub are_bits : (i : ℕ) → i < length (filled_places cs w) → get_or (filled_word cs w) (get_or (filled_places cs w) i 0) 0 < 2
  pub once : (p : ℕ) → named p (filled_places cs w) ≤ 1
  pub unlisted : (p : ℕ) → named p (filled_places cs w) ≡ 0 → get_or (filled_word cs w) p 0 ≡ get_or w p 0
  pub few : length (filled_places cs w) ≤ length w
  -- "no check is left with exactly one unknown"
  pub none_left : (c p : ℕ) → OnlyUnknown (get_or cs c []) (filled_word cs w) p → ⊥
  -- "If any word of count 0 agrees with the known bits, each bit set is that word's, for every such word."
  pub every_word : (v : Word) → Agrees w v → count cs v ≡ 0 → Agrees (filled_word cs w) v
