-- The words of a decode and the chosen one, for every code: a larger limit only adds words, and the chosen word is the first of the least count.
-- By induction over the rounds and over lists of words. Assumes nothing.
use mathlib.Core.Path.{◌≡◌, refl, ap, ◌∙◌}
use mathlib.Core.Bool.{Bool, true, false, cond}
use mathlib.Core.List.{List, [], ◌∷◌, ◌++◌}
use Prim.Native.Nat.{ℕ, zero, suc, ◌<◌, ◌≤◌}
use native.Mathlib.Nat.{le_refl}
use native.Mathlib.Omega.{arith}
use borrow.Author.Tests.{ltb-true, ltb-false}
use lib.Dec.{eqb, ltb}
use lib.Ieee.{Float}
use lib.ListN.{length}
use Rattle.tanner.specs.Checks.{Word, Checks, count}
use Rattle.one_round.specs.Round.{Decode, answers, decided, sent}
use Rattle.rounds.specs.Rounds.{words_from, round_words}
use Rattle.one_round.specs.Round.{first_messages, initial_word}
use Rattle.rounds.specs.Rounds.{better, chosen_from, chosen, chosen_count}
use Rattle.belief.specs.Chosen.{words, word_at, FirstLeast}

-- ---- a larger limit only adds words

pub record Prefix (xs ys : List Word) : Type 0 where
  pub rest : List Word
  pub joins : ys ≡ xs ++ rest

after_word : (t : Bool) (w : Word) {xs ys : List Word} → Prefix xs ys → Prefix (w ∷ cond t [] xs) (w ∷ cond t [] ys)
after_word true w p = record { rest = []; joins = refl }
after_word false w p = record { rest = p.rest; joins = ap (λ (ws : List Word). w ∷ ws) p.joins }

module _ (d : Decode) where
  from-prefix : (a b : ℕ) (ms : List Float) → a ≤ b → Prefix (words_from d a ms) (words_from d b ms)
  unfolding words_from
  from-prefix zero b ms h = record { rest = words_from d b ms; joins = refl }
  from-prefix (suc a) zero ms h = absurd (omega arith)
  from-prefix (suc a) (suc b) ms h =
      let ans = answers d ms in
      after_word (eqb (count d.checks (decided d ans)) 0) (decided d ans) (from-prefix a b (sent d ans) (omega arith))

  pub words-prefix : (a b : ℕ) → a ≤ b → Prefix (words d a) (words d b)
  unfolding round_words
  words-prefix a b h = after_word (eqb (count d.checks (initial_word d)) 0) (initial_word d) (from-prefix a b (first_messages d) h)

-- ---- the first of the least count

module _ (cs : Checks) where
  chosen-append : (k : Word) (xs ys : List Word) → chosen_from cs k (xs ++ ys) ≡ chosen_from cs (chosen_from cs k xs) ys
  unfolding chosen_from
  chosen-append k [] ys = refl
  chosen-append k (x ∷ xs) ys = chosen-append (better cs k x) xs ys

  better-by : (k w : Word) (t : Bool) → ltb (count cs w) (count cs k) ≡ t → (count cs (cond t w k) ≤ count cs k) × (count cs (cond t w k) ≤ count cs w)
  better-by k w true e = omega (arith, ltb-true (count cs w) (count cs k) e)
  better-by k w false e = omega (arith, ltb-false (count cs w) (count cs k) e)

  better-least : (k w : Word) → (count cs (better cs k w) ≤ count cs k) × (count cs (better cs k w) ≤ count cs w)
  better-least k w = better-by k w (ltb (count cs w) (count cs k)) refl

  chosen-least : (k : Word) (ws : List Word) → count cs (chosen_from cs k ws) ≤ count cs k
  unfolding chosen_from
  chosen-least k [] = le_refl _
  chosen-least k (w ∷ ws) = omega (arith, chosen-least (better cs k w) ws, better-least k w)

  -- where the count does not fall, the word stays
  stays_by : (k w : Word) (ws : List Word) (t : Bool) → ltb (count cs w) (count cs k) ≡ t
      → (count cs (chosen_from cs k ws) ≡ count cs k → chosen_from cs k ws ≡ k)
      → count cs (chosen_from cs (cond t w k) ws) ≡ count cs k → chosen_from cs (cond t w k) ws ≡ k
  stays_by k w ws true l ih e = absurd (omega (arith, ltb-true (count cs w) (count cs k) l, chosen-least w ws))
  stays_by k w ws false l ih e = ih e

  chosen-stays : (k : Word) (ws : List Word) → count cs (chosen_from cs k ws) ≡ count cs k → chosen_from cs k ws ≡ k
  unfolding chosen_from
  chosen-stays k [] e = refl
  chosen-stays k (w ∷ ws) e = stays_by k w ws (ltb (count cs w) (count cs k)) refl (chosen-stays k ws) e

  -- one word more, second in the list: it replaces the first, or it is passed over
  module _ (k w v : Word) (ws : List Word) where
    replaced-least : count cs w < count cs k → FirstLeast cs (w ∷ ws) v → (j : ℕ) → j < suc (suc (length ws)) → count cs v ≤ count cs (word_at (k ∷ w ∷ ws) j)
    replaced-least l f zero h = omega (arith, f.least 0 (omega arith))
    replaced-least l f (suc j) h = f.least j (omega arith)

    replaced-first : count cs w < count cs k → (f : FirstLeast cs (w ∷ ws) v) → (j : ℕ) → j < suc f.place → count cs v < count cs (word_at (k ∷ w ∷ ws) j)
    replaced-first l f zero h = omega (arith, f.least 0 (omega arith))
    replaced-first l f (suc j) h = f.first j (omega arith)

    replaced : count cs w < count cs k → FirstLeast cs (w ∷ ws) v → FirstLeast cs (k ∷ w ∷ ws) v
    replaced l f = record {
      place = suc f.place;
      inside = omega (arith, f.inside);
      there = f.there;
      least = replaced-least l f;
      first = replaced-first l f;
    }

    passed-least : count cs k ≤ count cs w → FirstLeast cs (k ∷ ws) v → (j : ℕ) → j < suc (suc (length ws)) → count cs v ≤ count cs (word_at (k ∷ w ∷ ws) j)
    passed-least l f zero h = f.least 0 (omega arith)
    passed-least l f (suc zero) h = omega (arith, f.least 0 (omega arith))
    passed-least l f (suc (suc j)) h = f.least (suc j) (omega arith)

    passed_first : count cs k ≤ count cs w → (p : ℕ) → ((j : ℕ) → j < suc p → count cs v < count cs (word_at (k ∷ ws) j))
        → (j : ℕ) → j < suc (suc p) → count cs v < count cs (word_at (k ∷ w ∷ ws) j)
    passed_first l p f zero h = f 0 (omega arith)
    passed_first l p f (suc zero) h = omega (arith, f 0 (omega arith))
    passed_first l p f (suc (suc j)) h = f (suc j) (omega arith)

    passed-at : count cs k ≤ count cs w → (f : FirstLeast cs (k ∷ ws) v) (p : ℕ) → f.place ≡ p → FirstLeast cs (k ∷ w ∷ ws) v
    passed-at l f zero e = record {
      place = 0;
      inside = omega arith;
      there = rw e at f.there;
      least = passed-least l f;
      first = λ j h. absurd (omega arith);
    }
    passed-at l f (suc p) e = record {
      place = suc (suc p);
      inside = omega (arith, f.inside);
      there = rw e at f.there;
      least = passed-least l f;
      first = passed_first l p (rw e at f.first);
    }

  first_by : (k w : Word) (ws : List Word) (t : Bool) → ltb (count cs w) (count cs k) ≡ t
      → ((z : Word) → FirstLeast cs (z ∷ ws) (chosen_from cs z ws)) → FirstLeast cs (k ∷ w ∷ ws) (chosen_from cs (cond t w k) ws)
  first_by k w ws true l f = replaced k w (chosen_from cs w ws) ws (ltb-true (count cs w) (count cs k) l) (f w)
  first_by k w ws false l f = passed-at k w (chosen_from cs k ws) ws (ltb-false (count cs w) (count cs k) l) (f k) (f k).place refl

  only-least : (k : Word) (j : ℕ) → j < 1 → count cs k ≤ count cs (word_at (k ∷ []) j)
  only-least k zero h = le_refl _
  only-least k (suc j) h = absurd (omega arith)

  first_least : (ws : List Word) (k : Word) → FirstLeast cs (k ∷ ws) (chosen_from cs k ws)
  unfolding chosen_from
  first_least [] k = record {
    place = 0;
    inside = omega arith;
    there = refl;
    least = only-least k;
    first = λ j h. absurd (omega arith);
  }
  first_least (w ∷ ws) k = first_by k w ws (ltb (count cs w) (count cs k)) refl (first_least ws)

-- ---- the promise between two limits, of a frame

module _ (d : Decode) where
  -- "the count returned is that of one chosen word among the initial hard word and the words of the rounds run,
  -- every other has at least as many unsatisfied checks, every earlier one more"
  pub chosen-first : (limit : ℕ) → FirstLeast d.checks (words d limit) (chosen d limit)
  unfolding chosen
  chosen-first limit = first_least d.checks (round_words d limit) (initial_word d)

  grown : (a b : ℕ) → a ≤ b → (rest : List Word) × (chosen d b ≡ chosen_from d.checks (chosen d a) rest)
  unfolding chosen
  grown a b h =
      let p = words-prefix d a b h in
      let tail : round_words d b ≡ round_words d a ++ p.rest = cc in
      (p.rest, rw tail (chosen-append d.checks (initial_word d) (round_words d a) p.rest))

  -- "its count is no greater under b"
  pub count-falls : (a b : ℕ) → a ≤ b → chosen_count d b ≤ chosen_count d a
  unfolding chosen_count
  count-falls a b h = rw (grown a b h).1 (chosen-least d.checks (chosen d a) (grown a b h).0)

  -- "equal counts give equal message bits": they give the same word
  pub same_chosen : (a b : ℕ) → a ≤ b → chosen_count d b ≡ chosen_count d a → chosen d b ≡ chosen d a
  unfolding chosen_count
  same_chosen a b h e =
      let g = grown a b h in
      g.1 ∙ chosen-stays d.checks (chosen d a) g.0 (rw g.1 at e)
