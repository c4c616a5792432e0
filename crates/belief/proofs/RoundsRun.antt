-- The number of rounds run, for every code: where the rounds stop, and what a larger limit makes of it. By induction over the rounds. Assumes nothing.
use mathlib.Core.Path.{◌≡◌, refl, sym, ap, subst, ◌∙◌}
use mathlib.Core.Bool.{Bool, true, false, cond}
use mathlib.Core.List.{List, [], ◌∷◌}
use Prim.Native.Nat.{ℕ, zero, suc, min, ◌<◌, ◌≤◌}
use native.Mathlib.Nat.{le_refl, min-eq_left, min-eq_right, min-le_left, suc-min-suc}
use native.Mathlib.Omega.{arith}
use borrow.Author.Tests.{eqb-true, eqb-false}
use lib.Dec.{eqb}
use lib.Ieee.{Float}
use lib.ListN.{length}
use Rattle.tanner.specs.Checks.{Word, Checks, count}
use Rattle.one_round.specs.Round.{Decode, answers, decided, sent, initial_word, first_messages}
use Rattle.rounds.specs.Rounds.{words_from, round_words, rounds_run}
use Rattle.belief.specs.Chosen.{word_at}
use Rattle.belief.specs.RoundsRun.{StoppedAt, reached, passed, RoundsAre, none, some}

-- ---- where the rounds stop

module _ (cs : Checks) (limit : ℕ) (w : Word) (ws : List Word) where
  none-on : (n : ℕ) → (count cs w ≡ 0 → ⊥) → ((i : ℕ) → i < n → count cs (word_at ws i) ≡ 0 → ⊥) → (i : ℕ) → i < suc n → count cs (word_at (w ∷ ws) i) ≡ 0 → ⊥
  none-on n e f zero h = e
  none-on n e f (suc i) h = f i (omega arith)

  one_on : {n : ℕ} → (count cs w ≡ 0 → ⊥) → StoppedAt cs limit ws n → StoppedAt cs (suc limit) (w ∷ ws) (suc n)
  one_on e (reached j h z before) = reached (suc j) (omega arith) z (none-on j e before)
  one_on e (passed all) = passed (none-on limit e all)

  stopped_by : (t : Bool) → eqb (count cs w) 0 ≡ t → StoppedAt cs limit ws (length ws)
      → StoppedAt cs (suc limit) (w ∷ cond t [] ws) (suc (length (cond t [] ws)))
  stopped_by true e s = reached 0 (omega arith) (eqb-true (count cs w) 0 e) (λ i h z. omega arith)
  stopped_by false e s = one_on (eqb-false (count cs w) 0 e) s

from_stopped : (d : Decode) (limit : ℕ) (ms : List Float) → StoppedAt d.checks limit (words_from d limit ms) (length (words_from d limit ms))
unfolding words_from
from_stopped d zero ms = passed (λ i h z. omega arith)
from_stopped d (suc limit) ms =
    let ans = answers d ms in
    let more = words_from d limit (sent d ans) in
    stopped_by d.checks limit (decided d ans) more (eqb (count d.checks (decided d ans)) 0) refl (from_stopped d limit (sent d ans))

module _ (d : Decode) (limit : ℕ) where
  rounds-by : (t : Bool) → eqb (count d.checks (initial_word d)) 0 ≡ t
      → round_words d limit ≡ cond t [] (words_from d limit (first_messages d)) → RoundsAre d limit (length (round_words d limit))
  rounds-by true e r = rw r (none (eqb-true (count d.checks (initial_word d)) 0 e))
  rounds-by false e r =
      some (eqb-false (count d.checks (initial_word d)) 0 e)
      (subst (λ (ws : List Word). StoppedAt d.checks limit ws (length ws)) (sym r) (from_stopped d limit (first_messages d)))

  -- N1, whole
  pub rounds-are : RoundsAre d limit (rounds_run d limit)
  unfolding rounds_run round_words
  rounds-are = rounds-by (eqb (count d.checks (initial_word d)) 0) refl refl

-- ---- two limits

lesser_by : (t : Bool) (a : ℕ) (xs ys : List Word) → length xs ≡ min a (length ys) → length (cond t [] xs) ≡ min a (length (cond t [] ys))
lesser_by true a xs ys e = sym (min-eq_right (omega arith))
lesser_by false a xs ys e = e

from_lesser : (d : Decode) (a b : ℕ) (ms : List Float) → a ≤ b → length (words_from d a ms) ≡ min a (length (words_from d b ms))
unfolding words_from
from_lesser d zero b ms h = sym (min-eq_left (omega arith))
from_lesser d (suc a) zero ms h = absurd (omega arith)
from_lesser d (suc a) (suc b) ms h =
    let ans = answers d ms in
    let t = eqb (count d.checks (decided d ans)) 0 in
    ap suc (lesser_by t a _ _ (from_lesser d a b (sent d ans) (omega arith))) ∙ sym (suc-min-suc a _)

module _ (d : Decode) where
  -- "the rounds under a are the lesser of a and the rounds under b"
  pub rounds-lesser : (a b : ℕ) → a ≤ b → rounds_run d a ≡ min a (rounds_run d b)
  unfolding rounds_run round_words
  rounds-lesser a b h = lesser_by (eqb (count d.checks (initial_word d)) 0) a _ _ (from_lesser d a b (first_messages d) h)

  -- "never passes the limit"
  pub rounds-within : (limit : ℕ) → rounds_run d limit ≤ limit
  rounds-within limit = omega (arith, rounds-lesser limit limit (le_refl limit), min-le_left limit (rounds_run d limit))
