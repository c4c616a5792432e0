-- One turn of each loop over the parity bits: the edges of a bit are its two places in the slots, and what is written there is its channel value, or its
-- new messages. Assumes nothing.
use mathlib.Core.Path.{◌≡◌, refl, ap}
use mathlib.Core.List.{List, [], ◌∷◌}
use Prim.Native.Nat.{ℕ, suc, ◌+◌, ◌-◌, ◌<◌}
use native.Mathlib.Omega.{arith}
use borrow.Author.Tests.{lt-ltb, le-ltb}
use lib.Ieee.{Float, nan}
use lib.ListN.{get_or, set}
use Rattle.softmath.specs.Single.{◌⊕◌, ◌⊖◌, zero32, fold_from}
use Rattle.softmath.specs.Functions.{decide}
use Rattle.softmath.specs.VariableNode.{new_messages, answers_at, put_at}
use Rattle.slots.specs.Layout.{parity_places, scattered}
use Rattle.variable_node.specs.Passes.{turns, Pass, pass_of, bit_done}
use Rattle.parity_node.specs.Parity.{parity_turn, parity_first}

two_places : (from m i next : ℕ) → i + 1 < m → next ≡ from + m + 1 → parity_places from m i ≡ (from + i) ∷ ((next + i) ∷ [])
unfolding parity_places
two_places from m i next h e =
    let p : from + m + (i + 1) ≡ next + i = omega arith in
    rw (lt-ltb (i + 1) m h, p)

one_place : (from m i : ℕ) → i ≡ m - 1 → parity_places from m i ≡ (from + i) ∷ []
unfolding parity_places
one_place from m i e = rw (le-ltb (i + 1) m (omega arith))

pub paired_first_more : (llr : List Float) (k m from i next : ℕ) (w w₀ : List Float) → i + 1 < m → next ≡ from + m + 1
    → w ≡ turns (parity_first llr k m from) i w₀
    → set (set w (from + i) (get_or llr (k + i) nan)) (next + i) (get_or llr (k + i) nan) ≡ turns (parity_first llr k m from) (i + 1) w₀
unfolding turns parity_first scattered
paired_first_more llr k m from i next w w₀ h e j =
    let n : i + 1 ≡ suc i = omega arith in
    rw (n, ← j, two_places from m i next h e)

pub last_first : (llr : List Float) (k m from : ℕ) (w w₀ : List Float) → 0 < m → w ≡ turns (parity_first llr k m from) (m - 1) w₀
    → set w (from + (m - 1)) (get_or llr (k + (m - 1)) nan) ≡ turns (parity_first llr k m from) m w₀
unfolding turns parity_first scattered
last_first llr k m from w w₀ h j =
    let last : m ≡ suc (m - 1) = omega arith in
    let n : turns (parity_first llr k m from) m w₀ ≡ turns (parity_first llr k m from) (suc (m - 1)) w₀ =
    ap (λ (i : ℕ). turns (parity_first llr k m from) i w₀) last
    in
    rw (n, ← j, one_place from m (m - 1) refl)

pub paired_more : (llr : List Float) (k m from i next : ℕ) (hard : List ℕ) (w : List Float) (s : Pass) (bit : ℕ) → i + 1 < m → next ≡ from + m + 1
    → pass_of hard w ≡ turns (parity_turn llr k m from) i s
    → let l = get_or llr (k + i) nan in
    let x = get_or w (from + i) nan in
    let y = get_or w (next + i) nan in
    let t = l ⊕ ((zero32 ⊕ x) ⊕ y) in
    bit ≡ decide ((l ⊕ x) ⊕ y)
    → pass_of (set hard (k + i) bit) (set (set w (from + i) (t ⊖ x)) (next + i) (t ⊖ y)) ≡ turns (parity_turn llr k m from) (i + 1) s
unfolding turns parity_turn bit_done answers_at put_at fold_from new_messages
paired_more llr k m from i next hard w s bit h e j eb =
    let n : i + 1 ≡ suc i = omega arith in
    rw (n, ← j, two_places from m i next h e, eb)

pub last_more : (llr : List Float) (k m from : ℕ) (hard : List ℕ) (w : List Float) (s : Pass) (bit : ℕ) → 0 < m
    → pass_of hard w ≡ turns (parity_turn llr k m from) (m - 1) s
    → let l = get_or llr (k + (m - 1)) nan in
    let x = get_or w (from + (m - 1)) nan in
    bit ≡ decide (l ⊕ x)
    → pass_of (set hard (k + (m - 1)) bit) (set w (from + (m - 1)) ((l ⊕ (zero32 ⊕ x)) ⊖ x)) ≡ turns (parity_turn llr k m from) m s
unfolding turns parity_turn bit_done answers_at put_at fold_from new_messages
last_more llr k m from hard w s bit h j eb =
    let last : m ≡ suc (m - 1) = omega arith in
    let n : turns (parity_turn llr k m from) m s ≡ turns (parity_turn llr k m from) (suc (m - 1)) s =
    ap (λ (i : ℕ). turns (parity_turn llr k m from) i s) last
    in
    rw (n, ← j, one_place from m (m - 1) refl, eb)
