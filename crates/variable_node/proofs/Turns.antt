-- One turn of each loop over the bits: the edges of a bit are the entries of its table, and what is written there is its channel value, or its new
-- messages. Assumes nothing.
use mathlib.Core.Path.{◌≡◌, refl}
use mathlib.Core.List.{List, [], ◌∷◌}
use Prim.Native.Nat.{ℕ, suc, ◌+◌, ◌*◌, ◌<◌, ◌≤◌}
use native.Mathlib.Omega.{arith}
use lib.Ieee.{Float, nan}
use lib.ListN.{length, get_or, set}
use lib.Seq.{drop-cons}
use Rattle.softmath.specs.Single.{◌⊕◌, zero32, fold_from}
use Rattle.softmath.specs.Functions.{decide}
use Rattle.softmath.specs.CheckNode.{over_others}
use Rattle.softmath.specs.VariableNode.{new_messages, answers_at, put_at}
use Rattle.softmath.specs.declared.SumKind.{SumKind}
use Rattle.softmath.specs.declared.SumKind.TheVariants.{Total, Others}
use Rattle.lists.specs.Below.{Below}
use Rattle.slots.specs.Layout.{three_at, scattered}
use Rattle.variable_node.specs.Passes.{turns, Pass, pass_of, bit_done, message_to, three_turn, three_first, Listed}

-- ---- the table

-- the three entries of bit b
three_entries : (table : List ℕ) (b : ℕ) → b * 3 + 3 ≤ length table
    → three_at table b ≡ get_or table (b * 3) 0 ∷ (get_or table (b * 3 + 1) 0 ∷ (get_or table (b * 3 + 2) 0 ∷ []))
unfolding three_at
three_entries table b h =
    let a = b * 3 in
    let one : a + 1 ≡ suc a = omega arith in
    let two : a + 2 ≡ suc (suc a) = omega arith in
    rw (drop-cons table a 0 (omega arith), drop-cons table (suc a) 0 (omega arith), drop-cons table (suc (suc a)) 0 (omega arith), one, two)

pub table-room : (n : ℕ) (table : List ℕ) (k b : ℕ) → Listed n table k → b < n → b * 3 + 3 ≤ length table
table-room n table k b l h = omega (arith, l.size)

-- each of a bit's three entries names a place of a message
pub entry_low : (n : ℕ) (table : List ℕ) (k b i m : ℕ) → Listed n table k → b < n → i < b * 3 + 3 → m ≡ k → get_or table i 0 < m
unfolding Below
entry_low n table k b i m l h j s = omega (arith, l.low i (omega (arith, l.size)))

-- ---- three edges

pub listed-first_more : (llr : List Float) (table : List ℕ) (b : ℕ) (w w₀ : List Float) → b * 3 + 3 ≤ length table
    → w ≡ turns (three_first llr table) b w₀
    → set (set (set w (get_or table (b * 3) 0) (get_or llr b nan)) (get_or table (b * 3 + 1) 0) (get_or llr b nan))
    (get_or table (b * 3 + 2) 0) (get_or llr b nan)
    ≡ turns (three_first llr table) (b + 1) w₀
unfolding turns three_first scattered
listed-first_more llr table b w w₀ h i =
    let n : b + 1 ≡ suc b = omega arith in
    rw (n, ← i, three_entries table b h)

-- the new messages of three answers
three_messages : (kind : SumKind) (l x y z : Float) → let t = l ⊕ (((zero32 ⊕ x) ⊕ y) ⊕ z) in
    new_messages kind l (x ∷ (y ∷ (z ∷ []))) ≡ message_to kind l t x y z ∷ (message_to kind l t y x z ∷ (message_to kind l t z x y ∷ []))
unfolding new_messages message_to fold_from over_others
three_messages Total l x y z = refl
three_messages Others l x y z = refl

module _ (kind : SumKind) (llr : List Float) (table : List ℕ) (b : ℕ) (h : b * 3 + 3 ≤ length table) (w : List Float) where
  abbrev a : ℕ
  a = b * 3

  abbrev l : Float
  l = get_or llr b nan

  abbrev x : Float
  x = get_or w (get_or table a 0) nan

  abbrev y : Float
  y = get_or w (get_or table (a + 1) 0) nan

  abbrev z : Float
  z = get_or w (get_or table (a + 2) 0) nan

  abbrev t : Float
  t = l ⊕ (((zero32 ⊕ x) ⊕ y) ⊕ z)

  pub listed_more : (hard : List ℕ) (s : Pass) (bit : ℕ) (f g k : Float) → pass_of hard w ≡ turns (three_turn kind llr table) b s
      → bit ≡ decide (((l ⊕ x) ⊕ y) ⊕ z) → f ≡ message_to kind l t x y z → g ≡ message_to kind l t y x z → k ≡ message_to kind l t z x y
      → pass_of (set hard b bit) (set (set (set w (get_or table a 0) f) (get_or table (a + 1) 0) g) (get_or table (a + 2) 0) k)
      ≡ turns (three_turn kind llr table) (b + 1) s
  unfolding turns three_turn bit_done answers_at put_at fold_from
  listed_more hard s bit f g k i eb ef eg ek =
      let n : b + 1 ≡ suc b = omega arith in
      rw (n, ← i, three_entries table b h, three_messages kind l x y z, eb, ef, eg, ek)
