-- Turns after turns are turns: a staircase code's message bits and then its parity bits are its positions in order. By induction over the bits.
-- Assumes nothing.
use mathlib.Core.Path.{◌≡◌, refl, ap, ◌∙◌}
use mathlib.Core.List.{List}
use Prim.Native.Nat.{ℕ, zero, suc, ◌+◌, ◌<◌}
use native.Mathlib.Nat.{add-zero, add-suc}
use native.Mathlib.Omega.{arith}
use lib.Ieee.{Float, nan}
use lib.ListN.{get_or}
use Rattle.softmath.specs.declared.SumKind.{SumKind}
use Rattle.softmath.specs.declared.SumKind.TheVariants.{Total}
use Rattle.tanner.specs.Checks.{Checks}
use Rattle.slots.specs.Layout.{slot_edges, scattered, three_at}
use Rattle.variable_node.specs.Passes.{turns, Pass, bit_done, three_turn, three_first}
use Rattle.parity_node.specs.Parity.{parity_turn, parity_first}
use Rattle.passes.specs.Passes.{slot_first, slot_turn, StairEdges}

module _ {A : Type 0} (h : ℕ → A → A) where
  -- steps that agree at each turn
  turns_same : (f : ℕ → A → A) (n : ℕ) (a : A) → ((b : ℕ) (s : A) → b < n → f b s ≡ h b s) → turns f n a ≡ turns h n a
  unfolding turns
  turns_same f zero a e = refl
  turns_same f (suc n) a e = e n (turns f n a) (omega arith) ∙ ap (h n) (turns_same f n a (λ b s l. e b s (omega arith)))

  -- and those that go on where others ended
  turns-on : (g : ℕ → A → A) (k m : ℕ) (a : A) → ((i : ℕ) (s : A) → i < m → g i s ≡ h (k + i) s) → turns g m (turns h k a) ≡ turns h (k + m) a
  unfolding turns
  turns-on g k zero a e = rw add-zero
  turns-on g k (suc m) a e =
      rw add-suc (e m (turns g m (turns h k a)) (omega arith) ∙ ap (h (k + m)) (turns-on g k m a (λ i s l. e i s (omega arith))))

  both-turns : (f g : ℕ → A → A) (k m : ℕ) (a : A) → ((b : ℕ) (s : A) → b < k → f b s ≡ h b s) → ((i : ℕ) (s : A) → i < m → g i s ≡ h (k + i) s)
      → turns g m (turns f k a) ≡ turns h (k + m) a
  both-turns f g k m a d e = ap (turns g m) (turns_same f k a d) ∙ turns-on g k m a e

-- ---- bits whose places are all listed

module _ (cs : Checks) (m : ℕ) (llr : List Float) (table : List ℕ) (n : ℕ) (listed : (b : ℕ) → b < n → three_at table b ≡ slot_edges cs m b) where
  pub all_first : (w : List Float) → turns (three_first llr table) n w ≡ turns (slot_first cs m llr) n w
  unfolding three_first slot_first
  all_first w = turns_same (slot_first cs m llr) (three_first llr table) n w (λ b s l. ap (λ (es : List ℕ). scattered (get_or llr b nan) es s) (listed b l))

  pub all-bits : (kind : SumKind) (s : Pass) → turns (three_turn kind llr table) n s ≡ turns (slot_turn cs m kind llr) n s
  unfolding three_turn slot_turn
  all-bits kind s =
      turns_same (slot_turn cs m kind llr) (three_turn kind llr table) n s (λ b t l. ap (λ (es : List ℕ). bit_done kind (get_or llr b nan) es b t) (listed b l))

-- ---- message bits, then parity bits

module _ (cs : Checks) (k m from : ℕ) (table : List ℕ) (e : StairEdges cs k m from table) (llr : List Float) where
  pub stair-first-turns : (w w1 w2 : List Float) → w1 ≡ turns (three_first llr table) k w → w2 ≡ turns (parity_first llr k m from) m w1
      → w2 ≡ turns (slot_first cs m llr) (k + m) w
  unfolding three_first parity_first slot_first
  stair-first-turns w w1 w2 one two =
      two ∙ ap (turns (parity_first llr k m from) m) one
      ∙ both-turns (slot_first cs m llr) (three_first llr table) (parity_first llr k m from) k m w
      (λ b s l. ap (λ (es : List ℕ). scattered (get_or llr b nan) es s) (e.listed b l))
      (λ i s l. ap (λ (es : List ℕ). scattered (get_or llr (k + i) nan) es s) (e.paired i l))

  pub stair-bits-turns : (s s1 s2 : Pass) → s1 ≡ turns (three_turn Total llr table) k s → s2 ≡ turns (parity_turn llr k m from) m s1
      → s2 ≡ turns (slot_turn cs m Total llr) (k + m) s
  unfolding three_turn parity_turn slot_turn
  stair-bits-turns s s1 s2 one two =
      two ∙ ap (turns (parity_turn llr k m from) m) one
      ∙ both-turns (slot_turn cs m Total llr) (three_turn Total llr table) (parity_turn llr k m from) k m s
      (λ b t l. ap (λ (es : List ℕ). bit_done Total (get_or llr b nan) es b t) (e.listed b l))
      (λ i t l. ap (λ (es : List ℕ). bit_done Total (get_or llr (k + i) nan) es (k + i) t) (e.paired i l))
