-- A round at the code with a given number, as its passes leave it, is a round of the definition. Assumes nothing.
use mathlib.Core.Path.{◌≡◌, refl, sym, ap, subst, ◌∙◌}
use mathlib.Core.List.{List}
use Prim.Native.Nat.{ℕ, zero, suc, ◌<◌, ◌≤◌}
use native.Mathlib.Omega.{arith}
use lib.Ieee.{Float}
use lib.ListN.{length}
use Rattle.softmath.specs.CheckNode.{check_step}
use Rattle.softmath.specs.declared.DecodeRule.{DecodeRule}
use Rattle.tanner.specs.Checks.{Word}
use Rattle.tanner.specs.Masked.{count_masked}
use Rattle.tanner.specs.Flat.{joined}
use Rattle.lists.specs.Below.{Below}
use Rattle.slots.specs.Layout.{Slotted, slot_place, pad_places, scattered}
use Rattle.slots.proofs.Edges.{slot-injective, slot-inside}
use Rattle.construction.specs.Codes.{n512r12, n576r23, n512r34}
use Rattle.staircase.proofs.Positions.{checks-low}
use Rattle.code174.proofs.Graph as ft8
use Rattle.check_node.specs.CheckStep.{AtColumns, pad_of}
use Rattle.variable_node.specs.Passes.{Pass, pass_of, turns}
use Rattle.passes.specs.Codes.{size_n, size_m, checks_by, kind_by, degree, room}
use Rattle.passes.specs.Passes.{slot_first, slot_turn}
use Rattle.passes.proofs.Tables.{slotted_by}
use Rattle.one_round.specs.Round.{Decode, answers, decided, sent, first_messages}
use Rattle.one_round.specs.Held.{HeldBy, RoundBy, decode_at}
use Rattle.one_round.proofs.BitWords.{counted_word, word_bits}
use Rattle.one_round.proofs.Held.{held_at, held_of}
use Rattle.one_round.proofs.Answers.{holds-answers}
use Rattle.one_round.proofs.First.{first_holds, pads-set, pads-hold}
use Rattle.one_round.proofs.Bits.{turns-word, turns-work, turns-size, sent-size}

-- every position of a code's checks is below N
positions_low : (code : ℕ) → Below (size_n code) (joined (checks_by code))
unfolding size_n checks_by
positions_low zero = checks-low n512r12
positions_low (suc zero) = checks-low n576r23
positions_low (suc (suc zero)) = checks-low n512r34
positions_low (suc (suc (suc n))) = ft8.checks-low

-- N is at most 576
pub few_positions : (code : ℕ) → size_n code ≤ 576
unfolding size_n
few_positions zero = omega arith
few_positions (suc zero) = omega arith
few_positions (suc (suc zero)) = omega arith
few_positions (suc (suc (suc n))) = omega arith

module _ (code : ℕ) (rule : DecodeRule) (llr : List Float) (sized : length llr ≡ size_n code) where
  abbrev dec : Decode
  dec = decode_at code rule llr

  abbrev m : ℕ
  m = size_m code

  abbrev d : ℕ
  d = degree code

  abbrev place : ℕ → ℕ
  place e = slot_place (checks_by code) m e

  slotted : Slotted (checks_by code) m d
  slotted = slotted_by code

  -- the first messages
  pub first-held : (w v : List Float) → length w ≡ room code → v ≡ turns (slot_first (checks_by code) m llr) (size_n code) w
      → HeldBy code v (first_messages dec)
  unfolding slot_first room
  first-held w v long e =
      rw e (first_holds dec m d slotted w (omega arith) (slot_first (checks_by code) m llr) (size_n code) (λ b u l. refl) (positions_low code))

  -- the check step, the pads set before
  answers-held : (w v ms : List Float) → HeldBy code w ms → AtColumns (check_step rule) m d (scattered (pad_of rule) (pad_places (checks_by code) m d) w) v
      → HeldBy code v (answers dec ms)
  answers-held w v ms h a =
      let padded = scattered (pad_of rule) (pad_places (checks_by code) m d) w in
      holds-answers dec m d slotted padded v ms (pads-hold (checks_by code) m d slotted (pad_of rule) w h.room ms h)
      (pads-set (checks_by code) m d slotted (pad_of rule) w h.room) a.size a.columns

  -- the round
  pub round-held : (w v next : List Float) (hard word : Word) (found : ℕ) → length hard ≡ size_n code
      → AtColumns (check_step rule) m d (scattered (pad_of rule) (pad_places (checks_by code) m d) w) v
      → pass_of word next ≡ turns (slot_turn (checks_by code) m (kind_by code) llr) (size_n code) (pass_of hard v)
      → found ≡ count_masked 1 (checks_by code) word
      → (ms : List Float) → HeldBy code w ms → RoundBy code rule llr ms next word found
  unfolding slot_turn
  round-held w v next hard word found wide steps bits counts ms h =
      let ans = answers dec ms in
      let held = answers-held w v ms h steps in
      let step = slot_turn (checks_by code) m (kind_by code) llr in
      let apart = slot-injective (checks_by code) m d slotted in
      let inside : (e : ℕ) → e < length (joined (checks_by code)) → place e < length v =
      λ e l. omega (arith, slot-inside (checks_by code) m d slotted e l, held.room)
      in
      let at = held_at (checks_by code) m d slotted v ans held in
      let low = positions_low code in
      let decision : word ≡ decided dec ans =
      ap (λ (p : Pass). p.word) bits ∙ turns-word dec ans v hard place apart inside at step (size_n code) (λ b s l. refl) wide sized low
      in
      let size = turns-size dec ans v hard place apart inside at step (size_n code) (λ b s l. refl) wide sized low in
      let work = turns-work dec ans v hard place apart inside at step (size_n code) (λ b s l. refl) wide sized low in
      let many = sent-size dec ans v hard place apart inside at step (size_n code) (λ b s l. refl) wide sized low in
      let ended = (turns step (size_n code) (pass_of hard v)).work in
      let kept : HeldBy code ended (sent dec ans) = held_of (checks_by code) m d slotted ended (sent dec ans) (omega (arith, size, held.room)) many work in
      record {
        messages = subst (λ (l : List Float). HeldBy code l (sent dec ans)) (sym (ap (λ (p : Pass). p.work) bits)) kept;
        decision = decision;
        counted = counted_word (checks_by code) word found (subst (λ (x : Word). Below 2 x) (sym decision) (word_bits dec ans)) counts;
      }
