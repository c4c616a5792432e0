-- `clean_frames::frame_clean` meets its contract: each refusal by its test, and then what is said of the frame. Assumes nothing.
use mathlib.Core.Path.{sym, ap, ◌∙◌}
use borrow.Author.Tests.{lt-ltb, le-ltb, eq-eqb, ne_eqb}
use Rattle.batch.specs.Codes.{size_k}
use Rattle.clean_frames.specs.Calls.{frame_refusals}
use Rattle.clean_frames.proofs.frame_clean.Goals as goal

pub returns-then-code-gt3 : goal.returns-then-code-gt3
unfolding frame_refusals
returns-then-code-gt3 c = simp (lt-ltb _ _ c.if-code-gt3.true)

pub returns-then-values-frame_values : goal.returns-then-values-frame_values
unfolding frame_refusals
returns-then-values-frame_values c =
    simp (le-ltb _ _ c.if-code-gt3.false, ne_eqb _ _ (λ h. c.if-values-frame_values.true (h ∙ sym c.frame_values.ensures)))

pub returns-then-bits-message_bits : goal.returns-then-bits-message_bits
unfolding frame_refusals
returns-then-bits-message_bits c =
    let values = eq-eqb _ _ (c.if-values-frame_values.false ∙ c.frame_values.ensures) in
    simp (le-ltb _ _ c.if-code-gt3.false, values, ne_eqb _ _ (λ h. c.if-bits-message_bits.true (h ∙ sym c.message_bits.ensures)))

pub is_clean-requires : goal.is_clean-requires
unfolding size_k
is_clean-requires c = λ h. c.if-bits-message_bits.false ∙ c.message_bits.ensures ∙ ap size_k h

pub returns : goal.returns
unfolding frame_refusals
returns c =
    let values = eq-eqb _ _ (c.if-values-frame_values.false ∙ c.frame_values.ensures) in
    let bits = eq-eqb _ _ (c.if-bits-message_bits.false ∙ c.message_bits.ensures) in
    simp (le-ltb _ _ c.if-code-gt3.false, values, bits, c.is_clean.ensures)
