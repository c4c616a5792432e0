-- `ldpc_encoding::ldpc_encode` meets its contract: each refusal by the test that it makes, and the codeword byte by byte.
use mathlib.Core.Path.{sym, ◌∙◌}
use native.Mathlib.Omega.{arith}
use borrow.Author.Tests.{eq-eqb, ne_eqb}
use lib.Seq.{ext_get_or}
use Rattle.bits.proofs.Digits.{Bytes}
use Rattle.ldpc_encoding.specs.Tables.{generator}
use Rattle.ldpc_encoding.proofs.Codeword.{codeword-at, codeword_length}
use Rattle.ldpc_encoding.proofs.ldpc_encode.Goals as goal

pub returns-then-message-ne-K_BYTES : goal.returns-then-message-ne-K_BYTES
returns-then-message-ne-K_BYTES c = record {
  result_value = simp (ne_eqb _ _ c.if-message-ne-K_BYTES.true);
  codeword_after = simp
      (ne_eqb _ _ c.if-message-ne-K_BYTES.true);
}

pub returns-then-message-ne0 : goal.returns-then-message-ne0
returns-then-message-ne0 c = let twelve = c.if-message-ne-K_BYTES.false in
    let slack = c.if-message-ne0.true in
    record { result_value = simp (eq-eqb _ _ twelve, ne_eqb _ _ slack); codeword_after = simp (eq-eqb _ _ twelve, ne_eqb _ _ slack) }

pub returns-then-codeword-ne-N_BYTES : goal.returns-then-codeword-ne-N_BYTES
returns-then-codeword-ne-N_BYTES c = let twelve = c.if-message-ne-K_BYTES.false in
    let slack = c.if-message-ne0.false in
    let other = c.if-codeword-ne-N_BYTES.true in
    record {
      result_value = simp (eq-eqb _ _ twelve, eq-eqb _ _ slack, ne_eqb _ _ other);
      codeword_after = simp
          (eq-eqb _ _ twelve, eq-eqb _ _ slack, ne_eqb _ _ other);
    }

pub returns : goal.returns
unfolding generator
returns c =
    let message = c.args.message.now in
    let twelve = c.if-message-ne-K_BYTES.false in
    let slack = c.if-message-ne0.false in
    let size = c.if-codeword-ne-N_BYTES.false in
    let bytes : Bytes message = λ i. omega (arith, c.type_inv.message i) in
    let written = c.fill.ensures in
    record {
      result_value = simp (eq-eqb _ _ twelve, eq-eqb _ _ slack, eq-eqb _ _ size);
      codeword_after = simp (eq-eqb _ _ twelve, eq-eqb _ _ slack, eq-eqb _ _ size)
          (ext_get_or 0 _ _ (written.codeword_len ∙ sym (codeword_length message))
          (λ i h. written.by_index i (omega (arith, written.codeword_len)) ∙ sym
          (codeword-at message twelve bytes slack i (omega (arith, written.codeword_len)))));
    }
