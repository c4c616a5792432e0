-- `ldpc_codes::encode` meets its contract: each way out by the tests that led there. Assumes nothing.
use mathlib.Core.Path.{sym, ◌∙◌}
use Prim.Native.Nat.{◌≤◌, ◌<◌}
use native.Mathlib.Omega.{arith}
use borrow.Author.Tests.{lt-ltb, le-ltb, eq-eqb, ne_eqb}
use Rattle.ldpc_codes.proofs.encode.Goals as goal

pub returns-then-code-gt2 : goal.returns-then-code-gt2
returns-then-code-gt2 c = let h : 3 ≤ c.args.code = omega (arith, c.if-code-gt2.true) in
    record { result_value = simp (le-ltb _ _ h); codeword_after = simp (le-ltb _ _ h) }

pub returns-then-message-bits_of : goal.returns-then-message-bits_of
returns-then-message-bits_of c = let h : c.args.code < 3 = omega (arith, c.if-code-gt2.false) in
    let k = lt-ltb _ _ h in
    let t = ne_eqb _ _ (λ e. c.if-message-bits_of.true (e ∙ sym c.bits_of.ensures)) in
    record { result_value = simp (k, t); codeword_after = simp (k, t) }

pub returns-then-codeword-values_of : goal.returns-then-codeword-values_of
returns-then-codeword-values_of c = let h : c.args.code < 3 = omega (arith, c.if-code-gt2.false) in
    let k = lt-ltb _ _ h in
    let s = eq-eqb _ _ (c.if-message-bits_of.false ∙ c.bits_of.ensures) in
    let t = ne_eqb _ _ (λ e. c.if-codeword-values_of.true (e ∙ sym c.values_of.ensures)) in
    record { result_value = simp (k, s, t); codeword_after = simp (k, s, t) }

pub encode-requires : goal.encode-requires
encode-requires c = record {
  message_len = c.if-message-bits_of.false ∙ c.bits_of.ensures;
  codeword_len = c.if-codeword-values_of.false ∙ c.values_of.ensures;
}

pub returns : goal.returns
returns c = let h : c.args.code < 3 = omega (arith, c.if-code-gt2.false) in
    let k = lt-ltb _ _ h in
    let s = eq-eqb _ _ (c.if-message-bits_of.false ∙ c.bits_of.ensures) in
    let t = eq-eqb _ _ (c.if-codeword-values_of.false ∙ c.values_of.ensures) in
    record { result_value = simp (k, s, t); codeword_after = simp (k, s, t) c.encode.ensures }
