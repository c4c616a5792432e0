-- `ldpc_encoding::code_byte` meets its contract: each return is the case of the definition that its tests chose.
use borrow.Author.Tests.{lt-ltb, le-ltb, eq-eqb, ne_eqb}
use Rattle.ldpc_encoding.specs.Bytes.{code_byte}
use Rattle.ldpc_encoding.proofs.code_byte.Goals as goal

pub returns-then-j-lt11 : goal.returns-then-j-lt11
unfolding code_byte
returns-then-j-lt11 c = simp (lt-ltb _ _ c.if-j-lt11.true)

pub returns-then-j-eq11 : goal.returns-then-j-eq11
unfolding code_byte
returns-then-j-eq11 c = simp (le-ltb _ _ c.if-j-lt11.false, eq-eqb _ _ c.if-j-eq11.true, c.parity_bits.ensures)

pub returns-then-j-eq21 : goal.returns-then-j-eq21
unfolding code_byte
returns-then-j-eq21 c = simp (le-ltb _ _ c.if-j-lt11.false, ne_eqb _ _ c.if-j-eq11.false, eq-eqb _ _ c.if-j-eq21.true, c.parity_bits-then-j-eq21.ensures)

pub returns : goal.returns
unfolding code_byte
returns c = simp (le-ltb _ _ c.if-j-lt11.false, ne_eqb _ _ c.if-j-eq11.false, ne_eqb _ _ c.if-j-eq21.false) c.parity_bits-2.ensures
