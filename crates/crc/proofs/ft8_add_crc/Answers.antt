-- `crc::ft8_add_crc` meets its contract: each refusal by the test that it makes, and the written block by the laws of its layout.
use mathlib.Core.List.{List}
use mathlib.Core.Path.{ap, ap₂, ◌∙◌}
use Prim.Native.Nat.{ℕ, ◌^◌, ◌<◌}
use native.Mathlib.Nat.{mod-lt}
use native.Mathlib.Omega.{arith}
use borrow.Author.Rules.{rules}
use borrow.Author.Tests.{eq-eqb, ne_eqb}
use lib.Pow.{pow_pos}
use Rattle.crc.specs.Bytes.{stored}
use Rattle.checksum.specs.Register.{register, crc14}
use Rattle.bits.proofs.Digits.{Bytes}
use Rattle.crc.proofs.Places.{laid-checksum, block-stored}
use Rattle.crc.proofs.ft8_add_crc.Goals as goal

-- only 14 bits are returned
crc14-lt : (m : List ℕ) (n : ℕ) → crc14 m n < 2 ^ 14
unfolding crc14
crc14-lt m n = mod-lt (register m n) (pow_pos 14)

pub returns-then-payload-ne10 : goal.returns-then-payload-ne10
returns-then-payload-ne10 c = record { result_value = simp (ne_eqb _ _ c.if-payload-ne10.true); a91_after = simp (ne_eqb _ _ c.if-payload-ne10.true) }

pub returns-then-a91-ne12 : goal.returns-then-a91-ne12
returns-then-a91-ne12 c = let ten = c.if-payload-ne10.false in
    let other = c.if-a91-ne12.true in
    record { result_value = simp (eq-eqb _ _ ten, ne_eqb _ _ other); a91_after = simp (eq-eqb _ _ ten, ne_eqb _ _ other) }

pub store_checksum-requires : goal.store_checksum-requires
store_checksum-requires c = (search rules, rw c.checksum_of-checksum.ensures (crc14-lt _ _))

pub returns : goal.returns
returns c =
    let ten = c.if-payload-ne10.false in
    let twelve = c.if-a91-ne12.false in
    let payload = c.args.payload.now in
    let bytes : Bytes payload = λ i. omega (arith, c.type_inv.payload i) in
    let lay = c.lay_payload.ensures in
    let sum = c.checksum_of-checksum.ensures ∙ ap (λ (l : List ℕ). crc14 l 82) lay ∙ laid-checksum payload ten bytes in
    record {
      result_value = simp (eq-eqb _ _ ten, eq-eqb _ _ twelve);
      a91_after = simp (eq-eqb _ _ ten, eq-eqb _ _ twelve) (c.store_checksum.ensures ∙ ap₂ stored lay sum ∙ block-stored payload ten bytes);
    }
