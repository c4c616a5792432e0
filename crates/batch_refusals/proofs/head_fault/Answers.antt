-- `batch_refusals::head_fault` meets its contract, test by test. Assumes nothing.
use mathlib.Core.Path.{◌≡◌, sym, ap, ◌∙◌}
use borrow.Author.Tests.{lt-ltb, le-ltb, eq-eqb, ne_eqb}
use native.Mathlib.Omega.{arith}
use Prim.Native.Nat.{ℕ, ◌*◌, ◌≤◌}
use Rattle.numbered.specs.Codes.{size_k}
use Rattle.batch_refusals.proofs.Sizes.{product_small}
use Rattle.batch_refusals.proofs.head_fault.Goals as goal

pub returns-then-rule-gt4 : goal.returns-then-rule-gt4
returns-then-rule-gt4 c = let known : c.args.code ≤ 3 = omega arith in simp (le-ltb _ _ known, lt-ltb _ _ c.if-rule-gt4.true)

pub returns-then-rule_not_of_code : goal.returns-then-rule_not_of_code
returns-then-rule_not_of_code c = let known : c.args.code ≤ 3 = omega arith in simp (
  le-ltb _ _ known,
  le-ltb _ _ c.if-rule-gt4.false,
  sym c.rule_not_of_code.ensures ∙ c.if-rule_not_of_code.true,
)

pub returns-then-pairs-gt-MOST_PAIRS : goal.returns-then-pairs-gt-MOST_PAIRS
returns-then-pairs-gt-MOST_PAIRS c = let known : c.args.code ≤ 3 = omega arith in simp (
  le-ltb _ _ known,
  le-ltb _ _ c.if-rule-gt4.false,
  sym c.rule_not_of_code.ensures ∙ c.if-rule_not_of_code.false,
  lt-ltb _ _ c.if-pairs-gt-MOST_PAIRS.true,
)

pub overflow_mul-pairs : goal.overflow_mul-pairs
overflow_mul-pairs c =
    let room : c.args.pairs * c.message_bits.result ≡ c.args.pairs * size_k c.args.code =
    ap (λ (k : ℕ). c.args.pairs * k) c.message_bits.ensures in
    omega (arith, room, product_small c.args.pairs c.args.code c.if-pairs-gt-MOST_PAIRS.false)

pub returns-then-room-pairs : goal.returns-then-room-pairs
returns-then-room-pairs c = let known : c.args.code ≤ 3 = omega arith in simp (
  le-ltb _ _ known,
  le-ltb _ _ c.if-rule-gt4.false,
  sym c.rule_not_of_code.ensures ∙ c.if-rule_not_of_code.false,
  le-ltb _ _ c.if-pairs-gt-MOST_PAIRS.false,
  ne_eqb _ _ (λ e. c.if-room-pairs.true (e ∙ sym (ap (λ (k : ℕ). c.args.pairs * k) c.message_bits.ensures))),
)

pub returns-then-room-pairs-2 : goal.returns-then-room-pairs-2
returns-then-room-pairs-2 c = let known : c.args.code ≤ 3 = omega arith in simp (
  le-ltb _ _ known,
  le-ltb _ _ c.if-rule-gt4.false,
  sym c.rule_not_of_code.ensures ∙ c.if-rule_not_of_code.false,
  le-ltb _ _ c.if-pairs-gt-MOST_PAIRS.false,
  eq-eqb _ _ (c.if-room-pairs.false ∙ ap (λ (k : ℕ). c.args.pairs * k) c.message_bits.ensures),
  ne_eqb _ _ c.if-room-pairs-2.true,
)

pub returns-then-room-pairs-3 : goal.returns-then-room-pairs-3
returns-then-room-pairs-3 c = let known : c.args.code ≤ 3 = omega arith in simp (
  le-ltb _ _ known,
  le-ltb _ _ c.if-rule-gt4.false,
  sym c.rule_not_of_code.ensures ∙ c.if-rule_not_of_code.false,
  le-ltb _ _ c.if-pairs-gt-MOST_PAIRS.false,
  eq-eqb _ _ (c.if-room-pairs.false ∙ ap (λ (k : ℕ). c.args.pairs * k) c.message_bits.ensures),
  eq-eqb _ _ c.if-room-pairs-2.false,
  ne_eqb _ _ c.if-room-pairs-3.true,
)

pub returns-then-room-pairs-4 : goal.returns-then-room-pairs-4
returns-then-room-pairs-4 c = let known : c.args.code ≤ 3 = omega arith in simp (
  le-ltb _ _ known,
  le-ltb _ _ c.if-rule-gt4.false,
  sym c.rule_not_of_code.ensures ∙ c.if-rule_not_of_code.false,
  le-ltb _ _ c.if-pairs-gt-MOST_PAIRS.false,
  eq-eqb _ _ (c.if-room-pairs.false ∙ ap (λ (k : ℕ). c.args.pairs * k) c.message_bits.ensures),
  eq-eqb _ _ c.if-room-pairs-2.false,
  eq-eqb _ _ c.if-room-pairs-3.false,
  ne_eqb _ _ c.if-room-pairs-4.true,
)

pub returns-then-room-lt-WORK : goal.returns-then-room-lt-WORK
returns-then-room-lt-WORK c = let known : c.args.code ≤ 3 = omega arith in simp (
  le-ltb _ _ known,
  le-ltb _ _ c.if-rule-gt4.false,
  sym c.rule_not_of_code.ensures ∙ c.if-rule_not_of_code.false,
  le-ltb _ _ c.if-pairs-gt-MOST_PAIRS.false,
  eq-eqb _ _ (c.if-room-pairs.false ∙ ap (λ (k : ℕ). c.args.pairs * k) c.message_bits.ensures),
  eq-eqb _ _ c.if-room-pairs-2.false,
  eq-eqb _ _ c.if-room-pairs-3.false,
  eq-eqb _ _ c.if-room-pairs-4.false,
  lt-ltb _ _ c.if-room-lt-WORK.true,
)

pub returns : goal.returns
returns c = let known : c.args.code ≤ 3 = omega arith in simp (
  le-ltb _ _ known,
  le-ltb _ _ c.if-rule-gt4.false,
  sym c.rule_not_of_code.ensures ∙ c.if-rule_not_of_code.false,
  le-ltb _ _ c.if-pairs-gt-MOST_PAIRS.false,
  eq-eqb _ _ (c.if-room-pairs.false ∙ ap (λ (k : ℕ). c.args.pairs * k) c.message_bits.ensures),
  eq-eqb _ _ c.if-room-pairs-2.false,
  eq-eqb _ _ c.if-room-pairs-3.false,
  eq-eqb _ _ c.if-room-pairs-4.false,
  le-ltb _ _ c.if-room-lt-WORK.false,
)
