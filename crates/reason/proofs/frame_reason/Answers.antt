-- `reason::frame_reason` meets its contract: each refusal by its test, and the reason. Assumes nothing.
use mathlib.Core.Path.{sym, ◌∙◌}
use Prim.Native.Nat.{◌≤◌}
use native.Mathlib.Omega.{arith}
use borrow.Author.Tests.{lt-ltb, le-ltb, eq-eqb, ne_eqb}
use Rattle.refusal.proofs.Exits.{exit}
use Rattle.numbered.proofs.Numbers.{known_number}
use Rattle.reason.specs.Calls.{asked, refusals}
use Rattle.reason.proofs.Answers.{turned_down, explained, all_right}
use Rattle.reason.proofs.frame_reason.Goals as goal

pub returns-in_err-known : goal.returns-in_err-known
unfolding refusals
returns-in_err-known c =
    let a = c.args in
    let call = asked a.code a.rule a.scale a.limit a.values.now a.word.now a.work.now in
    rw (exit c.from_residual.result _ c.from_residual.ensures.1, c.in_err-known.ensures.0)
    (turned_down call 1 (simp (lt-ltb _ _ c.in_err-known.ensures.1)))

pub returns-then-rule-gt4 : goal.returns-then-rule-gt4
unfolding refusals
returns-then-rule-gt4 c =
    let a = c.args in
    let known = known_number _ _ c.in_ok-known.ensures in
    let call = asked a.code a.rule a.scale a.limit a.values.now a.word.now a.work.now in
    turned_down call 2 (simp (le-ltb _ _ known, lt-ltb _ _ c.if-rule-gt4.true))

pub returns-then-rule_not_of_code : goal.returns-then-rule_not_of_code
unfolding refusals
returns-then-rule_not_of_code c =
    let a = c.args in
    let known = known_number _ _ c.in_ok-known.ensures in
    let rule : a.rule ≤ 4 = omega arith in
    let call = asked a.code a.rule a.scale a.limit a.values.now a.word.now a.work.now in
    let other = sym c.rule_not_of_code.ensures ∙ c.if-rule_not_of_code.true in
    turned_down call 3 (simp (le-ltb _ _ known, le-ltb _ _ rule, other))

pub returns-then-values-n : goal.returns-then-values-n
unfolding refusals
returns-then-values-n c =
    let a = c.args in
    let known = known_number _ _ c.in_ok-known.ensures in
    let size = rw c.in_ok-known.ensures at c.n-n.ensures in
    let rule : a.rule ≤ 4 = omega arith in
    let call = asked a.code a.rule a.scale a.limit a.values.now a.word.now a.work.now in
    let own = sym c.rule_not_of_code.ensures ∙ c.if-rule_not_of_code.false in
    let wrong = ne_eqb _ _ (λ e. c.if-values-n.true (e ∙ sym size)) in
    turned_down call 4 (simp (le-ltb _ _ known, le-ltb _ _ rule, own, wrong))

pub returns-then-word-n : goal.returns-then-word-n
unfolding refusals
returns-then-word-n c =
    let a = c.args in
    let known = known_number _ _ c.in_ok-known.ensures in
    let size = rw c.in_ok-known.ensures at c.n-n.ensures in
    let rule : a.rule ≤ 4 = omega arith in
    let call = asked a.code a.rule a.scale a.limit a.values.now a.word.now a.work.now in
    let own = sym c.rule_not_of_code.ensures ∙ c.if-rule_not_of_code.false in
    let values = eq-eqb _ _ (c.if-values-n.false ∙ size) in
    let wrong = ne_eqb _ _ (λ e. c.if-word-n.true (e ∙ sym size)) in
    turned_down call 8 (simp (le-ltb _ _ known, le-ltb _ _ rule, own, values, wrong))

pub returns-then-work-lt-WORK : goal.returns-then-work-lt-WORK
unfolding refusals
returns-then-work-lt-WORK c =
    let a = c.args in
    let known = known_number _ _ c.in_ok-known.ensures in
    let size = rw c.in_ok-known.ensures at c.n-n.ensures in
    let rule : a.rule ≤ 4 = omega arith in
    let call = asked a.code a.rule a.scale a.limit a.values.now a.word.now a.work.now in
    let own = sym c.rule_not_of_code.ensures ∙ c.if-rule_not_of_code.false in
    let values = eq-eqb _ _ (c.if-values-n.false ∙ size) in
    let word = eq-eqb _ _ (c.if-word-n.false ∙ size) in
    turned_down call 9
    (simp (le-ltb _ _ known, le-ltb _ _ rule, own, values, word, lt-ltb _ _ c.if-work-lt-WORK.true))

pub returns : goal.returns
returns c =
    let a = c.args in
    let known = known_number _ _ c.in_ok-known.ensures in
    let size = rw c.in_ok-known.ensures at c.n-n.ensures in
    let rule : a.rule ≤ 4 = omega arith in
    let call = asked a.code a.rule a.scale a.limit a.values.now a.word.now a.work.now in
    let own = sym c.rule_not_of_code.ensures ∙ c.if-rule_not_of_code.false in
    let values = c.if-values-n.false ∙ size in
    let word = c.if-word-n.false ∙ size in
    let right = all_right call known rule own values word c.if-work-lt-WORK.false in
    let e = rw c.in_ok-known.ensures at c.find_reason.ensures in
    explained call right _ _ _ e.value e.word_after e.work_after
