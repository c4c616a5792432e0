-- `erasure::fill_erasures` meets its contract: each code's flat tables hold its checks, and any other number is refused. Assumes nothing.
use Rattle.std.proofs.Common.{◌≡◌, ◌<◌, sym, ap, ◌∙◌, arith}
use borrow.Author.Tests.{lt-ltb}
use Rattle.construction.specs.Codes.{n512r12, n576r23, n512r34}
use Rattle.staircase.proofs.Laid.{check-bits-right, check-starts-right}
use Rattle.n512r12.proofs.Tables.{check_starts0, check_bits0, laid0}
use Rattle.n576r23.proofs.Tables.{check_starts1, check_bits1, laid1}
use Rattle.n512r34.proofs.Tables.{check_starts2, check_bits2, laid2}
use Rattle.code174.proofs.Arrays.{check_start, check_bits}
use Rattle.code174.proofs.Graph.{flat, laid}
use Rattle.ldpc_codes.proofs.Laid.{laid_flat}
use Rattle.refusal.specs.Outcome.{refused}
use Rattle.refusal.specs.Numbers.{number_of}
use Rattle.refusal.specs.declared.Refusal.{Refusal}
use Rattle.refusal.proofs.Exits.{exit}
use Rattle.numbered.specs.Numbers.{code_number}
use Rattle.numbered.specs.Codes.{size_n, checks_by}
use Rattle.erasure.specs.Calls.{erasure_refusals}
use Rattle.erasure.proofs.Answers.{staircase-rows, at-checks}
use Rattle.erasure.proofs.fill_erasures.Goals as goal

pub fill_over-requires : goal.fill_over-requires
unfolding check_starts0 check_bits0
fill_over-requires c = record {
  flat_checks = laid_flat n512r12 check_starts0 check_bits0 (check-starts-right laid0) (check-bits-right laid0) (omega arith);
  n_bound = omega arith;
}

pub returns-in-N512R12 : goal.returns-in-N512R12
unfolding size_n checks_by check_starts0 check_bits0
returns-in-N512R12 c =
    let w = c.args.word.now in
    let l = c.args.places.now in
    let rows = staircase-rows n512r12 check_starts0 check_bits0 (check-starts-right laid0) (check-bits-right laid0) in
    let f = at-checks _ _ rows (erasure_refusals 0 w l) w l c.fill_over.ensures in
    let e : c.args.code ≡ 0 = sym c.in_ok-known.ensures ∙ ap code_number c.in-N512R12.is in
    record { result_value = rw e f.0; word_after = rw e f.1.0; places_after = rw e f.1.1 }

pub fill_over-requires-in-N576R23 : goal.fill_over-requires-in-N576R23
unfolding check_starts1 check_bits1
fill_over-requires-in-N576R23 c = record {
  flat_checks = laid_flat n576r23 check_starts1 check_bits1 (check-starts-right laid1) (check-bits-right laid1) (omega arith);
  n_bound = omega arith;
}

pub returns-in-N576R23 : goal.returns-in-N576R23
unfolding size_n checks_by check_starts1 check_bits1
returns-in-N576R23 c =
    let w = c.args.word.now in
    let l = c.args.places.now in
    let rows = staircase-rows n576r23 check_starts1 check_bits1 (check-starts-right laid1) (check-bits-right laid1) in
    let f = at-checks _ _ rows (erasure_refusals 1 w l) w l c.fill_over-in-N576R23.ensures in
    let e : c.args.code ≡ 1 = sym c.in_ok-known.ensures ∙ ap code_number c.in-N576R23.is in
    record { result_value = rw e f.0; word_after = rw e f.1.0; places_after = rw e f.1.1 }

pub fill_over-requires-in-N512R34 : goal.fill_over-requires-in-N512R34
unfolding check_starts2 check_bits2
fill_over-requires-in-N512R34 c = record {
  flat_checks = laid_flat n512r34 check_starts2 check_bits2 (check-starts-right laid2) (check-bits-right laid2) (omega arith);
  n_bound = omega arith;
}

pub returns-in-N512R34 : goal.returns-in-N512R34
unfolding size_n checks_by check_starts2 check_bits2
returns-in-N512R34 c =
    let w = c.args.word.now in
    let l = c.args.places.now in
    let rows = staircase-rows n512r34 check_starts2 check_bits2 (check-starts-right laid2) (check-bits-right laid2) in
    let f = at-checks _ _ rows (erasure_refusals 2 w l) w l c.fill_over-in-N512R34.ensures in
    let e : c.args.code ≡ 2 = sym c.in_ok-known.ensures ∙ ap code_number c.in-N512R34.is in
    record { result_value = rw e f.0; word_after = rw e f.1.0; places_after = rw e f.1.1 }

pub fill_over-requires-in-Ft8 : goal.fill_over-requires-in-Ft8
unfolding check_start check_bits
fill_over-requires-in-Ft8 c = record { flat_checks = flat; n_bound = omega arith }

pub returns-in-Ft8 : goal.returns-in-Ft8
unfolding size_n checks_by check_start check_bits
returns-in-Ft8 c =
    let w = c.args.word.now in
    let l = c.args.places.now in
    let f = at-checks _ _ laid (erasure_refusals 3 w l) w l c.fill_over-in-Ft8.ensures in
    let e : c.args.code ≡ 3 = sym c.in_ok-known.ensures ∙ ap code_number c.in-Ft8.is in
    record { result_value = rw e f.0; word_after = rw e f.1.0; places_after = rw e f.1.1 }

pub returns-in_err-known : goal.returns-in_err-known
returns-in_err-known c =
    let h : 3 < c.args.code = c.in_err-known.ensures.1 in
    let told = exit c.from_residual.result _ c.from_residual.ensures.1 ∙ ap (λ (r : Refusal). refused (number_of r)) c.in_err-known.ensures.0 in
    record { result_value = told ∙ simp (lt-ltb _ _ h); word_after = simp (lt-ltb _ _ h); places_after = simp (lt-ltb _ _ h) }
