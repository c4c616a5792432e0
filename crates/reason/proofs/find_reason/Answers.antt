-- `reason::find_reason` meets its contract: the decode gives the chosen word whole and its first unsatisfied check, the work area is cleared, and the
-- rest is looked at. Assumes nothing.
use mathlib.Core.Path.{◌≡◌, sym, ◌∙◌}
use Prim.Native.Nat.{ℕ}
use native.Mathlib.Omega.{arith}
use lib.ListN.{length}
use Rattle.numbered.specs.Numbers.{code_number}
use Rattle.batch.specs.Codes.{size_n}
use Rattle.batch.proofs.Sizes.{size_small, values_ft8}
use Rattle.reason.proofs.Word.{word-whole, reason-is}
use Rattle.reason.proofs.find_reason.Goals as goal

-- code 3 has 174 places
ft8 : (code : ℕ) → code ≡ 3 → 174 ≡ size_n code
ft8 code e = values_ft8 code (omega arith)

pub reason_of-requires : goal.reason_of-requires
reason_of-requires c =
    let n = (size_small (code_number c.args.code)).values in
    record { values_len_bound = omega (arith, c.requires.values_len); in_bounds = λ e. omega (arith, c.requires.word_len, ft8 _ (sym c.from.ensures ∙ e)) }

pub returns : goal.returns
returns c =
    let a = c.args in
    let chose = c.decode_frame-told.ensures.chose in
    -- as many places as values
    let places : length a.word.now ≡ length a.values.now = c.requires.word_len ∙ sym c.requires.values_len in
    record {
      value = rw c.from.ensures at c.reason_of.ensures ∙ reason-is (code_number a.code) a.rule a.scale a.values.now a.limit _ _ _ chose places;
      word_after = word-whole (code_number a.code) a.rule a.scale a.values.now a.limit _ _ _ chose places;
      work_after = c.clear_area.ensures ∙ c.decode_frame-told.ensures.work_unchanged;
    }
