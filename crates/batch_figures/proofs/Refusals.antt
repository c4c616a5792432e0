-- The results of a batch are refused as the batch that wrote them: its list of conditions, at a rule that every code takes, an output that has its length and
-- enough work area, comes to the list here.
use mathlib.Core.Path.{◌≡◌, refl, ◌∙◌}
use mathlib.Core.Bool.{Bool, true, false, cond}
use Prim.Native.Nat.{ℕ, ◌*◌, ◌≤◌, ◌<◌}
use borrow.Author.Tests.{eq-eqb}
use lib.Dec.{eqb}
use lib.ListN.{length}
use Rattle.refusal.proofs.Judged.{verdict, nothing}
use Rattle.batch.specs.Codes.{size_n, size_k}
use Rattle.batch.specs.Pairs.{AllWithin}
use Rattle.batch.specs.Calls.{rule_not_of_code, refusals_of}
use Rattle.batch_refusals.specs.declared.Room.{Room}
use Rattle.batch.proofs.Whole.{all-good, all-inside}
use Rattle.batch_figures.specs.Results.{Results, result_refusals}

-- rule 0 is every code's
every_code : (code : ℕ) → rule_not_of_code code 0 ≡ false
unfolding rule_not_of_code
every_code code = by (eqb code 3)
  where
    by : (b : Bool) → cond b false false ≡ false
    by true = refl
    by false = refl

-- the room that is tested: the outputs handed over, and a fourth of `firsts` places
abbrev pub room_with : Results → ℕ → Room
room_with r firsts = record { bits = length r.bits; counts = length r.counts; rounds = length r.rounds; firsts = firsts; work = 3070 }

module _ (r : Results) where
  pub as-batch : (firsts : ℕ) → firsts ≡ length r.pairs
      → verdict (refusals_of r.code 0 (length r.values) r.pairs (room_with r firsts)) ≡ verdict (result_refusals r)
  unfolding refusals_of result_refusals
  as-batch firsts e = rw (every_code r.code, eq-eqb firsts (length r.pairs) e)

  -- what results that pass have
  pub record Fitting : Type 0 where
    pub known : r.code < 4
    pub few : length r.pairs ≤ 24
    pub bits : length r.bits ≡ length r.pairs * size_k r.code
    pub counts : length r.counts ≡ length r.pairs
    pub rounds : length r.rounds ≡ length r.pairs
    pub inside : AllWithin (size_n r.code) (length r.values) r.pairs

  pub fitting : verdict (result_refusals r) ≡ nothing → Fitting
  fitting v =
      let room = room_with r (length r.pairs) in
      let all = as-batch (length r.pairs) refl ∙ v in
      let good = all-good r.code 0 (length r.values) r.pairs room all in
      record {
        known = good.known;
        few = good.few;
        bits = good.bits;
        counts = good.counts;
        rounds = good.rounds;
        inside = all-inside r.code 0 (length r.values) r.pairs room all;
      }
