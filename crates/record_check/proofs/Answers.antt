-- What the check answers, of what the parts of it find: where the numbers or the lengths are refused, and where they are not. Assumes nothing.
use Rattle.std.proofs.Common.{◌≡◌, ℕ, List, length, sym, ap, ◌∙◌}
use Rattle.std.proofs.lemmas.List.{length-map}
use Rattle.refusal.specs.Outcome.{Outcome, refused}
use Rattle.refusal.proofs.Judged.{verdict, nothing}
use Rattle.numbered.specs.Codes.{size_n}
use Rattle.batch_refusals.specs.Refusals.{head_refusals, pair_refusals, refusals_of}
use Rattle.batch_refusals.specs.declared.Room.{Room}
use Rattle.batch_refusals.proofs.Whole.{head-refused, head_passed}
use Rattle.record_check.specs.declared.Pair.{Pair}
use Rattle.record_check.specs.Fields.{pair_of, pairs_of}

module _ (code rule values : ℕ) (ys : List Pair) (r : Room) where
  abbrev Answer : Outcome Unit → Type 0
  Answer z = z ≡ verdict (refusals_of code rule values (pairs_of ys) r)

  found : {o : Outcome Unit} → o ≡ verdict (head_refusals code rule (length ys) r) → verdict (head_refusals code rule (length (pairs_of ys)) r) ≡ o
  found head = ap (λ (m : ℕ). verdict (head_refusals code rule m r)) (length-map ys pair_of) ∙ sym head

  pub refused-by : {k : ℕ} → refused k ≡ verdict (head_refusals code rule (length ys) r) → Answer (refused k)
  refused-by head = sym (head-refused code rule values (pairs_of ys) r _ (found head))

  pub by-pairs : nothing ≡ verdict (head_refusals code rule (length ys) r) → {n : ℕ} → n ≡ size_n code → {z : Outcome Unit}
      → z ≡ verdict (pair_refusals n values 0 (pairs_of ys)) → Answer z
  by-pairs head size z =
      z ∙ ap (λ (m : ℕ). verdict (pair_refusals m values 0 (pairs_of ys))) size ∙ sym (head_passed code rule values (pairs_of ys) r (found head))
