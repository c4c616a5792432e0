-- What the call answers and leaves where it is refused and where it is accepted. Assumes nothing.
use mathlib.Core.Path.{◌≡◌, sym, ap, ◌∙◌}
use mathlib.Core.Bool.{false}
use mathlib.Core.List.{List}
use Prim.Native.Nat.{ℕ, ◌≤◌}
use borrow.Author.Tests.{le-ltb, eq-eqb}
use lib.Ieee.{Float}
use lib.ListN.{length}
use Rattle.refusal.specs.Outcome.{accepted, refused}
use Rattle.refusal.proofs.Judged.{verdict, nothing, judged_accepted, judged_refused, kept_accepted, kept_refused}
use Rattle.rounds.specs.Rounds.{chosen}
use Rattle.work_area.specs.Area.{cleared}
use Rattle.batch.specs.Codes.{size_n, decode_of}
use Rattle.batch.specs.Calls.{rule_not_of_code}
use Rattle.first_reason.specs.declared.Reason.{Reason}
use Rattle.reason.specs.Under.{reason_under}
use Rattle.reason.specs.Calls.{Asked, refusals, Answered}

module _ (a : Asked) where
  pub turned_down : (n : ℕ) → verdict (refusals a) ≡ refused n → Answered a (refused n) a.word a.work
  turned_down n e = record {
    says = sym (judged_refused (refusals a) _ n e);
    its_word = sym (kept_refused (refusals a) a.word _ n e);
    its_work = sym (kept_refused (refusals a) a.work _ n e);
  }

  pub explained : verdict (refusals a) ≡ nothing → (r : Reason) (word : List ℕ) (work : List Float)
      → r ≡ reason_under a.code a.rule a.scale a.values a.limit
      → word ≡ chosen (decode_of a.code a.rule a.scale a.values) a.limit → work ≡ cleared a.work → Answered a (accepted r) word work
  explained e r word work p q z = record {
    says = ap accepted p ∙ sym (judged_accepted (refusals a) _ e);
    its_word = q ∙ sym (kept_accepted (refusals a) a.word _ e);
    its_work = z ∙ sym (kept_accepted (refusals a) a.work _ e);
  }

  -- the numbers and the lengths are right
  pub all_right : a.code ≤ 3 → a.rule ≤ 4 → rule_not_of_code a.code a.rule ≡ false → length a.values ≡ size_n a.code
      → length a.word ≡ size_n a.code
      → 3070 ≤ length a.work → verdict (refusals a) ≡ nothing
  unfolding refusals
  all_right c r own v w k =
      simp (
        le-ltb 3 a.code c,
        le-ltb 4 a.rule r,
        own,
        eq-eqb (length a.values) (size_n a.code) v,
        eq-eqb (length a.word) (size_n a.code) w,
        le-ltb (length a.work) 3070 k,
      )
