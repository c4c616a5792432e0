-- The pairs step by step: one pair tested. This is what the loops over the pairs are made of, and no promise to a customer: `proofs/Pairs.antt` carries it
-- to `Refusals.antt`.
use Rattle.std.specs.Prelude.{ℕ, ◌+◌}
use Rattle.refusal.specs.Outcome.{Outcome, accepted, refused, judged}
use Rattle.batch_refusals.specs.Pairs.{Pair}
use Rattle.batch_refusals.specs.Refusals.{pair_tests}

-- What the pairs so far come to, where the last of them ends or a refusal, with one pair more.
unfoldable pub next_seen : ℕ → ℕ → Outcome ℕ → Pair → Outcome ℕ
next_seen n values (accepted end) p = judged (pair_tests n values end p) (p.offset + p.size)
next_seen n values (refused k) p = refused k

-- where no pair is left
abbrev pub seen_all : Outcome ℕ → Outcome Unit
seen_all (accepted end) = accepted tt
seen_all (refused k) = refused k
