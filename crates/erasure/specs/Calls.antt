-- The mender's call (change request N7), "for all four codes": when it is refused.
use Rattle.std.specs.Prelude.{List, ◌∷◌, ℕ, ltb}
use Rattle.refusal.specs.Outcome.{Condition, ◌when◌}
use Rattle.tanner.specs.Checks.{Word}
use Rattle.numbered.specs.Codes.{size_n}
use Rattle.filling.specs.Calls.{word_refusals}

-- "a code above 3 gets 1"
abbrev pub erasure_refusals : ℕ → Word → List ℕ → List Condition
erasure_refusals code word places = (1 when ltb 3 code) ∷ word_refusals (size_n code) word places
