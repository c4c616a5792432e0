-- The call that says whether one frame is clean: when it is refused, and what it answers otherwise.
use Rattle.std.specs.Prelude.{not, cond, List, [], ◌∷◌, ℕ, eqb, ltb, Float, length}
use Rattle.refusal.specs.Outcome.{Condition, ◌when◌}
use Rattle.batch.specs.Codes.{size_n, size_k}
use Rattle.clean.specs.Clean.{frame_clean}

-- "1: code not .. 0-3"; "4: input not its fixed length": N values and K bits
unfoldable pub frame_refusals : ℕ → List Float → List ℕ → List Condition
frame_refusals code values bits = (1 when ltb 3 code) ∷ (4 when not (eqb (length values) (size_n code))) ∷ (4 when not (eqb (length bits) (size_k code))) ∷ []

-- 1 where the frame is clean, and 0 where it is not
unfoldable pub clean_number : ℕ → List Float → ℕ → List ℕ → ℕ
clean_number code values count bits = cond (frame_clean code values count bits) 1 0
