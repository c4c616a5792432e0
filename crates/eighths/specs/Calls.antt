-- The two calls of the converter (change request N10): when each is refused, and what it writes otherwise.
use Rattle.std.specs.Prelude.{Bool, false, not, ◌||◌, List, [], ◌∷◌, map, eqb, ℤ, Float, length}
use Rattle.refusal.specs.Outcome.{Condition, ◌when◌}
use Rattle.soft_bytes.specs.Values.{is_least, value_of, passes, byte_of}

-- whether the test holds of some entry
unfoldable pub some : {A : Type 0} → (A → Bool) → List A → Bool
some test [] = false
some test (x ∷ xs) = test x || some test xs

-- "4 stands where the two lengths differ", then "17 when a byte is -128"
unfoldable pub bytes_refusals : List ℤ → List Float → List Condition
bytes_refusals bytes values = (4 when not (eqb (length bytes) (length values))) ∷ (17 when some is_least bytes) ∷ []

-- "4 stands where the two lengths differ", then "18 when a float does not pass"
unfoldable pub values_refusals : List Float → List ℤ → List Condition
values_refusals values bytes = (4 when not (eqb (length values) (length bytes))) ∷ (18 when some (λ v. not (passes v)) values) ∷ []

-- one value a byte, and one byte a value
unfoldable pub values_of : Bool → List ℤ → List Float
values_of positive_is_one bytes = map (value_of positive_is_one) bytes

unfoldable pub bytes_of : Bool → List Float → List ℤ
bytes_of positive_is_one values = map (byte_of positive_is_one) values
