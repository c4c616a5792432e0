-- Answers known beforehand, computed.
use mathlib.Core.Path.{◌≡◌, refl}
use mathlib.Core.List.{[], ◌∷◌}
use Rattle.text.specs.Text.{leading}
use Rattle.digits.specs.Digits.{digits_from, digits, read_after, read_back}

-- 0 and 10, and the largest u32 and u64
small : (digits 0 ≡ 48 ∷ []) × (digits 10 ≡ 49 ∷ 48 ∷ [])
unfolding digits digits_from leading
small = (refl, refl)

large : (read_back (digits 4294967295) ≡ 4294967295) × (read_back (digits 18446744073709551615) ≡ 18446744073709551615)
unfolding digits digits_from leading read_after
large = (refl, refl)
