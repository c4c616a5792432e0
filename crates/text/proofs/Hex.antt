-- The loop over the bits, eight at a time: the bytes of the bits that are left. A byte is read of its eight bits, and of zeros past the last; so the front
-- eight and the rest are read alone as they are read in the whole. By induction over the bytes.
use Rattle.std.proofs.Common.{◌≡◌, ℕ, zero, suc, ◌+◌, ◌/◌, ◌<◌, min, List, [], ◌++◌, length, get_or, inl, inr, refl, sym, ap, ◌∙◌}
use Rattle.std.proofs.Common.{arith, add-zero, zero-add, add_assoc, length-append}
use Rattle.std.proofs.lemmas.List.{get_or_append_left, get_or-append-add, get_or_past}
use Rattle.std.proofs.lemmas.Bool.{cases_lt}
use Rattle.text.specs.Text.{byte_at, hex_byte, hex_from, hex}

pub hex-none : (bits : List ℕ) → length bits ≡ 0 → hex bits ≡ []
unfolding hex hex_from
hex-none bits e = rw e

-- eight bits that stand from i on in one list and from j on in another
byte_same : (xs ys : List ℕ) (i j : ℕ) → ((k : ℕ) → k < 8 → get_or xs (i + k) 0 ≡ get_or ys (j + k) 0) → byte_at xs i ≡ byte_at ys j
unfolding byte_at
byte_same xs ys i j same =
    let bit : (k : ℕ) → k < 8 → get_or xs (i + k) 0 ≡ get_or ys (j + k) 0 = same in
    let first = rw (add-zero i, add-zero j) at (same 0 (omega arith)) in
    simp (
      first,
      bit 1 (omega arith),
      bit 2 (omega arith),
      bit 3 (omega arith),
      bit 4 (omega arith),
      bit 5 (omega arith),
      bit 6 (omega arith),
      bit 7 (omega arith),
    )

from_same : (n : ℕ) (xs ys : List ℕ) (i j : ℕ) → ((k : ℕ) → get_or xs (i + k) 0 ≡ get_or ys (j + k) 0) → hex_from xs i n ≡ hex_from ys j n
unfolding hex_from
from_same zero xs ys i j same = refl
from_same (suc n) xs ys i j same =
    cc (byte_same xs ys i j (λ k _. same k), from_same n xs ys (i + 8) (j + 8) (λ k. rw (add_assoc i 8 k, add_assoc j 8 k) (same (8 + k))))

module _ (bits eight rest : List ℕ) (whole : bits ≡ eight ++ rest) (size : length eight ≡ min 8 (length bits)) where
  sizes : length bits ≡ length eight + length rest
  sizes = ap length whole ∙ length-append eight rest

  front_same : (k : ℕ) → k < 8 → get_or bits k 0 ≡ get_or eight k 0
  front_same k h =
      elim (cases_lt k (length eight)) [
        | inl p ↦ ap (λ (l : List ℕ). get_or l k 0) whole ∙ get_or_append_left eight rest 0 k p
        | inr q ↦ get_or_past bits k 0 (omega (arith, size)) ∙ sym (get_or_past eight k 0 q)
      ]

  rest_same : (k : ℕ) → get_or bits (8 + k) 0 ≡ get_or rest k 0
  rest_same k =
      elim (cases_lt (length eight) 8) [
        | inl p ↦ get_or_past bits (8 + k) 0 (omega (arith, size)) ∙ sym (get_or_past rest k 0 (omega (arith, size, sizes)))
        | inr q ↦
            let full : length eight ≡ 8 = omega (arith, size) in
            ap (λ (l : List ℕ). get_or l (8 + k) 0) whole ∙ rw full at (get_or-append-add eight rest k 0)
      ]

  pub hex_more : 0 < length bits → hex bits ≡ hex_byte (byte_at eight 0) ++ hex rest
  unfolding hex hex_from
  hex_more some =
      let count : (length bits + 7) / 8 ≡ suc ((length rest + 7) / 8) = omega (arith, sizes, size) in
      let byte : byte_at bits 0 ≡ byte_at eight 0 = byte_same bits eight 0 0 (λ k h. rw zero-add (front_same k h)) in
      let last : hex_from bits 8 ((length rest + 7) / 8) ≡ hex_from rest 0 ((length rest + 7) / 8) =
      from_same _ bits rest 8 0 (λ k. rw zero-add (rest_same k)) in
      rw count (cc (byte, last))
