-- The block byte by byte and bit by bit are the same: nine whole bytes, and three that are taken apart.
use mathlib.Core.Path.{◌≡◌, refl, sym, ap, ap₂, ◌∙◌}
use mathlib.Core.List.{List, [], ◌∷◌, ◌++◌, append_assoc}
use Prim.Native.Nat.{ℕ, zero, suc, ◌+◌, ◌*◌, ◌/◌, ◌%◌, ◌^◌, ◌<◌, ◌≤◌}
use native.Mathlib.Nat.{zero-add, suc-add}
use native.Mathlib.Omega.{arith}
use lib.Bits.{bit_and, bit_or, and_high, and_mask, or_shifted}
use lib.ListN.{length, get_or, set, take, drop, replicate, length-append, take-append-drop, drop_of_length-le}
use lib.Pow.{mod-mod-pow}
use lib.Seq.{take-append-add, drop-append-add, get_or-append-add, get_or_at, drop-cons, length-take-le}
use Rattle.bits.specs.Bits.{bits_of, bits, number_after, number, packed}
use Rattle.crc.specs.Block.{payload_bits, block_checksum, block, carried}
use Rattle.crc.specs.Bytes.{laid, stored}
use Rattle.checksum.specs.Qex.{qex}
use Rattle.checksum.specs.Register.{crc14, unused}
use Rattle.checksum.proofs.Agreement.{register-qex}
use Rattle.bits.proofs.AreBits.{are_bits_append, are_bits_take, zeros_are}
use Rattle.checksum.proofs.Division.{qex-lt}
use Rattle.bits.proofs.Digits.{Bytes, bytes_take, bytes_append, bits_are, bits-length, bits_append}
use Rattle.bits.proofs.Digits.{take-upper, bits_of-split, number-bits, number_append, packed-bits}

-- the low three bits of a byte cleared
cleared : (x : ℕ) → x < 256 → bit_and x 0xF8 ≡ x / 8 * 8
cleared x h =
    let small : x / 2 ^ 3 % 2 ^ 5 * 2 ^ 3 ≡ x / 8 * 8 = omega arith in
    and_high x 5 3 ∙ small

low-zero : (h : ℕ) → bits_of 3 (h * 8) ≡ replicate 3 0
unfolding bits_of
low-zero h =
    let a : h * 8 / 2 ^ 2 % 2 ≡ 0 = omega arith in
    let b : h * 8 / 2 ^ 1 % 2 ≡ 0 = omega arith in
    let c : h * 8 / 2 ^ 0 % 2 ≡ 0 = omega arith in
    rw (a, b, c) refl

cleared-bits : (x : ℕ) → x < 256 → take 10 (bits (bit_and x 0xF8 ∷ 0 ∷ 0 ∷ [])) ≡ bits_of 5 (x / 2 ^ 3) ++ replicate 5 0
unfolding bits bits_of
cleared-bits x h =
    let same : x / 8 * 8 / 2 ^ 3 ≡ x / 2 ^ 3 = omega arith in
    ap (λ (y : ℕ). bits_of 8 y ++ (0 ∷ 0 ∷ [])) (cleared x h)
    ∙ ap (λ (l : List ℕ). l ++ (0 ∷ 0 ∷ [])) (bits_of-split 5 3 (x / 8 * 8) ∙ ap₂ (λ (n : ℕ) (l : List ℕ). bits_of 5 n ++ l) same (low-zero (x / 8)))

-- the last three bytes of a block, byte 9 of the payload being x
abbrev last_three : ℕ → ℕ → List ℕ
last_three x c = (x / 8 * 8 + c / 2 ^ 11) ∷ (c / 2 ^ 3 % 256) ∷ (c % 8 * 32) ∷ []

cut_tail : (a b d e : ℕ)
    → packed 3 (bits_of 5 a ++ ((bits_of 3 b ++ (bits_of 8 d ++ bits_of 3 e)) ++ replicate 5 0)) ≡ number (bits_of 5 a ++ bits_of 3 b) ∷ number (bits_of 8 d)
    ∷ number (bits_of 3 e ++ replicate 5 0) ∷ []
unfolding packed bits_of number_after
cut_tail a b d e = refl

five_zeros : (n : ℕ) → number_after n (replicate 5 0) ≡ n * 32
unfolding number_after
five_zeros n = omega arith

packed_tail : (x c : ℕ) → x < 256 → c < 2 ^ 14 → packed 3 (bits_of 5 (x / 2 ^ 3) ++ (bits_of 14 c ++ replicate 5 0)) ≡ last_three x c
packed_tail x c h k =
    let a = x / 2 ^ 3 in
    let b = c / 2 ^ 11 in
    let split = bits_of-split 3 11 c ∙ ap (λ (l : List ℕ). bits_of 3 b ++ l) (bits_of-split 8 3 c) in
    let first : (0 * 2 ^ 5 + x / 2 ^ 3 % 2 ^ 5) * 2 ^ 3 + c / 2 ^ 11 % 2 ^ 3 ≡ x / 8 * 8 + c / 2 ^ 11 = omega arith in
    let second : 0 * 2 ^ 8 + c / 2 ^ 3 % 2 ^ 8 ≡ c / 2 ^ 3 % 256 = omega arith in
    let third : (0 * 2 ^ 3 + c % 2 ^ 3) * 32 ≡ c % 8 * 32 = omega arith in
    ap (λ (l : List ℕ). packed 3 (bits_of 5 a ++ (l ++ replicate 5 0))) split
    ∙ cut_tail a b (c / 2 ^ 3) c
    ∙ ap₂ (λ (n : ℕ) (l : List ℕ). n ∷ l)
    (number_append 0 (bits_of 5 a) (bits_of 3 b) ∙ number-bits 3 (number (bits_of 5 a)) b ∙ ap (λ (n : ℕ). n * 2 ^ 3 + b % 2 ^ 3) (number-bits 5 0 a) ∙ first)
    (ap₂ (λ (n m : ℕ). n ∷ m ∷ [])
    (number-bits 8 0 (c / 2 ^ 3) ∙ second)
    (number_append 0 (bits_of 3 c) (replicate 5 0) ∙ five_zeros (number (bits_of 3 c)) ∙ ap (λ (n : ℕ). n * 32) (number-bits 3 0 c) ∙ third))

tail_cut : (u v w : ℕ) → take 14 (drop 5 (bits (u ∷ v ∷ w ∷ []))) ≡ bits_of 3 u ++ (bits_of 8 v ++ take 3 (bits_of 8 w))
unfolding bits bits_of
tail_cut u v w = refl

set_append_add : (xs ys : List ℕ) (n a : ℕ) → set (xs ++ ys) (length xs + n) a ≡ xs ++ set ys n a
set_append_add [] ys n a = ap (λ (k : ℕ). set ys k a) (zero-add n)
set_append_add (x ∷ xs) ys n a = ap (λ (k : ℕ). set (x ∷ (xs ++ ys)) k a) (suc-add (length xs) n) ∙ ap (λ (l : List ℕ). x ∷ l) (set_append_add xs ys n a)

-- nine bytes t in front
module _ (t : List ℕ) (nine : length t ≡ 9) where
  front-bits : length (bits t) ≡ 72
  front-bits = bits-length t ∙ ap (λ (n : ℕ). 8 * n) nine

  take_past : (n : ℕ) (ys : List ℕ) → take (72 + n) (bits t ++ ys) ≡ bits t ++ take n ys
  take_past n ys = rw front-bits at (take-append-add (bits t) ys n)

  drop_past : (n : ℕ) (ys : List ℕ) → drop (72 + n) (bits t ++ ys) ≡ drop n ys
  drop_past n ys = rw front-bits at (drop-append-add (bits t) ys n)

  payload-bits : (x : ℕ) → payload_bits (t ++ x ∷ []) ≡ bits t ++ bits_of 5 (x / 2 ^ 3)
  unfolding bits bits_of
  payload-bits x =
      ap (take 77) (bits_append t (x ∷ []))
      ∙ take_past 5 (bits (x ∷ []))
      ∙ ap (λ (l : List ℕ). bits t ++ l) (take-upper 5 3 x)

  -- the 82 bits of the block that has no checksum yet
  laid-bits : (x : ℕ) → x < 256 → take 82 (bits (t ++ bit_and x 0xF8 ∷ 0 ∷ 0 ∷ [])) ≡ payload_bits (t ++ x ∷ []) ++ replicate 5 0
  laid-bits x h =
      ap (take 82) (bits_append t (bit_and x 0xF8 ∷ 0 ∷ 0 ∷ []))
      ∙ take_past 10 (bits (bit_and x 0xF8 ∷ 0 ∷ 0 ∷ []))
      ∙ ap (λ (l : List ℕ). bits t ++ l) (cleared-bits x h)
      ∙ sym (append_assoc (bits t) (bits_of 5 (x / 2 ^ 3)) (replicate 5 0))
      ∙ ap (λ (l : List ℕ). l ++ replicate 5 0) (sym (payload-bits x))

  -- the bytes of 77 bits, 14 bits of c, and zeros
  packed-block : (x c : ℕ) → x < 256 → c < 2 ^ 14 → Bytes t
      → packed 12 (payload_bits (t ++ x ∷ []) ++ (bits_of 14 c ++ replicate 5 0)) ≡ t ++ last_three x c
  packed-block x c h k bytes =
      ap (λ (l : List ℕ). packed 12 (l ++ (bits_of 14 c ++ replicate 5 0))) (payload-bits x)
      ∙ ap (packed 12) (append_assoc (bits t) (bits_of 5 (x / 2 ^ 3)) (bits_of 14 c ++ replicate 5 0))
      ∙ rw nine at (packed-bits t (bits_of 5 (x / 2 ^ 3) ++ (bits_of 14 c ++ replicate 5 0)) 3 bytes)
      ∙ ap (λ (l : List ℕ). t ++ l) (packed_tail x c h k)

  set_past : (n a : ℕ) (ys : List ℕ) → set (t ++ ys) (9 + n) a ≡ t ++ set ys n a
  set_past n a ys = rw nine at (set_append_add t ys n a)

  -- the same bytes, stored one by one
  stored_bytes : (x c : ℕ) → x < 256 → c < 2 ^ 14
      → stored (t ++ bit_and x 0xF8 ∷ 0 ∷ 0 ∷ []) c ≡ t ++ last_three x c
  stored_bytes x c h k =
      let y = bit_and x 0xF8 in
      let first : bit_or (get_or (t ++ y ∷ 0 ∷ 0 ∷ []) 9 0) (c / 2 ^ 11) ≡ x / 8 * 8 + c / 2 ^ 11 =
      ap (λ (n : ℕ). bit_or n (c / 2 ^ 11)) (get_or_at t y (0 ∷ 0 ∷ []) 0 9 nine ∙ cleared x h) ∙ or_shifted (x / 8) 3 (c / 2 ^ 11) (omega arith)
      in
      let low : c * 2 ^ 5 % 2 ^ 8 ≡ c % 8 * 32 = omega arith in
      let last = mod-mod-pow (c * 2 ^ 5) 8 8 ∙ low in
      ap₂ (λ (a b : ℕ). set (set (set (t ++ y ∷ 0 ∷ 0 ∷ []) 9 a) 10 (c / 2 ^ 3 % 256)) 11 b) first last
      ∙ ap (λ (l : List ℕ). set (set l 10 (c / 2 ^ 3 % 256)) 11 (c % 8 * 32)) (set_past 0 (x / 8 * 8 + c / 2 ^ 11) (y ∷ 0 ∷ 0 ∷ []))
      ∙ ap (λ (l : List ℕ). set l 11 (c % 8 * 32)) (set_past 1 (c / 2 ^ 3 % 256) ((x / 8 * 8 + c / 2 ^ 11) ∷ 0 ∷ 0 ∷ []))
      ∙ set_past 2 (c % 8 * 32) ((x / 8 * 8 + c / 2 ^ 11) ∷ (c / 2 ^ 3 % 256) ∷ 0 ∷ [])

  carried-bytes : (u v w : ℕ) → v < 256 → w < 256 → carried (t ++ u ∷ v ∷ w ∷ []) ≡ u % 8 * 2048 + v * 8 + w / 32
  unfolding carried
  carried-bytes u v w hv hw =
      let sums : ((0 * 2 ^ 3 + u % 2 ^ 3) * 2 ^ 8 + v % 2 ^ 8) * 2 ^ 3 + w / 2 ^ 5 % 2 ^ 3 ≡ u % 8 * 2048 + v * 8 + w / 32 = omega arith in
      ap (λ (l : List ℕ). number (take 14 (drop 77 l))) (bits_append t (u ∷ v ∷ w ∷ []))
      ∙ ap (λ (l : List ℕ). number (take 14 l)) (drop_past 5 (bits (u ∷ v ∷ w ∷ [])))
      ∙ ap number (tail_cut u v w ∙ ap (λ (l : List ℕ). bits_of 3 u ++ (bits_of 8 v ++ l)) (take-upper 3 5 w))
      ∙ number_append 0 (bits_of 3 u) (bits_of 8 v ++ bits_of 3 (w / 2 ^ 5))
      ∙ number_append (number (bits_of 3 u)) (bits_of 8 v) (bits_of 3 (w / 2 ^ 5))
      ∙ number-bits 3 (number_after (number (bits_of 3 u)) (bits_of 8 v)) (w / 2 ^ 5)
      ∙ ap (λ (n : ℕ). n * 2 ^ 3 + w / 2 ^ 5 % 2 ^ 3) (number-bits 8 (number (bits_of 3 u)) v ∙ ap (λ (n : ℕ). n * 2 ^ 8 + v % 2 ^ 8) (number-bits 3 0 u))
      ∙ sums

-- a list of ten, and one of twelve
ten : (p : List ℕ) → length p ≡ 10 → p ≡ take 9 p ++ get_or p 9 0 ∷ []
ten p e =
    sym (take-append-drop 9 p)
    ∙ ap (λ (l : List ℕ). take 9 p ++ l) (drop-cons p 9 0 (omega arith) ∙ ap (λ (l : List ℕ). get_or p 9 0 ∷ l) (drop_of_length-le p {i = 10} (omega arith)))

drop_nine : (a : List ℕ) → length a ≡ 12 → drop 9 a ≡ get_or a 9 0 ∷ get_or a 10 0 ∷ get_or a 11 0 ∷ []
drop_nine a e =
    drop-cons a 9 0 (omega arith)
    ∙ ap (λ (l : List ℕ). get_or a 9 0 ∷ l)
    (drop-cons a 10 0 (omega arith)
    ∙ ap (λ (l : List ℕ). get_or a 10 0 ∷ l)
    (drop-cons a 11 0 (omega arith) ∙ ap (λ (l : List ℕ). get_or a 11 0 ∷ l) (drop_of_length-le a {i = 12} (omega arith))))

twelve : (a : List ℕ) → length a ≡ 12 → a ≡ take 9 a ++ get_or a 9 0 ∷ get_or a 10 0 ∷ get_or a 11 0 ∷ []
twelve a e = sym (take-append-drop 9 a) ∙ ap (λ (l : List ℕ). take 9 a ++ l) (drop_nine a e)

-- the payload laid into a block, byte by byte
pub laid-set : (p a l : List ℕ) → length p ≡ 10 → length a ≡ 12 → l ≡ take 9 p ++ drop 9 a
    → set (set (set l 9 (bit_and (get_or p 9 0) 0xF8)) 10 0) 11 0 ≡ laid p
unfolding laid
laid-set p a l ep ea e =
    let t = take 9 p in
    let y = bit_and (get_or p 9 0) 0xF8 in
    let nine = length-take-le 9 p (omega arith) in
    ap (λ (x : List ℕ). set (set (set x 9 y) 10 0) 11 0) (e ∙ ap (λ (x : List ℕ). t ++ x) (drop_nine a ea))
    ∙ ap (λ (x : List ℕ). set (set x 10 0) 11 0) (set_past t nine 0 y (get_or a 9 0 ∷ get_or a 10 0 ∷ get_or a 11 0 ∷ []))
    ∙ ap (λ (x : List ℕ). set x 11 0) (set_past t nine 1 0 (y ∷ get_or a 10 0 ∷ get_or a 11 0 ∷ []))
    ∙ set_past t nine 2 0 (y ∷ 0 ∷ get_or a 11 0 ∷ [])

module _ (p : List ℕ) (size : length p ≡ 10) (bytes : Bytes p) where
  front : length (take 9 p) ≡ 9
  front = length-take-le 9 p (omega arith)

  tail-bytes : Bytes (bit_and (get_or p 9 0) 0xF8 ∷ 0 ∷ 0 ∷ [])
  tail-bytes zero = omega (arith, cleared (get_or p 9 0) (bytes 9), bytes 9)
  tail-bytes (suc zero) = omega arith
  tail-bytes (suc (suc zero)) = omega arith
  tail-bytes (suc (suc (suc i))) = omega arith

  -- the register's checksum of the block without one is the checksum of the definition
  pub laid-checksum : crc14 (laid p) 82 ≡ block_checksum p
  unfolding laid unused
  laid-checksum =
      let t = take 9 p in
      let x = get_or p 9 0 in
      let tail = bit_and x 0xF8 ∷ 0 ∷ 0 ∷ [] in
      let unused-zero : unused (t ++ tail) 82 ≡ 0 = ap (λ (n : ℕ). n % 2 ^ 6) (rw front at (get_or-append-add t tail 1 0)) in
      let long : 82 ≤ 8 * length (t ++ tail) = omega (arith, length-append t tail, front) in
      register-qex (t ++ tail) 82 (bytes_append t tail (bytes_take 9 p bytes) tail-bytes) long unused-zero
      ∙ ap qex (laid-bits t front x (bytes 9))
      ∙ ap block_checksum (sym (ten p size))

  pub block-stored : stored (laid p) (block_checksum p) ≡ block p
  unfolding laid block
  block-stored =
      let t = take 9 p in
      let x = get_or p 9 0 in
      let c = block_checksum p in
      let small : c < 2 ^ 14 = qex-lt (are_bits_append (are_bits_take 77 (bits_are p)) (zeros_are 5)) in
      stored_bytes t front x c (bytes 9) small
      ∙ sym (packed-block t front x c (bytes 9) small (bytes_take 9 p bytes))
      ∙ ap (λ (l : List ℕ). packed 12 (payload_bits l ++ (bits_of 14 c ++ replicate 5 0))) (sym (ten p size))

-- the checksum read back, in the operations of the code
pub carried_read : (a : List ℕ) → length a ≡ 12 → Bytes a
    → bit_or (bit_or (bit_and (get_or a 9 0) 7 * 2 ^ 11 % 2 ^ 16) (get_or a 10 0 * 2 ^ 3 % 2 ^ 16)) (get_or a 11 0 / 2 ^ 5) ≡ carried a
carried_read a size bytes =
    let u = get_or a 9 0 in
    let v = get_or a 10 0 in
    let w = get_or a 11 0 in
    let v-lt : v < 256 = bytes 10 in
    let w-lt : w < 256 = bytes 11 in
    let high : bit_and u 7 * 2 ^ 11 % 2 ^ 16 ≡ u % 8 * 2 ^ 11 = omega (arith, and_mask u 3) in
    let mid : v * 2 ^ 3 % 2 ^ 16 ≡ v * 2 ^ 3 = omega arith in
    let both : u % 8 * 2 ^ 11 + v * 2 ^ 3 ≡ (u % 8 * 256 + v) * 2 ^ 3 = omega arith in
    let sum : (u % 8 * 256 + v) * 2 ^ 3 + w / 2 ^ 5 ≡ u % 8 * 2048 + v * 8 + w / 32 = omega arith in
    ap₂ (λ (x y : ℕ). bit_or (bit_or x y) (w / 2 ^ 5)) high mid
    ∙ ap (λ (x : ℕ). bit_or x (w / 2 ^ 5)) (or_shifted (u % 8) 11 (v * 2 ^ 3) (omega arith) ∙ both)
    ∙ or_shifted (u % 8 * 256 + v) 3 (w / 2 ^ 5) (omega arith)
    ∙ sum
    ∙ sym (carried-bytes (take 9 a) (length-take-le 9 a (omega arith)) u v w v-lt w-lt)
    ∙ ap carried (sym (twelve a size))
