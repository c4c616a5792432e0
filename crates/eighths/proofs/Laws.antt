-- The converter's laws (change request N10): either direction undoes the other on what it accepts, for both kinds of model, and no rounding occurs.
-- By the eighths that each value has: a float's sign, its number of eighths and that the format holds it fix it. Assumes nothing.
use mathlib.Core.Path.{◌≡◌, refl, sym, ap, ◌∙◌, subst}
use Prim.Native.Nat.{ℕ, zero, suc, ◌+◌, ◌-◌, ◌*◌, ◌/◌, ◌^◌, ◌≤◌}
use native.Mathlib.Nat.{mul_right_comm, mul-pos, zero-mul, zero-lt-suc}
use native.Mathlib.Omega.{arith}
use mathlib.Core.Bool.{Bool, true, false, not, ◌&&◌, cond}
use mathlib.Core.List.{List, [], ◌∷◌, map}
use mathlib.Mathlib.Data.Bool.Basic.{or-eq-false-eq-eq-false-and-eq-false as or-is-false}
use lib.ListN.{length, length-map}
use lib.Dec.{T, eqb, eqb-suc-zero}
use lib.IntN.{ℤ, pos, negsuc, neg_ℤ}
use lib.Ieee.{Float, nan, inf, fin, binary32, up, down, neg, fits, of_int, of_bits, to_bits, size, hid, top}
use lib.Ieee.Fits.{down_pos, and_i, mul-fits, neg-fits, cond-fits}
use lib.Ieee.Bits.{of_bits-to_bits, of_bits-fits}
use lib.Ieee.Nearest.{div_same}
use lib.Ieee.Exact.{HasValue}
use mir.Syntax.{w8}
use mir.Val.{SFits}
use borrow.Author.Tests.{eqb-false, ne_eqb, not-false}
use Rattle.refusal.specs.Outcome.{Outcome, accepted, refused}
use Rattle.soft_bytes.specs.Values.{eighth32, is_zero, is_least, times_eighth, value_of, whole_eighths, minus_zero, passes, signed, byte_of}
use Rattle.softmath.specs.Single.{zero32}
use Rattle.eighths.specs.Calls.{some, bytes_refusals, values_refusals, values_of, bytes_of}
use Rattle.eighths.specs.Laws.{Each, more, I8s, F32s, Accepted, BytesUndone, ValuesUndone, ByteUnrounded, ValueUnrounded}
use Rattle.soft_bytes.proofs.Value.{same_test, Eighths, eighths_whole, product_exact, sign, count, passing, swap, to_whole}
use Rattle.soft_bytes.proofs.Byte.{turned}
use Rattle.eighths.proofs.Judged.{tests, written}

-- ---- a float is fixed by its sign and its eighths

-- the bits depend on the value alone
same_bits : (s : Bool) (m l : ℕ) (e d : ℤ) → m * up e * down d ≡ l * up d * down e → to_bits binary32 (fin s m e) ≡ to_bits binary32 (fin s l d)
unfolding to_bits
same_bits s m l e d h =
    ap (λ (n : ℕ). let k = size n - 24 in cond s (top binary32) 0 + k * hid binary32 + n / 2 ^ k)
    (div_same (m * up e * 2 ^ 149) (down e) (l * up d * 2 ^ 149) (down d) (down_pos e) (down_pos d)
    (mul_right_comm (m * up e) (2 ^ 149) (down d) ∙ ap (λ (x : ℕ). x * 2 ^ 149) h ∙ mul_right_comm (l * up d) (down e) (2 ^ 149)))

pub eighths_fix : (x y : Float) (s : Bool) (n : ℕ) → T (fits binary32 x) → T (fits binary32 y) → HasValue x s n 8 → HasValue y s n 8 → x ≡ y
eighths_fix nan y s n f g h k = absurd h
eighths_fix (inf t) y s n f g h k = absurd h
eighths_fix (fin t m e) nan s n f g h k = absurd k
eighths_fix (fin t m e) (inf u) s n f g h k = absurd k
eighths_fix (fin t m e) (fin u l d) s n f g h k =
    sym (of_bits-to_bits binary32 (fin t m e) f)
    ∙ ap (of_bits binary32)
    (ap (λ (b : Bool). to_bits binary32 (fin b m e)) (h.0 ∙ sym k.0) ∙ same_bits u m l e d (swap (m * up e) (down e) (l * up d) (down d) n h.1 k.1))
    ∙ of_bits-to_bits binary32 (fin u l d) g

-- ---- a byte's value

-- the byte of the value with the sign s and n eighths
abbrev byte_with : Bool → Bool → ℕ → ℤ
byte_with p s n = cond p (neg_ℤ (signed s n)) (signed s n)

neg_value : (x : Float) (s : Bool) (n : ℕ) → HasValue x s n 8 → HasValue (neg x) (not s) n 8
unfolding neg
neg_value nan s n h = absurd h
neg_value (inf t) s n h = absurd h
neg_value (fin t m e) s n h = (ap not h.0, h.1)

-- "no rounding occurs": the value of a byte has that many eighths
pub value_eighths : (p s : Bool) (n : ℕ) → n ≤ 127 → T (not (s && eqb n 0)) → HasValue (value_of p (byte_with p s n)) s n 8
unfolding value_of of_bits
value_eighths true false zero h z = (refl, refl)
value_eighths false false zero h z = (refl, refl)
value_eighths p true zero h z = absurd z
value_eighths true true (suc n) h z = rw (eqb-suc-zero n) (neg_value (times_eighth (pos (suc n))) false (suc n) (product_exact false (suc n) h tt))
value_eighths true false (suc n) h z = neg_value (times_eighth (negsuc n)) true (suc n) (product_exact true (suc n) h (rw (eqb-suc-zero n) tt))
value_eighths false true (suc n) h z = product_exact true (suc n) h z
value_eighths false false (suc n) h z = rw (eqb-suc-zero n) (product_exact false (suc n) h tt)

-- and is an f32
pub value_fits : (p : Bool) (b : ℤ) → T (fits binary32 (value_of p b))
unfolding value_of
value_fits p b =
    cond-fits binary32 (is_zero b) zero32 (cond p (neg (times_eighth b)) (times_eighth b)) (of_bits-fits binary32 0)
    (cond-fits binary32 p (neg (times_eighth b)) (times_eighth b) (neg-fits binary32 (times_eighth b) product) product)
  where
    product : T (fits binary32 (times_eighth b))
    product = mul-fits binary32 (of_int binary32 b) eighth32

-- ---- from a value to its byte and back

byte-with : (p : Bool) (v : Float) (h : passes v ≡ true) → byte_of p v ≡ byte_with p (sign v) (count v)
unfolding byte_of
byte-with p v h = ap (λ (z : ℤ). cond p (neg_ℤ z) z) (eighths_whole v (sign v) (count v) (passing v h).eighths).1

pub value_undone : (p : Bool) (v : Float) → T (fits binary32 v) → passes v ≡ true → value_of p (byte_of p v) ≡ v
value_undone p v f h =
    let x = passing v h in
    ap (value_of p) (byte-with p v h)
    ∙ eighths_fix (value_of p (byte_with p (sign v) (count v))) v (sign v) (count v) (value_fits p (byte_with p (sign v) (count v))) f
    (value_eighths p (sign v) (count v) x.eighths.small x.nonzero) x.eighths.value

-- and the byte is not -128
not_least_signed : (s : Bool) (n : ℕ) → n ≤ 127 → is_least (signed s n) ≡ false
not_least_signed true zero h = refl
not_least_signed true (suc n) h = ne_eqb n 127 (λ e. omega arith)
not_least_signed false n h = refl

pub not_least : (p : Bool) (v : Float) → passes v ≡ true → is_least (byte_of p v) ≡ false
not_least true v h = rw (byte-with true v h, turned (sign v) (count v)) (not_least_signed (not (sign v)) (count v) (passing v h).eighths.small)
not_least false v h = rw (byte-with false v h) (not_least_signed (sign v) (count v) (passing v h).eighths.small)

-- ---- from a byte to its value and back

-- a byte, but for -128, is that of some sign and number of eighths
record Byte (p : Bool) (b : ℤ) : Type 0 where
  s : Bool
  n : ℕ
  small : n ≤ 127
  nonzero : T (not (s && eqb n 0))
  same : b ≡ byte_with p s n

as_byte : (p : Bool) (b : ℤ) → SFits w8 b → is_least b ≡ false → Byte p b
as_byte true (pos zero) f l = record { s = false; n = 0; small = omega arith; nonzero = tt; same = refl }
as_byte true (pos (suc n)) f l = let k = f.sfits in record { s = true; n = suc n; small = omega arith; nonzero = rw (eqb-suc-zero n) tt; same = refl }
as_byte true (negsuc n) f l = let k = f.sfits in let e = eqb-false n 127 l in record { s = false; n = suc n; small = omega arith; nonzero = tt; same = refl }
as_byte false (pos n) f l = let k = f.sfits in record { s = false; n = n; small = omega arith; nonzero = tt; same = refl }
as_byte false (negsuc n) f l =
    let k = f.sfits in let e = eqb-false n 127 l in record { s = true; n = suc n; small = omega arith; nonzero = rw (eqb-suc-zero n) tt; same = refl }

-- n eighths that are not -0.0 pass
eighths_pass : (x : Float) (s : Bool) (n : ℕ) → Eighths x s n → T (not (s && eqb n 0)) → passes x ≡ true
unfolding passes minus_zero
eighths_pass nan s n h z = absurd h.value
eighths_pass (inf t) s n h z = absurd h.value
eighths_pass (fin t m e) s n h z =
    same_test (passes (fin t m e)) true (λ b. tt)
    (λ b. and_i (whole_eighths (fin t m e)) (not (t && eqb m 0)) (eighths_whole (fin t m e) s n h).0
    (other t m n h.value.1 (subst (λ (u : Bool). T (not (u && eqb n 0))) (sym h.value.0) z)))
  where
    other : (t : Bool) (m n : ℕ) → m * up e * 8 ≡ n * down e → T (not (t && eqb n 0)) → T (not (t && eqb m 0))
    other false m n h z = tt
    other true (suc m) n h z = rw (eqb-suc-zero m) tt
    other true zero zero h z = z
    other true zero (suc n) h z = let k = zero-mul (up e) in let p = mul-pos (zero-lt-suc n) (down_pos e) in absurd (omega arith)

-- the value of a byte passes
pub byte_passes : (p : Bool) (b : ℤ) → SFits w8 b → is_least b ≡ false → passes (value_of p b) ≡ true
byte_passes p b f l =
    let x = as_byte p b f l in
    ap (λ (z : ℤ). passes (value_of p z)) x.same
    ∙ eighths_pass (value_of p (byte_with p x.s x.n)) x.s x.n
    (record { value = value_eighths p x.s x.n x.small x.nonzero; small = x.small }) x.nonzero

pub byte_undone : (p : Bool) (b : ℤ) → SFits w8 b → is_least b ≡ false → byte_of p (value_of p b) ≡ b
unfolding byte_of
byte_undone p b f l =
    let x = as_byte p b f l in
    let h : Eighths (value_of p (byte_with p x.s x.n)) x.s x.n =
    record { value = value_eighths p x.s x.n x.small x.nonzero; small = x.small } in
    ap (λ (z : ℤ). byte_of p (value_of p z)) x.same
    ∙ ap (λ (z : ℤ). cond p (neg_ℤ z) z) (eighths_whole (value_of p (byte_with p x.s x.n)) x.s x.n h).1
    ∙ sym x.same

-- ---- lists of them

module _ {A B : Type 0} (Such : A → Type 0) (test : A → Bool) (f : A → B) (g : B → A) (other : B → Bool)
    (back : (x : A) → Such x → test x ≡ false → g (f x) ≡ x) (good : (x : A) → Such x → test x ≡ false → other (f x) ≡ false) where
  -- what the one makes of a list passes the other's test, and is undone by it
  all-undone : (xs : List A) → Each Such xs → some test xs ≡ false → (some other (map f xs) ≡ false) × (map g (map f xs) ≡ xs)
  unfolding some
  all-undone [] all e = (refl, refl)
  all-undone (x ∷ xs) (more such all) e =
      let split = (or-is-false (test x) (some test xs)).0 e in
      let rest = all-undone xs all split.1 in
      (rw (good x such split.0) rest.0, rw (back x such split.0) (ap (λ (ys : List A). x ∷ ys) rest.1))

-- an accepted call's test of the entries held of none
none-held : (a b : Bool) (n : ℕ) → ◌≡◌ {A = Outcome Unit} (cond a (refused 4) (cond b (refused n) (accepted tt))) (accepted tt) → b ≡ false
none-held true b n e = let z : ◌≡◌ {A = ℕ} 0 1 = cc in absurd (omega arith)
none-held false true n e = let z : ◌≡◌ {A = ℕ} 0 1 = cc in absurd (omega arith)
none-held false false n e = refl

-- two slices of one length whose entries pass the test are accepted
taken : (a b n : ℕ) (t : Bool) → a ≡ b → t ≡ false → Accepted (tests a b n t)
taken a b n t h k = sym (written {A = Unit {0}} a b n t tt tt tt h k refl).0

-- "Either direction undoes the other on what it accepts"
pub bytes_undone : (p : Bool) (bytes : List ℤ) (values : List Float) → I8s bytes → Accepted (bytes_refusals bytes values) → BytesUndone p bytes
unfolding bytes_refusals values_refusals values_of bytes_of
bytes_undone p bytes values all e =
    let back =
    all-undone (λ b. SFits w8 b) is_least (value_of p) (byte_of p) (λ v. not (passes v)) (byte_undone p) (λ b f l. ap not (byte_passes p b f l))
    bytes all (none-held (not (eqb (length bytes) (length values))) (some is_least bytes) 17 e) in
    record {
      taken_back =
          taken (length (map (value_of p) bytes)) (length bytes) 18 (some (λ v. not (passes v)) (map (value_of p) bytes)) (length-map bytes (value_of p))
          back.0;
      undone = back.1;
    }

pub values_undone : (p : Bool) (values : List Float) (bytes : List ℤ) → F32s values → Accepted (values_refusals values bytes) → ValuesUndone p values
unfolding bytes_refusals values_refusals values_of bytes_of
values_undone p values bytes all e =
    let back =
    all-undone (λ v. T (fits binary32 v)) (λ v. not (passes v)) (byte_of p) (value_of p) is_least
    (λ v f l. value_undone p v f (not-false (passes v) l)) (λ v f l. not_least p v (not-false (passes v) l))
    values all (none-held (not (eqb (length values) (length bytes))) (some (λ v. not (passes v)) values) 18 e) in
    record {
      taken_back = taken (length (map (byte_of p) values)) (length values) 17 (some is_least (map (byte_of p) values)) (length-map values (byte_of p)) back.0;
      undone = back.1;
    }

-- ---- "no rounding occurs"

pub byte_unrounded : (b : ℤ) → SFits w8 b → is_least b ≡ false → ByteUnrounded b
byte_unrounded (pos n) f l = let k = f.sfits in product_exact false n (omega arith) tt
byte_unrounded (negsuc n) f l = let k = f.sfits in let e = eqb-false n 127 l in product_exact true (suc n) (omega arith) (rw (eqb-suc-zero n) tt)

pub value_unrounded : (v : Float) → passes v ≡ true → ValueUnrounded v
value_unrounded v h =
    let x = (passing v h).eighths in
    record { sign = sign v; size = count v; eighths = x.value; product = to_whole v (sign v) (count v) x }
