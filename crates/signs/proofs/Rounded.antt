-- What rounding keeps: the sign, also of a zero or an infinity; and bounds that are whole numbers which f32 holds. Assumes nothing.
use mathlib.Core.Path.{◌≡◌, refl, sym, ap, ◌∙◌, subst}
use mathlib.Core.Bool.{Bool, true, false, ◌&&◌, ◌||◌, cond, true≢false}
use Prim.Native.Nat.{ℕ, zero, suc, ◌+◌, ◌*◌, ◌^◌, ◌≤◌, ◌<◌}
use native.Mathlib.Nat.{le_of_eq, zero-lt-suc}
use native.Mathlib.Omega.{arith}
use lib.Dec.{T, ltb, eqb, eqb→eq, ltb→lt}
use lib.IntN.{ℤ}
use lib.Ieee.{Float, nan, inf, fin, binary32, prec, emax, low, up, down, odd, units, round, neg, le}
use lib.Ieee.Fits.{round_is, down_pos, and_l}
use lib.Ieee.Exact.{HasValue}
use lib.Ieee.Order.{round_mono}
use lib.Ieee.Positive.{through}

-- ---- the sign

-- not a NaN, and with the sign bit s
pub data Signed : Bool → Float → Type 0 where
  infinite : {s : Bool} → Signed s (inf s)
  finite : {s : Bool} {m : ℕ} {e : ℤ} → Signed s (fin s m e)

odd-signed : (d : ℕ) (s : Bool) (q k l : ℕ) → Signed s (odd d s q k l)
unfolding odd
odd-signed d s zero k l = finite
odd-signed d s (suc q) k l = finite

units-signed : (s : Bool) (q k : ℕ) → Signed s (units binary32 s q k)
unfolding units
units-signed s q k = go (ltb (q * 2 ^ k) (2 ^ (low binary32 + suc (emax binary32))))
  where
    go : (b : Bool) → Signed s (cond b (odd (suc (prec binary32)) s q k (low binary32)) (inf s))
    go true = odd-signed (suc (prec binary32)) s q k (low binary32)
    go false = infinite

pub round-signed : (s : Bool) (a b : ℕ) → Signed s (round binary32 s a b)
round-signed s a b = subst (Signed s) (sym (round_is binary32 s a b)) (units-signed s _ _)

-- rounding with the other sign is the negative
odd-neg : (d q k l : ℕ) → odd d true q k l ≡ neg (odd d false q k l)
unfolding odd neg
odd-neg d zero k l = refl
odd-neg d (suc q) k l = refl

units-neg : (q k : ℕ) → units binary32 true q k ≡ neg (units binary32 false q k)
unfolding units
units-neg q k = go (ltb (q * 2 ^ k) (2 ^ (low binary32 + suc (emax binary32))))
  where
    go : (b : Bool)
        → cond b (odd (suc (prec binary32)) true q k (low binary32)) (inf true) ≡ neg (cond b (odd (suc (prec binary32)) false q k (low binary32)) (inf false))
    go true = odd-neg (suc (prec binary32)) q k (low binary32)
    go false = unfold neg in refl

pub round-neg : (a b : ℕ) → round binary32 true a b ≡ neg (round binary32 false a b)
round-neg a b = round_is binary32 true a b ∙ units-neg _ _ ∙ ap neg (sym (round_is binary32 false a b))

-- ---- bounds

-- f32 holds the whole number k
abbrev pub Held : ℕ → Type 0
Held k = HasValue (round binary32 false k 1) false k 1

-- finite, with the sign bit s, and from j to k in size
pub data Part (s : Bool) (j k : ℕ) : Float → Type 0 where
  part : {m : ℕ} {e : ℤ} → j * down e ≤ m * up e → m * up e ≤ k * down e → Part s j k (fin s m e)

pub part_signed : {s : Bool} {j k : ℕ} {x : Float} → Part s j k x → Signed s x
part_signed (part lo hi) = finite

pub or_le : (a b : ℕ) → T (ltb a b || (eqb a b && true)) → a ≤ b
or_le a b t = go (ltb a b) (ltb→lt a b) t
  where
    go : (x : Bool) → (T x → a < b) → T (x || (eqb a b && true)) → a ≤ b
    go true f t = let l = f tt in omega arith
    go false f t = le_of_eq (eqb→eq a b (and_l (eqb a b) true t))

-- between two floats that are j and k
between_held : (j k : ℕ) (x y z : Float) → Signed false y → HasValue x false j 1 → HasValue z false k 1 → T (le x y) → T (le y z) → Part false j k y
unfolding le
between_held j k nan y z g h i t u = absurd h
between_held j k (inf w) y z g h i t u = absurd h
between_held j k (fin true l c) y z g h i t u = absurd (true≢false h.0)
between_held j k (fin false l c) y nan g h i t u = absurd i
between_held j k (fin false l c) y (inf w) g h i t u = absurd i
between_held j k (fin false l c) y (fin true n d) g h i t u = absurd (true≢false i.0)
between_held j k (fin false l c) nan (fin false n d) g h i t u = elim g [ ]
between_held j k (fin false l c) (inf true) (fin false n d) g h i t u = elim g [ ]
between_held j k (fin false l c) (fin true m e) (fin false n d) g h i t u = elim g [ ]
between_held j k (fin false l c) (inf false) (fin false n d) infinite h i t u = absurd u
between_held j k (fin false l c) (fin false m e) (fin false n d) finite h i t u =
    let lo : j * down e ≤ m * up e * 1 = through j (l * up c) (m * up e) 1 (down c) (down e) (down_pos c) (le_of_eq (sym h.1)) (or_le _ _ t) in
    let hi : m * up e * 1 ≤ k * down e = through (m * up e) (n * up d) k (down e) (down d) 1 (down_pos d) (or_le _ _ u) (le_of_eq i.1) in
    let lo' : j * down e ≤ m * up e = omega arith in
    let hi' : m * up e ≤ k * down e = omega arith in
    part lo' hi'

neg_part : {j k : ℕ} {x : Float} → Part false j k x → Part true j k (neg x)
unfolding neg
neg_part (part lo hi) = part lo hi

module _ (j k a b : ℕ) (low_held : Held j) (high_held : Held k) (p : 0 < b) (lo : j * b ≤ a) (hi : a ≤ k * b) where
  plain-part : Part false j k (round binary32 false a b)
  plain-part =
      between_held j k (round binary32 false j 1) (round binary32 false a b) (round binary32 false k 1) (round-signed false a b) low_held high_held
      (round_mono binary32 j 1 a b (zero-lt-suc 0) p (omega arith)) (round_mono binary32 a b k 1 p (zero-lt-suc 0) (omega arith))

  -- a fraction from j to k, rounded
  pub round-part : (s : Bool) → Part s j k (round binary32 s a b)
  round-part false = plain-part
  round-part true = subst (Part true j k) (sym (round-neg a b)) (neg_part plain-part)
