-- The groups' bytes: one group's, and what is left to be done after it. Assumes nothing.
use mathlib.Core.Path.{◌≡◌, refl, sym, ap, ap₂, ◌∙◌}
use mathlib.Core.Bool.{Bool, true, false}
use mathlib.Core.List.{List, [], ◌∷◌, ◌++◌, append_assoc}
use Prim.Native.Nat.{ℕ, zero, suc, ◌+◌, ◌-◌, ◌*◌, ◌<◌, ◌≤◌}
use native.Mathlib.Nat.{add-mul, zero-mul, mul-le-mul}
use native.Mathlib.Numerals.{add-one}
use native.Mathlib.Omega.{arith}
use borrow.Rule.Slice.PartMut.{post_of, put_mid, mid_len, same_len_mid, drop_put}
use lib.ListN.{length, get_or, take, drop, replicate, length-replicate, length-drop, drop_of_length-le, take-append-drop}
use lib.Seq.{drop-cons, drop-drop, length-take-le, take-append-add, take-append_seam, take_at, drop-append-add}
use Rattle.grouping.specs.Grouping.{total, all, group_bits, delivered}

-- ---- one group

pub held : (t : Bool) (bits : List ℕ) → t ≡ true → bits ≡ group_bits t bits
held true bits e = refl
held false bits e = cc

pub withheld : (t : Bool) (bits : List ℕ) → t ≡ false → replicate (length bits) 255 ≡ group_bits t bits
withheld true bits e = cc
withheld false bits e = refl

pub group_length : (t : Bool) (bits : List ℕ) → length (group_bits t bits) ≡ length bits
group_length true bits = refl
group_length false bits = length-replicate {A = ℕ} (length bits) 255

-- ---- the groups from group g on, which take the frames from place `at` on

pub total-next : (sizes : List ℕ) (g : ℕ) → g < length sizes → total (drop g sizes) ≡ get_or sizes g 0 + total (drop (g + 1) sizes)
unfolding total
total-next sizes g h = ap total (drop-cons sizes g 0 h) ∙ rw add-one refl

module _ (k : ℕ) (sizes : List ℕ) (clean : List Bool) (at g : ℕ) (h : g < length sizes) (fits : at + total (drop g sizes) ≤ length clean) where
  abbrev n : ℕ
  n = get_or sizes g 0

  abbrev from : ℕ
  from = at * k

  abbrev to : ℕ
  to = (at + n) * k

  pub frames_fit : at + n ≤ length clean
  frames_fit = omega (arith, fits, total-next sizes g h)

  pub rest-fits : at + n + total (drop (g + 1) sizes) ≤ length clean
  rest-fits = omega (arith, fits, total-next sizes g h)

  span : to ≡ from + n * k
  span = add-mul at n k

  pub bytes_fit : (bits : List ℕ) → length bits ≡ length clean * k → (from ≤ to) × (to ≤ length bits)
  bytes_fit bits size =
      let most = mul-le-mul {n₁ = at + n} {m₁ = k} {n₂ = length clean} {m₂ = k} frames_fit (omega arith) in
      (omega (arith, span), omega (arith, size, most))

  -- the group's bytes as they are, and whether it is delivered
  abbrev own : List ℕ → List ℕ
  own bits = take (to - from) (drop from bits)

  abbrev ready : Bool
  ready = all (take (at + n - at) (drop at clean))

  -- a group's bytes put in their place
  module _ (bits part : List ℕ) (size : length bits ≡ length clean * k) (new : part ≡ group_bits ready (own bits)) where
    abbrev next : List ℕ
    next = put_mid from (to - from) bits part

    part_length : length part ≡ to - from
    part_length = ap length new ∙ group_length ready (own bits) ∙ mid_len from to bits (bytes_fit bits size).1

    pub next-length : length next ≡ length clean * k
    next-length = same_len_mid from (to - from) bits part (part_length ∙ sym (mid_len from to bits (bytes_fit bits size).1)) ∙ size

    passed : take to next ≡ take from bits ++ part
    passed =
        let fit = bytes_fit bits size in
        let front = length-take-le from bits (omega (arith, fit.0, fit.1)) in
        let e : to ≡ length (take from bits) + length part = omega (arith, front, part_length, fit.0) in
        let after = post_of from (to - from) bits in
        ap (λ (m : ℕ). take m next) e ∙ take-append-add (take from bits) (part ++ after) (length part)
        ∙ ap (λ (l : List ℕ). take from bits ++ l) (take-append_seam part after)

    left : drop to next ≡ drop to bits
    left = let fit = bytes_fit bits size in drop_put from to bits part fit.0 fit.1 part_length

    pub next-group : (all-bits : List ℕ) → delivered k sizes clean all-bits ≡ take from bits ++ delivered k (drop g sizes) (drop at clean) (drop from bits)
        → delivered k sizes clean all-bits ≡ take to next ++ delivered k (drop (g + 1) sizes) (drop (at + n) clean) (drop to next)
    unfolding delivered
    next-group all-bits so =
        let m : at + n - at ≡ n = omega arith in
        let bytes : to - from ≡ n * k = omega (arith, span) in
        let group = group_bits (all (take n (drop at clean))) (take (n * k) (drop from bits)) in
        let rest = delivered k (drop (suc g) sizes) (drop n (drop at clean)) (drop (n * k) (drop from bits)) in
        let one : part ≡ group = rw (m, bytes) at new in
        let ends : drop (n * k) (drop from bits) ≡ drop to bits = drop-drop (n * k) from bits ∙ ap (λ (e : ℕ). drop e bits) (sym span) in
        so ∙ ap (λ (l : List ℕ). take from bits ++ delivered k l (drop at clean) (drop from bits)) (drop-cons sizes g 0 h)
        ∙ sym (append_assoc (take from bits) group rest)
        ∙ ap₂ ◌++◌ (ap (λ (l : List ℕ). take from bits ++ l) (sym one) ∙ sym passed)
        (rw (add-one, drop-drop n at clean, ends, left) refl)

-- after the last group
pub all_closed : (k : ℕ) (sizes : List ℕ) (clean : List Bool) (before bits : List ℕ) (at g : ℕ) → length sizes ≤ g
    → delivered k sizes clean before ≡ take (at * k) bits ++ delivered k (drop g sizes) (drop at clean) (drop (at * k) bits)
    → bits ≡ delivered k sizes clean before
unfolding delivered
all_closed k sizes clean before bits at g h so =
    sym (so ∙ rw (drop_of_length-le sizes {i = g} h) (take-append-drop (at * k) bits))

-- ---- group g among all, whose bytes are within the lists

group_whole : (k n : ℕ) (t : Bool) (bits : List ℕ) → n * k ≤ length bits → length (group_bits t (take (n * k) bits)) ≡ n * k
group_whole k n t bits h = group_length t (take (n * k) bits) ∙ length-take-le (n * k) bits h

pub group_at : (k : ℕ) (sizes : List ℕ) (clean : List Bool) (bits : List ℕ) (g : ℕ) → g < length sizes → total sizes * k ≤ length bits
    → let n = get_or sizes g 0 in
    let s = total (take g sizes) in
    take (n * k) (drop (s * k) (delivered k sizes clean bits)) ≡ group_bits (all (take n (drop s clean))) (take (n * k) (drop (s * k) bits))
unfolding total delivered
group_at k [] clean bits g h fits = absurd (omega arith)
group_at k (n ∷ ns) clean bits zero h fits =
    let own = group_bits (all (take n clean)) (take (n * k) bits) in
    let rest = delivered k ns (drop n clean) (drop (n * k) bits) in
    rw zero-mul (take_at own rest (n * k) (group_whole k n (all (take n clean)) bits (omega (arith, fits, add-mul n (total ns) k))))
group_at k (n ∷ ns) clean bits (suc g) h fits =
    let own = group_bits (all (take n clean)) (take (n * k) bits) in
    let rest = delivered k ns (drop n clean) (drop (n * k) bits) in
    let m = get_or ns g 0 in
    let t = total (take g ns) in
    let span = add-mul n (total ns) k in
    let size = group_whole k n (all (take n clean)) bits (omega (arith, fits, span)) in
    let e : (n + t) * k ≡ length own + t * k = omega (arith, size, add-mul n t k) in
    ap (λ (i : ℕ). take (m * k) (drop i (own ++ rest))) e
    ∙ ap (take (m * k)) (drop-append-add own rest (t * k))
    ∙ group_at k ns (drop n clean) (drop (n * k) bits) g (omega arith) (simp length-drop (omega (arith, fits, span)))
    ∙ rw (drop-drop t n clean, drop-drop (t * k) (n * k) bits, ← add-mul n t k) refl
