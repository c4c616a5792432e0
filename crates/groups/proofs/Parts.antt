-- The bytes of the n frames from place s on, k bytes a frame: frame by frame. Assumes nothing.
use mathlib.Core.Path.{◌≡◌, refl, sym, ap, ap₂, ◌∙◌}
use mathlib.Core.List.{List, ◌++◌}
use Prim.Native.Nat.{ℕ, zero, suc, ◌+◌, ◌*◌, ◌<◌, ◌≤◌}
use native.Mathlib.Nat.{suc-mul, zero-mul, add-zero}
use native.Mathlib.Omega.{arith}
use lib.ListN.{length, take, drop, length-take, length-drop}
use lib.Seq.{take-add, drop-drop}
use Rattle.lists.specs.Below.{Below}
use Rattle.lists.proofs.Below.{below_none, below-append}

-- frame j's
abbrev pub frame_at : ℕ → ℕ → List ℕ → List ℕ
frame_at k j l = take k (drop (j * k) l)

abbrev pub frames_at : ℕ → ℕ → ℕ → List ℕ → List ℕ
frames_at k s n l = take (n * k) (drop (s * k) l)

-- the first frame's, and those after it
frames_cons : (k s n : ℕ) (l : List ℕ) → frames_at k s (suc n) l ≡ frame_at k s l ++ frames_at k (suc s) n l
frames_cons k s n l =
    let e : suc n * k ≡ k + n * k = omega (arith, suc-mul n k) in
    let f : s * k + k ≡ suc s * k = omega (arith, suc-mul s k) in
    ap (λ (i : ℕ). take i (drop (s * k) l)) e ∙ take-add k (n * k) (drop (s * k) l)
    ∙ ap (λ (r : List ℕ). frame_at k s l ++ take (n * k) r) (drop-drop k (s * k) l ∙ ap (λ (i : ℕ). drop i l) f)

next : (s i : ℕ) → suc s + i ≡ s + suc i
next s i = omega arith

-- frames that are equal one by one are equal together
pub frames-same : (k s t n : ℕ) (l m : List ℕ) → ((i : ℕ) → i < n → frame_at k (s + i) l ≡ frame_at k (t + i) m) → frames_at k s n l ≡ frames_at k t n m
frames-same k s t zero l m f = rw zero-mul refl
frames-same k s t (suc n) l m f =
    let first : frame_at k s l ≡ frame_at k t m = simp add-zero at (f 0 (omega arith)) in
    let rest = frames-same k (suc s) (suc t) n l m (λ i h. rw (next s i, next t i) (f (suc i) (omega arith))) in
    frames_cons k s n l ∙ ap₂ ◌++◌ first rest ∙ sym (frames_cons k t n m)

-- what is below a number in each frame is below it in all
pub frames_below : (b k s n : ℕ) (l : List ℕ) → ((i : ℕ) → i < n → Below b (frame_at k (s + i) l)) → Below b (frames_at k s n l)
frames_below b k s zero l f = rw zero-mul (below_none b)
frames_below b k s (suc n) l f =
    let first : Below b (frame_at k s l) = rw add-zero at (f 0 (omega arith)) in
    let rest = frames_below b k (suc s) n l (λ i h. rw (next s i) (f (suc i) (omega arith))) in
    rw (frames_cons k s n l) (below-append b (frame_at k s l) (frames_at k (suc s) n l) first rest)

-- the frames before one that is whole have their bytes
pub frames_fit : (k j : ℕ) (l : List ℕ) → length (frame_at k j l) ≡ k → 0 < k → suc j * k ≤ length l
frames_fit k j l e h = omega (arith, e, length-take k (drop (j * k) l), length-drop (j * k) l, suc-mul j k)
