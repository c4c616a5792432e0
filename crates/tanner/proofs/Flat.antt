-- Check lists laid flat: what lies in the arrays is the check list, and each edge is one of its position's. By induction over the lists. Assumes nothing.
use mathlib.Core.Path.{◌≡◌, refl, ap}
use mathlib.Core.List.{List, [], ◌∷◌, ◌++◌, append_assoc}
use Prim.Native.Nat.{ℕ, zero, suc, ◌+◌, ◌-◌, ◌<◌, ◌≤◌}
use native.Mathlib.Nat.{le_of_suc-le-suc, add-zero, add-suc, suc-add}
use native.Mathlib.Numerals.{add-one}
use native.Mathlib.Omega.{arith}
use lib.ListN.{length, get_or, take, drop, length-append}
use lib.Seq.{take_at, drop_at}
use Rattle.tanner.specs.Checks.{Checks}
use Rattle.tanner.specs.Flat.{joined, ends, offsets, cut, rows_from, rows_of, Within, FlatChecks, places, edges_from}
use Rattle.lists.specs.Below.{Below}
use Rattle.tanner.proofs.Count.{AllBelow, none, more}
use Rattle.lists.proofs.Below.{below_left, below_right}

-- ---- what lies in the arrays is the check list

cut-joined : (rs : Checks) (p : List ℕ) (a : ℕ) → length p ≡ a → cut a (ends a rs) (p ++ joined rs) ≡ rs
unfolding cut ends joined
cut-joined [] p a e = refl
cut-joined (r ∷ rs) p a e =
    let k : a + length r - a ≡ length r = omega arith in
    let here : take (length r) (drop a (p ++ (r ++ joined rs))) ≡ r = rw (drop_at p (r ++ joined rs) a e) (take_at r (joined rs) (length r) refl) in
    let rest : cut (a + length r) (ends (a + length r) rs) (p ++ (r ++ joined rs)) ≡ rs =
    rw (← append_assoc p r (joined rs)) (cut-joined rs (p ++ r) (a + length r) (simp (length-append, e)))
    in
    rw (k, here, rest)

pub rows_laid : (rs : Checks) → rows_of (offsets rs) (joined rs) ≡ rs
unfolding rows_from
rows_laid rs = cut-joined rs [] 0 refl

-- ---- the arrays of a check list meet what the counting functions ask

ends-length : (a : ℕ) (rs : Checks) → length (ends a rs) ≡ length rs
unfolding ends
ends-length a [] = refl
ends-length a (r ∷ rs) = ap suc (ends-length (a + length r) rs)

ends_within : (rs : Checks) (a k : ℕ) → k < length (ends a rs)
    → (get_or (a ∷ ends a rs) k 0 ≤ get_or (ends a rs) k 0) × (get_or (ends a rs) k 0 ≤ a + length (joined rs))
unfolding ends joined
ends_within [] a k h = omega arith
ends_within (r ∷ rs) a zero h = simp length-append (omega arith)
ends_within (r ∷ rs) a (suc k) h = simp length-append (omega (arith, ends_within rs (a + length r) k (omega arith)))

pub offsets_within : (rs : Checks) → Within (offsets rs) (length (joined rs))
unfolding Within
offsets_within rs k h = rw add-one (omega (arith, ends_within rs 0 k (le_of_suc-le-suc (rw add-one at h))))

pub flat_checks : (rs : Checks) (n : ℕ) → length rs < 65536 → Below n (joined rs) → FlatChecks (offsets rs) (joined rs) n
flat_checks rs n few low = record {
  some = omega arith;
  few = omega (arith, ends-length 0 rs);
  within = offsets_within rs;
  low = low;
}

-- each check covers positions below n where the flat list holds such alone

pub all_below : (n : ℕ) (rs : Checks) → Below n (joined rs) → AllBelow n rs
unfolding joined
all_below n [] low = none
all_below n (r ∷ rs) low = more (below_left n r (joined rs) low) (all_below n rs (below_right n r (joined rs) low))

-- ---- one list of those laid flat

cut_at : (s flat : List ℕ) (a b : ℕ) → b < length s
    → get_or (cut a s flat) b [] ≡ take (get_or (a ∷ s) (suc b) 0 - get_or (a ∷ s) b 0) (drop (get_or (a ∷ s) b 0) flat)
unfolding cut
cut_at [] flat a b h = absurd (omega arith)
cut_at (e ∷ s) flat a zero h = refl
cut_at (e ∷ s) flat a (suc b) h = cut_at s flat e b (omega arith)

pub row_at : (rs : Checks) (b : ℕ) → b < length rs
    → take (get_or (offsets rs) (b + 1) 0 - get_or (offsets rs) b 0) (drop (get_or (offsets rs) b 0) (joined rs)) ≡ get_or rs b []
unfolding rows_from
row_at rs b h = rw (add-one, ← cut_at (ends 0 rs) (joined rs) 0 b (omega (arith, ends-length 0 rs))) (ap (λ (l : Checks). get_or l b []) (rows_laid rs))

-- ---- each position's edges

pub edges_length : (p n : ℕ) (flat : List ℕ) → length (edges_from p n flat) ≡ n
unfolding edges_from
edges_length p zero flat = refl
edges_length p (suc n) flat = ap suc (edges_length (suc p) n flat)

pub edges_at : (p n b : ℕ) (flat : List ℕ) → b < n → get_or (edges_from p n flat) b [] ≡ places (p + b) 0 flat
unfolding edges_from
edges_at p zero b flat h = absurd (omega arith)
edges_at p (suc n) zero flat h = rw add-zero
edges_at p (suc n) (suc b) flat h = rw (add-suc, ← suc-add) (edges_at (suc p) n b flat (omega arith))

pub offsets-length : (rs : Checks) → length (offsets rs) ≡ suc (length rs)
offsets-length rs = ap suc (ends-length 0 rs)
