-- The work area: its front lent and given back, and its first 3,070 places cleared. Assumes nothing.
use mathlib.Core.Path.{◌≡◌, ap, ◌∙◌}
use mathlib.Core.List.{List, ◌++◌}
use Prim.Native.Nat.{ℕ, ◌+◌, ◌-◌, ◌≤◌}
use native.Mathlib.Omega.{arith}
use lib.Ieee.{Float}
use lib.ListN.{length, take, drop, replicate, length-drop}
use lib.Seq.{length-take-le, drop-append-add, drop-drop}
use Rattle.softmath.specs.Single.{zero32}
use Rattle.work_area.specs.Area.{cleared}

-- a part of n places that a decode was lent is none of what clearing leaves
pub lent-cleared : (work part : List Float) (n : ℕ) → length part ≡ length (take n work) → n ≤ 3070 → 3070 ≤ length work
    → cleared (part ++ drop n work) ≡ cleared work
unfolding cleared
lent-cleared work part n size less fits =
    let taken : length (take n work) ≡ n = length-take-le n work (omega arith) in
    let e : 3070 ≡ length part + (3070 - n) = omega (arith, size, taken) in
    let f : n + (3070 - n) ≡ 3070 = omega arith in
    ap (λ (l : List Float). replicate 3070 zero32 ++ l)
    (ap (λ (k : ℕ). drop k (part ++ drop n work)) e ∙ drop-append-add part (drop n work) (3070 - n) ∙ drop-drop (3070 - n) n work
    ∙ ap (λ (k : ℕ). drop k work) f)

pub front-cleared : (v part : List Float) → 3070 ≤ length v → part ≡ replicate (length (take 3070 v)) zero32 → part ++ drop 3070 v ≡ cleared v
unfolding cleared
front-cleared v part h e = rw (e, length-take-le 3070 v h)

pub cleared-length : (v : List Float) → 3070 ≤ length v → length (cleared v) ≡ length v
unfolding cleared
cleared-length v h = simp length-drop (omega arith)
