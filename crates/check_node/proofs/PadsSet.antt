-- A turn of the loop that puts a value at several places. Assumes nothing.
use mathlib.Core.Path.{◌≡◌}
use mathlib.Core.List.{List}
use Prim.Native.Nat.{ℕ, ◌+◌, ◌≤◌, ◌<◌}
use native.Mathlib.Numerals.{add-one}
use lib.Ieee.{Float}
use lib.ListN.{length, get_or, drop, set, drop_of_length-le}
use lib.Seq.{drop-cons}
use Rattle.slots.specs.Layout.{scattered}

pub scatter_more : (v : Float) (es : List ℕ) (w r : List Float) (i : ℕ) → i < length es
    → scattered v (drop i es) w ≡ r → scattered v (drop (i + 1) es) (set w (get_or es i 0) v) ≡ r
unfolding scattered
scatter_more v es w r i h e = rw (drop-cons es i 0, ← add-one) at e

pub scatter_done : (v : Float) (es : List ℕ) (w r : List Float) (i : ℕ) → length es ≤ i → scattered v (drop i es) w ≡ r → w ≡ r
unfolding scattered
scatter_done v es w r i h e = rw (drop_of_length-le es h) at e
