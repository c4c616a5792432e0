-- An entry of a list, and a part of one: what stands there after a function of each entry, and how long a part is. Assumes nothing.
use mathlib.Core.Path.{◌≡◌, refl}
use mathlib.Core.List.{List, [], ◌∷◌, map}
use Prim.Native.Nat.{ℕ, zero, suc, ◌+◌, ◌-◌, ◌≤◌, ◌<◌}
use native.Mathlib.Nat.{add-sub_cancel_left}
use native.Mathlib.Omega.{arith}
use lib.ListN.{length, take, drop, get_or, length-drop}
use lib.Seq.{take_all, length-take-le}

-- a and b are what is read past the end
pub map_at : {A B : Type 0} (f : A → B) (l : List A) (j : ℕ) (a : A) (b : B) → j < length l → get_or (map f l) j b ≡ f (get_or l j a)
map_at f [] j a b h = absurd (omega arith)
map_at f (x ∷ l) zero a b h = refl
map_at f (x ∷ l) (suc j) a b h = map_at f l j a b (omega arith)

-- the part from n to the end
pub rest_whole : {A : Type 0} (l : List A) (n : ℕ) → take (length l - n) (drop n l) ≡ drop n l
rest_whole l n = take_all (length l - n) (drop n l) (simp length-drop (omega arith))

-- the part of k entries from `at` on
pub part_size : {A : Type 0} (l : List A) (at k : ℕ) → at + k ≤ length l → length (take (at + k - at) (drop at l)) ≡ k
part_size l at k h = rw (add-sub_cancel_left at k) (length-take-le k (drop at l) (simp length-drop (omega arith)))
