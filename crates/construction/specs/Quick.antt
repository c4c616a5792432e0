-- The same columns in a form that is quick to compute: a list of the rows' loads is kept, and a pick marks the rows that it skips.
-- `proofs/Agree.antt` shows that the two forms agree.
use Rattle.std.specs.Prelude.{Bool, true, false, Some, None, List, [], ◌∷◌, ◌++◌, ℕ, zero, suc, ◌+◌, ◌%◌, ltb, get_or, take, drop, set, replicate}
use Rattle.xorshift.specs.Draw.{draw}
use Rattle.columns.specs.Rows.{holds}
use Rattle.picking.specs.Picks.{Found, Choice, settled}
use Rattle.construction.specs.Columns.{Picks, Made, finished}

-- 1 at each of the rows
unfoldable pub marked : List ℕ → List ℕ → List ℕ
marked [] fs = fs
marked (r ∷ rs) fs = marked rs (set fs r 1)

unfoldable pub marked_if : Bool → List ℕ → List ℕ → List ℕ
marked_if true c fs = marked c fs
marked_if false c fs = fs

-- 1 at each row that a column holds together with q
unfoldable pub marked_by : List (List ℕ) → ℕ → List ℕ → List ℕ
marked_by [] q fs = fs
marked_by (c ∷ cs) q fs = marked_by cs q (marked_if (holds c q) c fs)

-- the marks of a pick
unfoldable pub marks_of : ℕ → List (List ℕ) → List ℕ → List ℕ
marks_of m cs [] = replicate m 0
marks_of m cs (q ∷ qs) = marked_by cs q (set (marks_of m cs qs) q 1)

-- the least loaded so far, with its load
pub data Best : Type 0 where
  best : ℕ → ℕ → Best
  none : Best

unfoldable pub less_of : Bool → ℕ → ℕ → Best → Best
less_of true l r b = best l r
less_of false l r b = b

unfoldable pub met : ℕ → ℕ → ℕ → Best → Best
met zero l r none = best l r
met zero l r (best k q) = less_of (ltb l k) l r (best k q)
met (suc f) l r b = b

unfoldable pub scan : List ℕ → List ℕ → ℕ → Best → Best
scan [] fs r b = b
scan (l ∷ ls) [] r b = b
scan (l ∷ ls) (f ∷ fs) r b = scan ls fs (suc r) (met f l r b)

unfoldable pub found_in : Best → Found
found_in none = None
found_in (best l r) = Some r

unfoldable pub quick_search : List ℕ → List ℕ → ℕ → Found
quick_search ls fs s = found_in (scan (take s ls) (take s fs) 0 (scan (drop s ls) (drop s fs) s none))

unfoldable pub quick_pick : ℕ → List ℕ → List (List ℕ) → List ℕ → ℕ → Choice
quick_pick m ls cs picked s = settled m picked (s % m) (quick_search ls (marks_of m cs picked) (s % m))

-- one more at each of the rows
unfoldable pub loaded : List ℕ → List ℕ → List ℕ
loaded [] ls = ls
loaded (r ∷ rs) ls = loaded rs (set ls r (get_or ls r 0 + 1))

pub record Kept : Type 0 where
  pub loads : List ℕ
  pub so : Made

unfoldable pub quick_one_pick : ℕ → List ℕ → List (List ℕ) → Picks → Picks
quick_one_pick m ls cs p =
    let s = draw p.state in
    let c = quick_pick m ls cs p.rows s in
    record { state = s; rows = p.rows ++ (c.row ∷ []); relaxed = p.relaxed + c.relaxed }

unfoldable pub quick_picks : ℕ → ℕ → List ℕ → List (List ℕ) → ℕ → Picks
quick_picks zero m ls cs s = record { state = s; rows = []; relaxed = 0 }
quick_picks (suc t) m ls cs s = quick_one_pick m ls cs (quick_picks t m ls cs s)

unfoldable pub quick_finished : Kept → Picks → Kept
quick_finished g p = record { loads = loaded p.rows g.loads; so = finished g.so p }

unfoldable pub quick_column : ℕ → Kept → Kept
quick_column m g = quick_finished g (quick_picks 3 m g.loads g.so.columns g.so.state)

unfoldable pub quick_columns : ℕ → ℕ → ℕ → Kept
quick_columns zero m seed = record { loads = replicate m 0; so = record { state = seed; columns = []; relaxed = 0 } }
quick_columns (suc k) m seed = quick_column m (quick_columns k m seed)

unfoldable pub quick : ℕ → ℕ → ℕ → Made
quick k m seed = (quick_columns k m seed).so
