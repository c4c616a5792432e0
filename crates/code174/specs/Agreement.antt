-- That `NM`, `NUM_ROWS` and `MN` agree: the test over the whole tables, and what it says of each entry and each edge. (Document 01: "That `NM`,
-- `NUM_ROWS` and `MN` agree, each edge in both, is tested once over all 522 edges, and the test's rule is proved from it.")
use Rattle.std.specs.Prelude.{◌≡◌, Bool, true, false, cond, ◌&&◌, ℕ, zero, suc, pred, ◌+◌, ◌*◌, ◌<◌, ◌≤◌, eqb, ltb}
use Rattle.std.specs.Prelude.{List, [], ◌∷◌, ◌++◌, map, length, get_or, replicate}
use Rattle.std.specs.Bool.{beq}
use Rattle.tanner.specs.Checks.{Checks}
use Rattle.tanner.specs.Flat.{joined, places}
use Rattle.code174.specs.Tables.{nm, num_rows, mn}
use Rattle.code174.specs.Code174.{checks}

-- f holds at each number below n
unfoldable pub each : ℕ → (ℕ → Bool) → Bool
each zero f = true
each (suc n) f = f n && each n f

unfoldable pub same : List ℕ → List ℕ → Bool
same [] [] = true
same [] (y ∷ ys) = false
same (x ∷ xs) [] = false
same (x ∷ xs) (y ∷ ys) = eqb x y && same xs ys

-- how often x stands in a list
unfoldable pub times : ℕ → List ℕ → ℕ
times x [] = 0
times x (y ∷ ys) = cond (eqb y x) 1 0 + times x ys

-- the checks that list position p, ascending, each as often as it lists p; the first check is number c
unfoldable pub listing : ℕ → ℕ → Checks → List ℕ
listing p c [] = []
listing p c (r ∷ rs) = replicate (times p r) c ++ listing p (suc c) rs

-- the check of an edge, where edges are numbered check by check, in row order; the first check is number c, and its first edge is number a
unfoldable pub check_of_edge : ℕ → ℕ → Checks → ℕ → ℕ
check_of_edge c a [] e = c
check_of_edge c a (r ∷ rs) e = cond (ltb e (a + length r)) c (check_of_edge (suc c) (a + length r) rs e)

-- entry i of row c of `NM`, and entry k of position p's row of `MN`
abbrev pub nm_at : ℕ → ℕ → ℕ
nm_at c i = get_or nm (7 * c + i) 0

abbrev pub mn_at : ℕ → ℕ → ℕ
mn_at p k = get_or mn (3 * p + k) 0

-- `MN`'s row of position p, checks counted from 0
unfoldable pub mn_row : ℕ → List ℕ
mn_row p = pred (mn_at p 0) ∷ pred (mn_at p 1) ∷ pred (mn_at p 2) ∷ []

-- each of the 7 places of row c of `NM` is a position from 1 to 174 where `NUM_ROWS` says that there is an entry, and 0 elsewhere
unfoldable pub row_holds : ℕ → Bool
row_holds c = each 7 (λ i. beq (ltb i (get_or num_rows c 0)) (ltb 0 (nm_at c i)) && ltb (nm_at c i) 175)

-- position p's three checks in `MN` ascend, from 1 to 83, and are those that list p
unfoldable pub position_holds : ℕ → Bool
position_holds p =
    (ltb 0 (mn_at p 0) && ltb (mn_at p 0) (mn_at p 1)) && (ltb (mn_at p 1) (mn_at p 2) && ltb (mn_at p 2) 84) && same (listing p 0 checks) (mn_row p)

-- the test: "24 checks have 7 entries, 59 have 6", every row of `NM` and every position of `MN`
unfoldable pub tables_agree : Bool
tables_agree = (eqb (times 7 num_rows) 24 && eqb (times 6 num_rows) 59) && each 83 row_holds && each 174 position_holds

-- what the test says
pub record Agreed : Type 0 where
  pub sevens : times 7 num_rows ≡ 24
  pub sixes : times 6 num_rows ≡ 59
  -- the entries of `NM` are where `NUM_ROWS` says
  pub entries : (c i : ℕ) → c < 83 → i < 7 → (ltb i (get_or num_rows c 0) ≡ ltb 0 (nm_at c i)) × (nm_at c i ≤ 174)
  -- a position's three checks ascend
  pub rising : (p : ℕ) → p < 174 → (0 < mn_at p 0) × (mn_at p 0 < mn_at p 1) × (mn_at p 1 < mn_at p 2) × (mn_at p 2 ≤ 83)
  -- the k-th check that lists position p is `MN`'s k-th, and there are no more
  pub order : (p : ℕ) → p < 174 → listing p 0 checks ≡ mn_row p
  -- the edges over which the decoder adds position p's answers (`heard` of one_round/specs/Round) are those of its checks "in `MN` order"
  pub heard : (p : ℕ) → p < 174 → map (check_of_edge 0 0 checks) (places p 0 (joined checks)) ≡ mn_row p
  -- each edge is in both: check c lists position p as often as position p's row of `MN` lists check c, and that is once at most
  pub edge : (p : ℕ) → p < 174 → (c : ℕ) → times p (get_or checks c []) ≡ times c (mn_row p)
  pub once : (p : ℕ) → p < 174 → (c : ℕ) → times p (get_or checks c []) ≤ 1
