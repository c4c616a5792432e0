-- A staircase code's rows and tables: what is computed of each code (`Built`, `Laid`), and what follows of it for any. Assumes nothing.
use mathlib.Core.Path.{◌≡◌, sym, ap, ◌∙◌}
use mathlib.Core.List.{List, [], map, reverse, reverse-reverse}
use Prim.Native.Nat.{ℕ, ◌<◌}
use lib.ListN.{drop}
use Rattle.construction.specs.Columns.{Made, made, rows_of, laid_before}
use Rattle.construction.specs.Codes.{Code, message_rows, relaxed_picks}
use Rattle.tanner.specs.Flat.{joined, offsets, edges_from}
use Rattle.slots.specs.Layout.{slot_edges, three_at, threes}
use Rattle.slots.proofs.Tables.{slot_by, table-edges}
use Rattle.staircase.specs.Staircase.{check_rows, checks_of}
use Rattle.staircase.specs.Shape.{stairs}
use Rattle.staircase.specs.Codes.{columns, checks}

-- ---- the rows of the message columns, three a column

pub record Built (c : Code) (rows : List ℕ) : Type 0 where
  -- the generator's state after the last pick
  pub state : ℕ
  -- the construction gives the columns with these rows, and no pick is relaxed
  pub given : made c.k c.m c.seed ≡ record { state = state; columns = reverse (threes rows); relaxed = 0 }
  pub flat : laid_before (reverse (threes rows)) [] ≡ rows

module _ {c : Code} {rows : List ℕ} (b : Built c rows) where
  pub columns-built : (made c.k c.m c.seed).columns ≡ reverse (threes rows)
  columns-built = ap (λ (g : Made). g.columns) b.given

  pub no-relaxed : relaxed_picks c ≡ 0
  no-relaxed = ap (λ (g : Made). g.relaxed) b.given

  pub rows_right : rows ≡ message_rows c
  unfolding rows_of
  rows_right = sym (ap (λ (cs : List (List ℕ)). laid_before cs []) columns-built ∙ b.flat)

  columns-right : columns c ≡ threes rows
  unfolding columns
  columns-right = ap reverse columns-built ∙ reverse-reverse (threes rows)

  pub checks-right : checks c ≡ check_rows c.k (threes rows) 0 c.m
  unfolding checks
  checks-right = ap (checks_of c.k c.m) columns-right

-- ---- the tables that hold the checks, flat and by their shape, and the places of the message bits' edges by slots

pub record Laid (c : Code) (rows starts flat : List ℕ) (width : ℕ) (taps places : List ℕ) : Type 0 where
  pub built : Built c rows
  pub bits : joined (check_rows c.k (threes rows) 0 c.m) ≡ flat
  pub ends : offsets (check_rows c.k (threes rows) 0 c.m) ≡ starts
  pub shape : check_rows c.k (threes rows) 0 c.m ≡ stairs c.k width c.m taps
  pub slots : threes places ≡ map (map (slot_by c.m 0 0 (drop 1 starts))) (edges_from 0 c.k flat)

module _ {c : Code} {rows starts flat : List ℕ} {width : ℕ} {taps places : List ℕ} (l : Laid c rows starts flat width taps places) where
  pub check-bits-right : flat ≡ joined (checks c)
  check-bits-right = sym (ap joined (checks-right l.built) ∙ l.bits)

  pub check-starts-right : starts ≡ offsets (checks c)
  check-starts-right = sym (ap offsets (checks-right l.built) ∙ l.ends)

  pub taps-right : stairs c.k width c.m taps ≡ checks c
  taps-right = sym (checks-right l.built ∙ l.shape)

  pub places-right : (b : ℕ) → b < c.k → three_at places b ≡ slot_edges (checks c) c.m b
  places-right = table-edges (checks c) c.m starts check-starts-right c.k flat places check-bits-right l.slots
