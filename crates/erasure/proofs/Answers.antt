-- What is filled over flat tables is filled over the checks that lie in them. Assumes nothing.
use mathlib.Core.Path.{◌≡◌}
use mathlib.Core.List.{List}
use Prim.Native.Nat.{ℕ}
use Rattle.refusal.specs.Outcome.{Condition, Outcome}
use Rattle.construction.specs.Codes.{Code}
use Rattle.tanner.specs.Checks.{Word, Checks}
use Rattle.tanner.specs.Flat.{joined, offsets, rows_of}
use Rattle.tanner.proofs.Flat.{rows_laid}
use Rattle.staircase.specs.Codes.{checks}
use Rattle.filling.specs.Calls.{FilledAs}

pub staircase-rows : (c : Code) (starts flat : List ℕ) → starts ≡ offsets (checks c) → flat ≡ joined (checks c) → rows_of starts flat ≡ checks c
staircase-rows c starts flat s f = rw (s, f) (rows_laid (checks c))

pub at-checks : (rows cs : Checks) → rows ≡ cs → (conditions : List Condition) (w : Word) (l : List ℕ) {a : Outcome ℕ} {w' l' : List ℕ}
    → FilledAs conditions rows w l a w' l' → FilledAs conditions cs w l a w' l'
at-checks rows cs e conditions w l h = rw e at h
