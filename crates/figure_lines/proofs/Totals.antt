-- The line of a total, by what the two figures were answered: by cases on whether there are frames.
use mathlib.Core.Path.{◌≡◌, refl}
use mathlib.Core.Bool.{Bool, true, false, cond}
use Prim.Native.Nat.{ℕ}
use native.Mathlib.Omega.{arith}
use lib.Dec.{eqb}
use Rattle.refusal.specs.Outcome.{accepted, refused, judged}
use Rattle.text.specs.Text.{refusal_line}
use Rattle.figures.specs.Fraction.{Fraction, lowest}
use Rattle.figures.specs.Totals.{fraction_refusals}
use Rattle.figures.specs.declared.Totals.{Totals}
use Rattle.figure_lines.specs.Lines.{figures_text, totals_line}

-- an answer that depends on one test alone: which it was
held : {A : Type 0} (b : Bool) (n k : ℕ) (x : A) → refused k ≡ cond b (refused n) (accepted x) → b ≡ true
held true n k x e = refl
held false n k x e = let z : ◌≡◌ {A = ℕ} 0 1 = cc in absurd (omega arith)

passed : {A : Type 0} (b : Bool) (n : ℕ) (v x : A) → accepted v ≡ cond b (refused n) (accepted x) → (b ≡ false) × (v ≡ x)
passed true n v x e = let z : ◌≡◌ {A = ℕ} 0 1 = cc in absurd (omega arith)
passed false n v x e = (refl, cc)

module _ (t : Totals) where
  -- a figure was refused
  pub no-figures : (k : ℕ) (x : Fraction) → refused k ≡ judged (fraction_refusals t.frames) x → totals_line t ≡ refusal_line 15
  unfolding totals_line
  no-figures k x e = rw (held (eqb t.frames 0) 15 k x e)

  -- both were given
  pub with-figures : (share mean : Fraction)
      → accepted share ≡ judged (fraction_refusals t.frames) (lowest t.clean t.frames)
      → accepted mean ≡ judged (fraction_refusals t.frames) (lowest t.counts t.frames)
      → figures_text t share mean ≡ totals_line t
  unfolding totals_line
  with-figures share mean e f =
      let s = passed (eqb t.frames 0) 15 share (lowest t.clean t.frames) e in
      let m = passed (eqb t.frames 0) 15 mean (lowest t.counts t.frames) f in
      rw (s.0, s.1, m.1)
