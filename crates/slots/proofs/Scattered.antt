-- A value put at several places: it is there, and elsewhere nothing changed. By induction over the places. Assumes nothing.
use mathlib.Core.Path.{◌≡◌, refl, sym, ◌∙◌}
use mathlib.Core.Bool.{Bool, true, false}
use mathlib.Core.Logic.{◌≢◌}
use mathlib.Core.List.{List, [], ◌∷◌}
use Prim.Native.Nat.{ℕ, zero, suc, ◌<◌}
use native.Mathlib.Omega.{arith}
use borrow.Author.Tests.{eqb-true, eqb-false}
use lib.Dec.{eqb}
use lib.Ieee.{Float, nan}
use lib.ListN.{length, get_or, set, length-set}
use lib.Seq.{get_or-set_same, get_or-set_other}
use Rattle.slots.specs.Layout.{scattered}
use Rattle.slots.proofs.Pads.{Listed}

module _ (v : Float) where
  pub scattered-length : (es : List ℕ) (w : List Float) → length (scattered v es w) ≡ length w
  unfolding scattered
  scattered-length [] w = refl
  scattered-length (e ∷ es) w = scattered-length es (set w e v) ∙ length-set w e v

  pub scattered-out : (es : List ℕ) (w : List Float) (x : ℕ) → ((k : ℕ) → k < length es → get_or es k 0 ≢ x) → get_or (scattered v es w) x nan ≡ get_or w x nan
  unfolding scattered
  scattered-out [] w x h = refl
  scattered-out (e ∷ es) w x h =
      scattered-out es (set w e v) x (λ k l. h (suc k) (omega arith))
      ∙ get_or-set_other w e x v nan (λ q. h 0 (omega arith) (sym q))

  -- what is v stays v
  set-by : (w : List Float) (e x : ℕ) → x < length w → get_or w x nan ≡ v → (t : Bool) → eqb x e ≡ t → get_or (set w e v) x nan ≡ v
  set-by w e x l q true t = rw (eqb-true x e t) (get_or-set_same w e v nan (omega (arith, eqb-true x e t)))
  set-by w e x l q false t = get_or-set_other w e x v nan (eqb-false x e t) ∙ q

  scattered-stays : (es : List ℕ) (w : List Float) (x : ℕ) → x < length w → get_or w x nan ≡ v → get_or (scattered v es w) x nan ≡ v
  unfolding scattered
  scattered-stays [] w x l q = q
  scattered-stays (e ∷ es) w x l q = scattered-stays es (set w e v) x (rw length-set l) (set-by w e x l q (eqb x e) refl)

  scattered-at : (es : List ℕ) (w : List Float) (k : ℕ) → k < length es → get_or es k 0 < length w → get_or (scattered v es w) (get_or es k 0) nan ≡ v
  unfolding scattered
  scattered-at [] w k h l = absurd (omega arith)
  scattered-at (e ∷ es) w zero h l = scattered-stays es (set w e v) e (rw length-set l) (get_or-set_same w e v nan l)
  scattered-at (e ∷ es) w (suc k) h l = scattered-at es (set w e v) k (omega arith) (rw length-set l)

  pub scattered-in : (es : List ℕ) (w : List Float) (x : ℕ) → Listed es x → x < length w → get_or (scattered v es w) x nan ≡ v
  scattered-in es w x i l = rw i.there at (scattered-at es w i.index i.inside (omega (arith, i.there)))
