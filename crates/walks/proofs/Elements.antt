-- An element of a `&[T]` that a function holds is read whole. `u = s[j]` is `m = j * size; p = &s.0[m]; t = *p; u = t` in MIR, with the locals i, s, m, p,
-- t and u, where local i has j.
--     reads-element    the element is in local u, and stands in the relation of its type to its machine value
-- Assumes `Logic`.
use mathlib.Core.Path.{◌≡◌, refl, sym, ap, subst}
use mathlib.Core.Bool.{Bool, true}
use mathlib.Core.List.{List, [], ◌∷◌}
use Prim.Native.Nat.{ℕ, ◌*◌, ◌<◌, ◌^◌}
use native.Mathlib.Nat.{mul-le-mul_right}
use native.Mathlib.Omega.{arith}
use lib.Dec.{T, ltb}
use lib.ListN.{length, get_or, set}
use seplogic.Ra.Ura.{Ura}
use mir.Syntax.{Ty, Lifetime, Mutability, w64, unsigned, ty_int, ty_ptr, ty_ref, place, deref, field, copy, int, rv_opd, op2, mul, offset, Body, seq, assign}
use mir.Val.{Val, vint, vptr, has_ty, WT}
use prog.Wp.{Calls, Loops}
use types.Logic.{Logic}
use types.Kit.{Item, ‵, Post, Seq, runs, ◌$◌, move, drop, fsplit, fjoin, rewrite}
use types.Run.{hop, stop, from, load, lit, of_opd, bin, look_raw}
use denote.RattleType.{RattleType}
use denote.Index.{place as place_of, place_is, looks_slice, shuts_slice, elem_out, elem_back}
use denote.Laws.{Is, shows}
use denote.Memory.{mem, cell_at}
use denote.Slice.{slice_ty, Room}
use types.Part.{look_in}
use Rattle.walks.proofs.Plain.{Plain}
use Rattle.walks.proofs.Lend.{Handle, counted, Shared, shared-copied}
use Rattle.walks.proofs.Frame.{Spot, Cell, away, full, present, frame, type_of, cell-of, var, pointer-of, sets, sets-as}

-- what the locals are, and what they are to be
abbrev Seen : Type 0
Seen = Ty × Ty × Ty × Ty × Ty × Cell × Cell × Cell × Cell × Cell × Bool × Bool × Bool × Bool

abbrev seen : List Spot → List Cell → List Cell → List Cell → List Cell → ℕ → ℕ → ℕ → ℕ → ℕ → ℕ → Seen
seen E cs cs₁ cs₂ cs₃ i s m p t u = (
  type_of E s,
  type_of E m,
  type_of E p,
  type_of E t,
  type_of E u,
  get_or cs i away,
  get_or cs₁ s away,
  get_or cs₁ m away,
  get_or cs₂ p away,
  get_or cs₃ t away,
  present (get_or cs m away),
  present (get_or cs₁ p away),
  present (get_or cs₂ t away),
  present (get_or cs₃ u away),
)

abbrev laid : Ty → Ty → Val → Val → Val → Val → Val → Seen
laid ρ τ j slice byte pointer y =
    (slice_ty ρ, ty_int w64, ty_ptr, τ, τ, full j, full slice, full byte, full pointer, full y, true, true, true, true)

-- a test that holds; a value of a type that is another
passed : {x : Bool} → x ≡ true → T x
passed e = subst T (sym e) tt

fitting : {τ σ : Ty} (v : Val) → τ ≡ σ → T (has_ty σ v) × WT v → T (has_ty τ v) × WT v
fitting v e typed = subst (λ (τ : Ty). T (has_ty τ v) × WT v) (sym e) typed

-- element j of ys, which lie at h
module _ (P : Plain) (h : Handle) (ys : List P.row.Denot) (j : ℕ) (d : P.row.Denot) where
  abbrev R : RattleType
  R = P.row

  abbrev y : R.Denot
  y = get_or ys j d

  -- how many bytes lie before it, and where it lies
  abbrev bytes : ℕ
  bytes = j * (mem R).size

  abbrev at : ℕ
  at = place_of (mem R).size h.offset j

  module _ (cs : List Cell) (m p t u : ℕ) where
    abbrev cs₁ : List Cell
    cs₁ = set cs m (full (vint w64 bytes))

    abbrev cs₂ : List Cell
    cs₂ = set cs₁ p (full (vptr h.block at))

    abbrev cs₃ : List Cell
    cs₃ = set cs₂ t (full (P.val y))

    abbrev pub with-element : List Cell
    with-element = set cs₃ u (full (P.val y))

  bytes_fit : j < length ys → Room R (length ys) → bytes < 2 ^ 64
  bytes_fit inside room = omega (arith, mul-le-mul_right {m = j} {n = length ys} (mem R).size (omega (arith, inside)), room.1)

  pub reads-element : {M : Type 1} {𝓤 : Ura M} {𝓛 : Logic 𝓤} {K : Type 0} {Γ : List (Item 𝓤)} {E : List Spot} {cs : List Cell}
      {C : Calls 𝓤 𝓛.H} {Λ : Loops 𝓤 𝓛.H} {q : Post 𝓤 𝓛.H} {rest : Body} {i s m p t u : ℕ} {ℓ : Lifetime} {μ : Mutability} {σ : Ty}
      → K → j < length ys → Room R (length ys) → T (ltb (mem R).size (2 ^ 64))
      → seen E cs (cs₁ cs m p t u) (cs₂ cs m p t u) (cs₃ cs m p t u) i s m p t u
      ≡ laid (ty_ref ℓ μ σ) P.mir (vint w64 j) (counted h (length ys)) (vint w64 bytes) (vptr h.block at) (P.val y)
      → (Is R y (P.val y ∷ []) → Seq K 𝓛 (‵ (frame E (with-element cs m p t u)) ∷ ‵ (Shared R h (length ys) ys) ∷ Γ) (runs C Λ E rest q))
      → Seq K 𝓛 (‵ (frame E cs) ∷ ‵ (Shared R h (length ys) ys) ∷ Γ) (runs C Λ E
      (seq (assign (place m []) (op2 (mul unsigned) (copy (place i [])) (int w64 (mem R).size)))
      (seq (assign (place p []) (op2 offset (copy (place s (field 0 ∷ []))) (copy (place m []))))
      (seq (assign (place t []) (rv_opd (copy (place p (deref P.mir ∷ [])))))
      (seq (assign (place u []) (rv_opd (copy (place t [])))) rest)))) q)
  reads-element {𝓤 = 𝓤} {𝓛} {s = s} {m} {p} {t} {u} k inside room small e next =
      let vals : R.Denot → List Val = λ x. P.val x ∷ [] in
      let fits : bytes < 2 ^ 64 = bytes_fit inside room in
      sets k (bin k (var k (ap (λ x. x.5) e)) (lit k small) (record { fits = fits })) (passed (ap (λ x. x.10) e))
      (fitting (vint w64 bytes) (ap (λ x. x.1) e) (tt, record { fits = fits })) $
      sets-as k (bin k (pointer-of s (ap (λ x. x.0) e) (ap (λ x. x.6) e) k) (var k (ap (λ x. x.7) e)) tt)
      (ap (vptr h.block) (sym (place_is (mem R).size h.offset j))) (passed (ap (λ x. x.11) e))
      (fitting (vptr h.block at) (ap (λ x. x.2) e) (tt, tt)) $
      -- a copy of what the slice owns is opened
      move k (1 ∷ []) $ shared-copied k tt R h (length ys) ys P.laws $ move k (1 ∷ []) $ fsplit k $ drop k $ move k (0 ∷ 2 ∷ []) $
      looks_slice k tt R (P.copied 𝓛) ys h.block h.offset (λ q'.
      elem_out k R (Is R) (shows 𝓛 R) vals P.tells q' ys j d h.block h.offset inside (λ g.
      rewrite k 0 (λ (τs : List Ty). ‵ (cell_at q' τs (vals y) h.block at)) P.alone refl $
      -- held: the element's cell, what it owns, the other elements, the open borrow, the borrow, the other copy, and the locals
      move k (6 ∷ []) $
      sets k (of_opd k (load k (from k (hop k (look_in k 0 (cell-of k p (ap (λ x. x.8) e))) (stop k))) (look_raw k 1 refl))) (passed (ap (λ x. x.12) e))
      (fitting (P.val y) (ap (λ x. x.3) e) (P.typed 𝓛 y g)) $
      -- and closed again
      move k (1 ∷ 2 ∷ 3 ∷ []) $ rewrite k 0 (λ (τs : List Ty). ‵ (cell_at q' τs (vals y) h.block at)) (sym P.alone) refl $
      elem_back k R q' ys j d (vals y) h.block h.offset inside $ move k (0 ∷ 2 ∷ []) $ shuts_slice k tt R q' ys h.block h.offset $
      move k (3 ∷ 0 ∷ []) $ fjoin k $ move k (2 ∷ []) $ drop k $ move k (1 ∷ 0 ∷ []) $
      sets k (of_opd k (var k (ap (λ x. x.9) e))) (passed (ap (λ x. x.13) e)) (fitting (P.val y) (ap (λ x. x.4) e) (P.typed 𝓛 y g)) $ next g))
