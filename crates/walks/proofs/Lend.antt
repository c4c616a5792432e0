-- A reference that a function holds is lent again for a call, for a lifetime of the call, and comes back. What is held of a reference stands with its share of
-- the lifetime's token as one formula.
--     Handle           by what a reference is held: the lifetime, the share of its token, the ghost name and the place
--     at, shared_at, lent             the reference of a handle at a value, `&mut` and `&`, and the handle that is lent on for the lifetime α under the name δ
--     Ref, Slice, Shared              a `&mut T` is held at x; a `&mut [T]` and a `&[T]` of n elements are held at ys
--     ref-lent         Ref x  becomes the token of a new lifetime, what the reference that is lent on owns, and what is kept
--     ref_back         the token, the last value y and what was kept become  Ref y
--     slice-lent, slice_back          the same of a slice
--     slice-shared, shared_back       a slice is lent on as a `&[T]`, and comes back as it was
--     shared-copied    what a `&[T]` owns is had twice
-- What a reference owns does not read its lifetime's name in MIR, so it is `erased` here. Assumes `Logic`.
use mathlib.Core.Path.{◌≡◌, sym, ap, ◌∙◌}
use Prim.Native.Nat.{ℕ}
use mathlib.Core.List.{List, [], ◌∷◌}
use lib.ListN.{length}
use seplogic.Ra.Ura.{Ura}
use base.Fraction.{full_share}
use mir.Syntax.{erased}
use mir.Val.{Val, vptr}
use base.Fml.{Lft, GName, Share, Fml, fsep, feq, flft, fres}
use types.Logic.{Logic}
use types.Kit.{Item, ‵, some, given, later, ◌⊛◌, Goal, Soaks, Seq, Step, step}
use types.Kit.{◌$◌, move, use1, use2, use3, split, join, pick, learn, fsplit, fjoin, feq_l, feq_i, await, drop}
use types.Tokens.{lft_new, lft_end}
use denote.RattleType.{RattleType, RowLaws}
use denote.Ref.{Bor, MutBor, MutRef}
use denote.Slice.{MutSlice, ShrSlice, slice_val, shr_slice_vals, mut_slice_vals, finally, shr_slice_copy}
use denote.Lend.{LentAgain, lends_again, comes_back}
use borrow.Table.Owned as O
use borrow.Rule.Slice.Lend.{kept_f, sl_relend, sl_relent_backˡ}
use borrow.Rule.Array.Share.{share_cells}
use borrow.Rule.Slice.Reshare.{kept_s, sl_reshare_as, sl_reshare_back}
use denote.Shares.{Shares}

pub record Handle : Type 0 where
  pub life : Lft
  pub share : Share
  pub name : GName
  pub block : ℕ
  pub offset : ℕ

-- the handle of a reference that was passed at the lifetime κ with the share q
abbrev pub handle : {X : Type 0} → Lft → Share → MutBor X → Handle
handle κ q x = record { life = κ; share = q; name = x.ghost_name; block = x.ref_ptr.0; offset = x.ref_ptr.1 }

abbrev pub lent : Handle → ℕ → GName → Handle
lent h α δ = record { life = α ∷ []; share = full_share; name = δ; block = h.block; offset = h.offset }

abbrev pub at : {X : Type 0} → Handle → X → MutBor X
at h x = record { ref_ptr = (h.block, h.offset); ghost_name = h.name; now = x }

abbrev pub shared_at : {X : Type 0} → Handle → X → Bor X
shared_at h x = record { ref_ptr = (h.block, h.offset); now = x }

-- the machine value of a `&mut T`, and of a slice of n elements
abbrev pub pointer : Handle → Val
pointer h = vptr h.block h.offset

abbrev pub counted : Handle → ℕ → Val
counted h n = slice_val (h.block, h.offset) n

abbrev pub token : Handle → Fml
token h = flft h.life h.share

module _ (R : RattleType) (h : Handle) where
  -- what is owned
  abbrev pub RefOwn : R.Denot → Fml
  RefOwn x = (MutRef erased h.life R).own_val (at h x) (pointer h ∷ [])

  abbrev pub SliceOwn : ℕ → List R.Denot → Fml
  SliceOwn n ys = (MutSlice erased h.life R).own_val (at h ys) (counted h n ∷ [])

  abbrev pub SharedOwn : ℕ → List R.Denot → Fml
  SharedOwn n ys = (ShrSlice erased h.life R).own_val (shared_at h ys) (counted h n ∷ [])

  -- what is held
  abbrev pub Ref : R.Denot → Fml
  Ref x = fsep (RefOwn x) (token h)

  abbrev pub Slice : ℕ → List R.Denot → Fml
  Slice n ys = fsep (SliceOwn n ys) (token h)

  abbrev pub Shared : ℕ → List R.Denot → Fml
  Shared n ys = fsep (SharedOwn n ys) (token h)

  -- what is kept while it is lent
  abbrev pub RefKept : ℕ → GName → R.Denot → Fml
  RefKept α δ x = LentAgain R h.life (α ∷ []) h.share h.name h.block h.offset δ x

  abbrev Count : ℕ → List R.Denot → Fml
  Count n ys = feq (List Val) (counted h n ∷ []) (shr_slice_vals (shared_at h ys))

  module _ {M : Type 1} {𝓤 : Ura M} (𝓛 : Logic 𝓤) where
    abbrev pub SliceKept : ℕ → GName → ℕ → List R.Denot → Item 𝓤
    SliceKept α δ n ys = ‵ (Count n ys) ⊛ kept_f 𝓛 R h.life h.share (α ∷ []) h.name δ ys h.block h.offset

    abbrev pub SharedKept : ℕ → ℕ → List R.Denot → Item 𝓤
    SharedKept α n ys = ‵ (Count n ys) ⊛ kept_s 𝓛 R h.life h.share (α ∷ []) h.name ys h.block h.offset

  -- what is said of the last values under the name δ
  abbrev pub RefLast : GName → R.Denot → Fml
  RefLast δ y = fres δ (R.coded.code y)

  abbrev pub SliceLast : GName → List R.Denot → List R.Denot → Fml
  SliceLast δ ys zs = fsep (finally R δ zs) (feq ℕ (length zs) (length ys))

module _ {M : Type 1} {𝓤 : Ura M} {𝓛 : Logic 𝓤} {K : Type 0} {Γ : List (Item 𝓤)} {G : Goal 𝓤 𝓛.H} (t : K) (z : Soaks G)
    (R : RattleType) (h : Handle) where
  pub ref-lent : (x : R.Denot) → ((α : ℕ) (δ : GName) → Seq K 𝓛 (‵ (token (lent h α δ)) ∷ ‵ (RefOwn R (lent h α δ) x) ∷ ‵ (RefKept R h α δ x) ∷ Γ) G)
      → Seq K 𝓛 (‵ (Ref R h x) ∷ Γ) G
  ref-lent x k = fsplit t $ lft_new t z (λ α. move t (1 ∷ 2 ∷ []) $
      use2 𝓛 (later (some (λ (δ : GName). ‵ (RefOwn R (lent h α δ) x) ⊛ ‵ (RefKept R h α δ x))))
      (lends_again 𝓛 R erased h.life (α ∷ []) h.share h.name h.block h.offset erased x) $
      await t z $ pick t (λ δ. split t $ move t (2 ∷ []) $ k α δ))

  pub ref_back : (α : ℕ) (δ : GName) (x y : R.Denot)
      → Step K 𝓛 (‵ (Ref R h y) ∷ Γ) G (‵ (token (lent h α δ)) ∷ ‵ (RefLast R h δ y) ∷ ‵ (RefKept R h α δ x) ∷ Γ) G
  ref_back α δ x y = step (λ s. lft_end t z $ move t (0 ∷ 2 ∷ 1 ∷ []) $
      use3 𝓛 (later (‵ (RefOwn R h y) ⊛ ‵ (token h))) (comes_back 𝓛 R erased h.life (α ∷ []) h.share h.name h.block h.offset δ x y) $
      await t z $ split t $ fjoin t $ s)

  module _ (n : ℕ) (ys : List R.Denot) where
    pub slice-lent : ((α : ℕ) (δ : GName) → Seq K 𝓛 (‵ (token (lent h α δ)) ∷ ‵ (SliceOwn R (lent h α δ) n ys) ∷ SliceKept R h 𝓛 α δ n ys ∷ Γ) G)
        → Seq K 𝓛 (‵ (Slice R h n ys) ∷ Γ) G
    slice-lent k = fsplit t $ fsplit t $ fsplit t $ feq_l t (λ e. fjoin t $ lft_new t z (λ α. move t (1 ∷ 2 ∷ []) $
        use2 𝓛 (later (some (λ (δ : GName). ‵ ((O.MutSlice erased (α ∷ []) R).own_val (at (lent h α δ) ys))
        ⊛ kept_f 𝓛 R h.life h.share (α ∷ []) h.name δ ys h.block h.offset)))
        (sl_relend 𝓛 R h.life h.share (α ∷ []) h.block h.offset h.name ys) $ await t z $ pick t (λ δ. split t $ fsplit t $
        feq_i t (List Val) (counted h n ∷ []) (mut_slice_vals (at h ys)) e $ fjoin t $ fjoin t $ move t (1 ∷ []) $
        feq_i t (List Val) (counted h n ∷ []) (mut_slice_vals (at h ys)) e $ join t $ move t (2 ∷ 1 ∷ []) $ k α δ)))

    pub slice_back : (α : ℕ) (δ : GName) (zs : List R.Denot) → (length zs ≡ length ys → Seq K 𝓛 (‵ (Slice R h n zs) ∷ Γ) G)
        → Seq K 𝓛 (‵ (token (lent h α δ)) ∷ ‵ (SliceLast R h δ ys zs) ∷ SliceKept R h 𝓛 α δ n ys ∷ Γ) G
    slice_back α δ zs k = lft_end t z $ move t (1 ∷ []) $ fsplit t $ move t (1 ∷ []) $ drop t $ move t (2 ∷ []) $ split t $
        feq_l t (λ e. move t (2 ∷ 0 ∷ 1 ∷ []) $
        use3 𝓛 (later (given (length zs ≡ length ys) (‵ ((O.MutSlice erased h.life R).own_val (at h zs)) ⊛ ‵ (token h))))
        (sl_relent_backˡ 𝓛 R h.life h.share (α ∷ []) h.block h.offset h.name δ ys zs) $ await t z $ learn t (λ same. split t $ fsplit t $
        feq_i t (List Val) (counted h n ∷ []) (mut_slice_vals (at h zs)) (e ∙ ap (λ (m : ℕ). counted h m ∷ []) (sym same)) $
        fjoin t $ fjoin t $ fjoin t $ k same))

    -- the elements are shared out for the time of the call, which their type's laws allow
    pub slice-shared : RowLaws R → ((α : ℕ) → Shares 𝓛 R (α ∷ []))
        → ((α : ℕ) (δ : GName) → Seq K 𝓛 (‵ (token (lent h α δ)) ∷ ‵ (SharedOwn R (lent h α δ) n ys) ∷ SharedKept R h 𝓛 α n ys ∷ Γ) G)
        → Seq K 𝓛 (‵ (Slice R h n ys) ∷ Γ) G
    slice-shared laws shares k = fsplit t $ fsplit t $ fsplit t $ feq_l t (λ e. fjoin t $ lft_new t z (λ α. move t (1 ∷ 2 ∷ 0 ∷ []) $
        use3 𝓛 (later (‵ ((O.ShrSlice erased (α ∷ []) R).own_val (shared_at (lent h α h.name) ys))
        ⊛ (kept_s 𝓛 R h.life h.share (α ∷ []) h.name ys h.block h.offset ⊛ ‵ (token (lent h α h.name)))))
        (sl_reshare_as 𝓛 R h.life h.share (α ∷ []) h.block h.offset h.name (𝓛.A.lft (α ∷ []) full_share)
        (λ zs room. share_cells 𝓛 R (α ∷ []) h.block laws (α ∷ []) (shares α) ((α ∷ [], full_share) ∷ []) (λ x m. m) (λ x m. m) zs h.offset room) ys) $
        await t z $ split t $ fsplit t $
        feq_i t (List Val) (counted h n ∷ []) (shr_slice_vals (shared_at h ys)) e $ fjoin t $ fjoin t $ move t (1 ∷ []) $ split t $
        feq_i t (List Val) (counted h n ∷ []) (shr_slice_vals (shared_at h ys)) e $ join t $ move t (1 ∷ 2 ∷ []) $ k α h.name))

    pub shared_back : (α : ℕ) (δ : GName) → Step K 𝓛 (‵ (Slice R h n ys) ∷ Γ) G (‵ (token (lent h α δ)) ∷ SharedKept R h 𝓛 α n ys ∷ Γ) G
    shared_back α δ = step (λ s. lft_end t z $ move t (1 ∷ []) $ split t $ feq_l t (λ e. move t (1 ∷ 0 ∷ []) $
        use2 𝓛 (later (‵ ((O.MutSlice erased h.life R).own_val (at h ys)) ⊛ ‵ (token h)))
        (sl_reshare_back 𝓛 R h.life h.share (α ∷ []) h.block h.offset h.name ys) $ await t z $ split t $ fsplit t $
        feq_i t (List Val) (counted h n ∷ []) (mut_slice_vals (at h ys)) e $ fjoin t $ fjoin t $ fjoin t $ s))

    -- a `&[T]` is held twice
    pub shared-copied : RowLaws R → Step K 𝓛 (‵ (SharedOwn R h n ys) ∷ ‵ (SharedOwn R h n ys) ∷ ‵ (token h) ∷ Γ) G (‵ (Shared R h n ys) ∷ Γ) G
    shared-copied laws = step (λ s. fsplit t $
        use1 𝓛 (‵ (SharedOwn R h n ys) ⊛ ‵ (SharedOwn R h n ys))
        ((shr_slice_copy 𝓛 erased h.life R laws).twice (shared_at h ys) (counted h n ∷ [])) $ split t $ s)
