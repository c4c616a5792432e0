-- A call that lends references which the caller holds, and takes them back; and what a function holds of its parameters, from entry to exit.
--     Lending          how a held reference is lent for a call and comes back
--     lend, lend-slice, share-slice   that of a `&mut T`, of a `&mut [T]`, and of a `&mut [T]` that is lent as a `&[T]`
--     pass-slice       that of a `&[T]`, which is passed as it is held
--     Loan             an argument: a lending, or a plain value
--     Names            for each lending the lifetime and the ghost name of the loan
--     held, held_at    what the caller holds of a list of loans before the call, and after it, at the last values
--     Takes            the callee takes what is lent: its arguments, what it asks and what it gives are those of the loans
--     calls_lent       the call. The caller learns the last values, and that no slice changed its length
--     own_args         a function's own parameters as arguments
--     gathers          at entry each reference is put beside its token: it is held
--     scatters         at exit the tokens and the `&mut` are apart again, at the last values
-- Assumes `Logic`, and that the table of calls is monotone under a frame.
use mathlib.Core.Path.{◌≡◌, sym, subst}
use mathlib.Core.Bool.{Bool, true, false}
use mathlib.Core.List.{List, [], ◌∷◌, ◌++◌}
use mathlib.Core.Option.{Option, none, some}
use Prim.Native.Nat.{ℕ, ◌<◌, ◌^◌}
use lib.ListN.{length}
use seplogic.Ra.Ura.{Ura}
use mir.Syntax.{Callee as Named, Place, Opd as Operand, Body, seq, call}
use mir.Val.{Val, WT}
use base.Logic.{ent, sep, emp, id⊢, via, mono_r, comm∗, snd∗}
use base.Fml.{GName, Fml, fsep}
use prog.Wp.{Env, Calls, Loops}
use types.Logic.{Logic}
use types.Kit.{Item, ‵, raw, ◌⊛◌, mean, ⋆, push, pop, ++⊢, ⊢++, Post, Goal, Soaks, Seq, Step, step, runs, lands, cut}
use types.Kit.{◌$◌, ◌∵◌, !, qed, move, use0, use1, use2, split, join, drop, fsplit, fjoin, done}
use types.Run.{Opds}
use sound.WpLaws.{FmC}
use denote.RattleType.{RattleType, RowLaws}
use denote.Shares.{Shares}
use denote.Ref.{Bor, MutBor}
use denote.Signature.{types_at}
use denote.Triple.Bound.{Bound, passed}
use denote.Triple.Clauses.{Clauses, Ended, Lasts}
use denote.Triple.Entry.{Res}
use denote.Triple.Statement.{Triple}
use Rattle.walks.proofs.Plain.{Datum, size}
use Rattle.walks.proofs.Args.{Arg, reference, plainly}
use Rattle.walks.proofs.Calls.{Callee, Hands, Before, After, Shows, Learned, calls}
use Rattle.walks.proofs.Lend.{Handle, at, shared_at, lent, pointer, counted, token, RefOwn, SliceOwn, SharedOwn, RefKept, SliceKept, SharedKept}
use Rattle.walks.proofs.Lend.{RefLast, SliceLast, ref-lent, ref_back, slice-lent, slice_back, slice-shared, shared_back, shared-copied}

-- what is said of a last value: nothing, or a formula
abbrev said : {M : Type 1} {𝓤 : Ura M} → Option Fml → List (Item 𝓤) → List (Item 𝓤)
said none Γ = Γ
said (some P) Γ = ‵ P ∷ Γ

pub record Lending : Type 3 where
  pub handle : Handle
  -- the reference, by a handle, its machine value, and what it owns
  pub X : Type 0
  pub x : Handle → X
  pub value : Val
  pub well : WT value
  pub own : Fml
  -- whether it is had at exit
  pub stays : Bool
  -- what is lent and what is kept, for the lifetime α under the name δ
  pub to : ℕ → GName → Handle
  pub owns : ℕ → GName → Fml
  pub keeps : {M : Type 1} {𝓤 : Ura M} → Logic 𝓤 → ℕ → GName → Item 𝓤
  -- the last value: what is said of it, what is known of it, and what is owned then
  pub Last : Type 0
  pub ends : GName → Last → Option Fml
  pub Known : Last → Type 0
  pub own_at : Last → Fml
  pub lends : {M : Type 1} {𝓤 : Ura M} {𝓛 : Logic 𝓤} {K : Type 0} {Γ : List (Item 𝓤)} {G : Goal 𝓤 𝓛.H} → K → Soaks G
      → ((α : ℕ) (δ : GName) → Seq K 𝓛 (‵ (token (to α δ)) ∷ ‵ (owns α δ) ∷ keeps 𝓛 α δ ∷ Γ) G) → Seq K 𝓛 (‵ (fsep own (token handle)) ∷ Γ) G
  pub back : {M : Type 1} {𝓤 : Ura M} {𝓛 : Logic 𝓤} {K : Type 0} {Γ : List (Item 𝓤)} {G : Goal 𝓤 𝓛.H} → K → Soaks G
      → (α : ℕ) (δ : GName) (w : Last) → (Known w → Seq K 𝓛 (‵ (fsep (own_at w) (token handle)) ∷ Γ) G)
      → Seq K 𝓛 (‵ (token (to α δ)) ∷ keeps 𝓛 α δ ∷ said (ends δ w) Γ) G

pub data Loan : Type 3 where
  loan : Lending → Loan
  hand : Datum → Loan

-- a usize
abbrev pub give : (n : ℕ) → n < 2 ^ 64 → Loan
give n fits = hand (size n fits)

module _ (R : RattleType) (h : Handle) where
  abbrev pub lend : R.Denot → Loan
  lend x = loan (record {
    handle = h;
    X = MutBor R.Denot;
    x = λ h'. at h' x;
    value = pointer h;
    well = tt;
    own = RefOwn R h x;
    stays = true;
    to = lent h;
    owns = λ α δ. RefOwn R (lent h α δ) x;
    keeps = λ 𝓛 α δ. ‵ (RefKept R h α δ x);
    Last = R.Denot;
    ends = λ δ y. some (RefLast R h δ y);
    Known = λ y. Unit {0};
    own_at = λ y. RefOwn R h y;
    lends = λ t z k. ref-lent t z R h x k;
    back = λ t z α δ y k. move t (0 ∷ 2 ∷ 1 ∷ []) $ ref_back t z R h α δ x y $ k tt;
  })

  module _ (n : ℕ) (fits : n < 2 ^ 64) (ys : List R.Denot) where
    abbrev pub lend-slice : Loan
    lend-slice = loan (record {
      handle = h;
      X = MutBor (List R.Denot);
      x = λ h'. at h' ys;
      value = counted h n;
      well = (tt, (record { fits = fits }, tt));
      own = SliceOwn R h n ys;
      stays = true;
      to = lent h;
      owns = λ α δ. SliceOwn R (lent h α δ) n ys;
      keeps = λ 𝓛 α δ. SliceKept R h 𝓛 α δ n ys;
      Last = List R.Denot;
      ends = λ δ zs. some (SliceLast R h δ ys zs);
      Known = λ zs. length zs ≡ length ys;
      own_at = λ zs. SliceOwn R h n zs;
      lends = λ t z k. slice-lent t z R h n ys k;
      back = λ t z α δ zs k. move t (0 ∷ 2 ∷ 1 ∷ []) $ slice_back t z R h n ys α δ zs k;
    })

    abbrev pub share-slice : RowLaws R → ((M : Type 1) (𝓤 : Ura M) (𝓛 : Logic 𝓤) (α : ℕ) → Shares 𝓛 R (α ∷ [])) → Loan
    share-slice laws shares = loan (record {
      handle = h;
      X = MutBor (List R.Denot);
      x = λ h'. at h' ys;
      value = counted h n;
      well = (tt, (record { fits = fits }, tt));
      own = SliceOwn R h n ys;
      stays = true;
      to = lent h;
      owns = λ α δ. SharedOwn R (lent h α δ) n ys;
      keeps = λ 𝓛 α δ. SharedKept R h 𝓛 α n ys;
      Last = Unit {0};
      ends = λ δ w. none;
      Known = λ w. Unit {0};
      own_at = λ w. SliceOwn R h n ys;
      lends = λ {M = M} {𝓤 = 𝓤} {𝓛 = 𝓛} t z k. slice-shared t z R h n ys laws (shares M 𝓤 𝓛) k;
      back = λ t z α δ w k. shared_back t z R h n ys α δ $ k tt;
    })

    abbrev pub pass-slice : RowLaws R → Loan
    pass-slice laws = loan (record {
      handle = h;
      X = Bor (List R.Denot);
      x = λ h'. shared_at h' ys;
      value = counted h n;
      well = (tt, (record { fits = fits }, tt));
      own = SharedOwn R h n ys;
      stays = false;
      to = λ α δ. h;
      owns = λ α δ. SharedOwn R h n ys;
      keeps = λ 𝓛 α δ. ‵ (SharedOwn R h n ys);
      Last = Unit {0};
      ends = λ δ w. none;
      Known = λ w. Unit {0};
      own_at = λ w. SharedOwn R h n ys;
      lends = λ t z k. shared-copied t z R h n ys laws $ move t (2 ∷ []) $ k 0 h.name;
      back = λ t z α δ w k. move t (1 ∷ 0 ∷ []) $ fjoin t $ k tt;
    })

-- ---- a list of loans
abbrev holds : Lending → Fml
holds l = fsep l.own (token l.handle)

abbrev holds_at : (l : Lending) → l.Last → Fml
holds_at l w = fsep (l.own_at w) (token l.handle)

abbrev pub Names : List Loan → Type 0
Names [] = Unit {0}
Names (loan l ∷ ls) = (ℕ × GName) × Names ls
Names (hand d ∷ ls) = Names ls

-- the arguments that are passed
abbrev pub lent_args : (ls : List Loan) → Names ls → List Arg
lent_args [] ν = []
lent_args (loan l ∷ ls) ν =
    reference (l.to ν.0.0 ν.0.1) l.X (l.x (l.to ν.0.0 ν.0.1)) l.value l.well (l.owns ν.0.0 ν.0.1) ∷ lent_args ls ν.1
lent_args (hand d ∷ ls) ν = plainly d ∷ lent_args ls ν

abbrev pub LastValues : List Loan → Type 0
LastValues [] = Unit {0}
LastValues (loan l ∷ ls) = l.Last × LastValues ls
LastValues (hand d ∷ ls) = Unit {0} × LastValues ls

abbrev pub Knowns : (ls : List Loan) → LastValues ls → Type 0
Knowns [] ws = Unit {0}
Knowns (loan l ∷ ls) ws = l.Known ws.0 × Knowns ls ws.1
Knowns (hand d ∷ ls) ws = Knowns ls ws.1

module _ {M : Type 1} (𝓤 : Ura M) where
  abbrev pub held : List Loan → List (Item 𝓤)
  held [] = []
  held (loan l ∷ ls) = ‵ (holds l) ∷ held ls
  held (hand d ∷ ls) = held ls

  abbrev pub held_at : (ls : List Loan) → LastValues ls → List (Item 𝓤)
  held_at [] ws = []
  held_at (loan l ∷ ls) ws = ‵ (holds_at l ws.0) ∷ held_at ls ws.1
  held_at (hand d ∷ ls) ws = held_at ls ws.1

  -- the tokens, what is lent, what is kept, and what is said of the last values
  abbrev tokens-of : (ls : List Loan) → Names ls → List (Item 𝓤)
  tokens-of [] ν = []
  tokens-of (loan l ∷ ls) ν = ‵ (token (l.to ν.0.0 ν.0.1)) ∷ tokens-of ls ν.1
  tokens-of (hand d ∷ ls) ν = tokens-of ls ν

  abbrev owned : (ls : List Loan) → Names ls → List (Item 𝓤)
  owned [] ν = []
  owned (loan l ∷ ls) ν = ‵ (l.owns ν.0.0 ν.0.1) ∷ owned ls ν.1
  owned (hand d ∷ ls) ν = owned ls ν

  abbrev ended : (ls : List Loan) → Names ls → LastValues ls → List (Item 𝓤)
  ended [] ν ws = []
  ended (loan l ∷ ls) ν ws = said (l.ends ν.0.1 ws.0) (ended ls ν.1 ws.1)
  ended (hand d ∷ ls) ν ws = ended ls ν ws.1

module _ {M : Type 1} {𝓤 : Ura M} (𝓛 : Logic 𝓤) where
  abbrev kept : (ls : List Loan) → Names ls → List (Item 𝓤)
  kept [] ν = []
  kept (loan l ∷ ls) ν = l.keeps 𝓛 ν.0.0 ν.0.1 ∷ kept ls ν.1
  kept (hand d ∷ ls) ν = kept ls ν

-- some entries as one
abbrev all_of : {M : Type 1} {𝓤 : Ura M} (𝓛 : Logic 𝓤) → List (Item 𝓤) → Item 𝓤
all_of 𝓛 Δ = raw (⋆ 𝓛 Δ)

module _ {M : Type 1} {𝓤 : Ura M} (𝓛 : Logic 𝓤) where
  behind : (i : Item 𝓤) (Δ : List (Item 𝓤)) → ent 𝓤 (⋆ 𝓛 (i ∷ Δ)) (sep 𝓤 (⋆ 𝓛 Δ) (mean 𝓛 i))
  behind i Δ = via 𝓤 (sep 𝓤 (mean 𝓛 i) (⋆ 𝓛 Δ)) (pop 𝓛 i Δ) (comm∗ 𝓤 (mean 𝓛 i) (⋆ 𝓛 Δ))

  in-front : (i : Item 𝓤) (Δ : List (Item 𝓤)) → ent 𝓤 (sep 𝓤 (⋆ 𝓛 Δ) (mean 𝓛 i)) (⋆ 𝓛 (i ∷ Δ))
  in-front i Δ = via 𝓤 (sep 𝓤 (mean 𝓛 i) (⋆ 𝓛 Δ)) (comm∗ 𝓤 (⋆ 𝓛 Δ) (mean 𝓛 i)) (push 𝓛 i Δ)

  appended : {Δ'' : List (Item 𝓤)} (Δ Δ' : List (Item 𝓤)) → Δ ++ Δ' ≡ Δ'' → ent 𝓤 (sep 𝓤 (⋆ 𝓛 Δ) (⋆ 𝓛 Δ')) (⋆ 𝓛 Δ'')
  appended Δ Δ' e = subst (λ (Θ : List (Item 𝓤)). ent 𝓤 (sep 𝓤 (⋆ 𝓛 Δ) (⋆ 𝓛 Δ')) (⋆ 𝓛 Θ)) e (++⊢ 𝓛 Δ Δ')

  parted : {Δ'' : List (Item 𝓤)} (Δ Δ' : List (Item 𝓤)) → Δ'' ≡ Δ ++ Δ' → ent 𝓤 (⋆ 𝓛 Δ'') (sep 𝓤 (⋆ 𝓛 Δ) (⋆ 𝓛 Δ'))
  parted Δ Δ' e = subst (λ (Θ : List (Item 𝓤)). ent 𝓤 (⋆ 𝓛 Θ) (sep 𝓤 (⋆ 𝓛 Δ) (⋆ 𝓛 Δ'))) (sym e) (⊢++ 𝓛 Δ Δ')

module _ {M : Type 1} {𝓤 : Ura M} {𝓛 : Logic 𝓤} {K : Type 0} {G : Goal 𝓤 𝓛.H} where
  module _ {Γ : List (Item 𝓤)} (t : K) where
    apart : (i : Item 𝓤) (Δ : List (Item 𝓤)) → Step K 𝓛 (i ∷ all_of 𝓛 Δ ∷ Γ) G (all_of 𝓛 (i ∷ Δ) ∷ Γ) G
    apart i Δ = step (λ s. use1 𝓛 (i ⊛ all_of 𝓛 Δ) (pop 𝓛 i Δ) $ split t $ s)

    together : (i : Item 𝓤) (Δ : List (Item 𝓤)) → Step K 𝓛 (all_of 𝓛 (i ∷ Δ) ∷ Γ) G (i ∷ all_of 𝓛 Δ ∷ Γ) G
    together i Δ = use2 𝓛 (all_of 𝓛 (i ∷ Δ)) (push 𝓛 i Δ)

  lends-all : K → Soaks G → (Γ : List (Item 𝓤)) (ls : List Loan)
      → ((ν : Names ls) → Seq K 𝓛 (all_of 𝓛 (tokens-of 𝓤 ls ν) ∷ all_of 𝓛 (owned 𝓤 ls ν) ∷ all_of 𝓛 (kept 𝓛 ls ν) ∷ Γ) G)
      → Seq K 𝓛 (all_of 𝓛 (held 𝓤 ls) ∷ Γ) G
  lends-all t z Γ [] k = use0 𝓛 (all_of 𝓛 []) (id⊢ 𝓤 (emp 𝓤)) $ use0 𝓛 (all_of 𝓛 []) (id⊢ 𝓤 (emp 𝓤)) $ k tt
  lends-all t z Γ (loan l ∷ ls) k = apart t (‵ (holds l)) (held 𝓤 ls) $ l.lends t z (λ α δ. move t (3 ∷ []) $
      lends-all t z (‵ (token (l.to α δ)) ∷ ‵ (l.owns α δ) ∷ l.keeps 𝓛 α δ ∷ Γ) ls (λ ν.
      move t (5 ∷ 2 ∷ []) $ together t (l.keeps 𝓛 α δ) (kept 𝓛 ls ν) $ move t (4 ∷ 2 ∷ []) $ together t (‵ (l.owns α δ)) (owned 𝓤 ls ν) $
      move t (3 ∷ 2 ∷ []) $ together t (‵ (token (l.to α δ))) (tokens-of 𝓤 ls ν) $ k ((α, δ), ν)))
  lends-all t z Γ (hand d ∷ ls) k = lends-all t z Γ ls k

  -- what is said of one last value, out of what is said of all
  unsaid : K → (Γ : List (Item 𝓤)) (i j : Item 𝓤) (P : Option Fml) (Δ : List (Item 𝓤)) → Seq K 𝓛 (i ∷ j ∷ said P (all_of 𝓛 Δ ∷ Γ)) G
      → Seq K 𝓛 (i ∷ j ∷ all_of 𝓛 (said P Δ) ∷ Γ) G
  unsaid t Γ i j none Δ s = s
  unsaid t Γ i j (some P) Δ s = move t (2 ∷ []) $ apart t (‵ P) Δ $ move t (2 ∷ 3 ∷ []) $ s

  back-all : K → Soaks G → (Γ : List (Item 𝓤)) (ls : List Loan) (ν : Names ls) (ws : LastValues ls)
      → (Knowns ls ws → Seq K 𝓛 (all_of 𝓛 (held_at 𝓤 ls ws) ∷ Γ) G)
      → Seq K 𝓛 (all_of 𝓛 (tokens-of 𝓤 ls ν) ∷ all_of 𝓛 (ended 𝓤 ls ν ws) ∷ all_of 𝓛 (kept 𝓛 ls ν) ∷ Γ) G
  back-all t z Γ [] ν ws k = drop t $ drop t $ k tt
  back-all t z Γ (loan l ∷ ls) ν ws k =
      apart t (‵ (token (l.to ν.0.0 ν.0.1))) (tokens-of 𝓤 ls ν.1) $ move t (3 ∷ []) $
      apart t (l.keeps 𝓛 ν.0.0 ν.0.1) (kept 𝓛 ls ν.1) $ move t (2 ∷ 0 ∷ 4 ∷ []) $
      unsaid t _ _ _ (l.ends ν.0.1 ws.0) (ended 𝓤 ls ν.1 ws.1) (l.back t z ν.0.0 ν.0.1 ws.0 (λ known. move t (3 ∷ 1 ∷ 2 ∷ []) $
      back-all t z (‵ (holds_at l ws.0) ∷ Γ) ls ν.1 ws.1 (λ knowns. move t (1 ∷ 0 ∷ []) $
      together t (‵ (holds_at l ws.0)) (held_at 𝓤 ls ws.1) $ k (known, knowns))))
  back-all t z Γ (hand d ∷ ls) ν ws k = back-all t z Γ ls ν ws.1 k

-- ---- the call
-- the callee has these arguments: at a callee that is written out each equation is by `refl`
pub record Takes {M : Type 1} {𝓤 : Ura M} (𝓛 : Logic 𝓤) (T : Ended) (c : Clauses 𝓤 T) (ls : List Loan) : Type 2 where
  pub at : Names ls → Bound 𝓛 T.signature
  pub ghost : (ν : Names ls) → (c (at ν).0 (at ν).3).ghost
  pub asked : (ν : Names ls) → Hands 𝓛 (types_at T.signature.params (at ν).0) (at ν).3 (at ν).4
  pub lasts : (ν : Names ls) → Lasts T (at ν).0 (at ν).3 → LastValues ls
  pub before : (ν : Names ls) → tokens-of 𝓤 ls ν ++ owned 𝓤 ls ν ≡ Before 𝓛 T c (at ν) (ghost ν) (asked ν)
  pub after : (ν : Names ls) (ws : Lasts T (at ν).0 (at ν).3) → After 𝓛 T c (at ν) (ghost ν) ws ≡ tokens-of 𝓤 ls ν ++ ended 𝓤 ls ν (lasts ν ws)

module _ {M : Type 1} {𝓤 : Ura M} {𝓛 : Logic 𝓤} {T : Ended} {c : Clauses 𝓤 T} {ls : List Loan} where
  abbrev pub takes : (at : Names ls → Bound 𝓛 T.signature) (ghost : (ν : Names ls) → (c (at ν).0 (at ν).3).ghost)
      (asked : (ν : Names ls) → Hands 𝓛 (types_at T.signature.params (at ν).0) (at ν).3 (at ν).4)
      (lasts : (ν : Names ls) → Lasts T (at ν).0 (at ν).3 → LastValues ls)
      → ((ν : Names ls) → tokens-of 𝓤 ls ν ++ owned 𝓤 ls ν ≡ Before 𝓛 T c (at ν) (ghost ν) (asked ν))
      → ((ν : Names ls) (ws : Lasts T (at ν).0 (at ν).3) → After 𝓛 T c (at ν) (ghost ν) ws ≡ tokens-of 𝓤 ls ν ++ ended 𝓤 ls ν (lasts ν ws))
      → Takes 𝓛 T c ls
  takes at ghost asked lasts before after = record { at = at; ghost = ghost; asked = asked; lasts = lasts; before = before; after = after }

-- i is what stands first, the caller's locals: it stays there, and the operands are read with it
pub calls_lent : {M : Type 1} {𝓤 : Ura M} (𝓛 : Logic 𝓤) {K : Type 0} {i : Item 𝓤}
    {Γ : List (Item 𝓤)} {E : Env 𝓤 𝓛.H} {C : Calls 𝓤 𝓛.H} {f : Named} {os : List Operand} {Λ : Loops 𝓤 𝓛.H} {q : Post 𝓤 𝓛.H} {d : Place} {rest : Body}
    → FmC 𝓤 𝓛.H 𝓛.laws C → (T : Ended) (c : Clauses 𝓤 T) → Triple 𝓤 (C f) (Callee 𝓛 T c) → (ls : List Loan) (θ : Takes 𝓛 T c ls)
    → ((ν : Names ls) → ent 𝓤 (emp 𝓤) ((c (θ.at ν).0 (θ.at ν).3).requires (θ.ghost ν)))
    → (Said : (ν : Names ls) → Res T.signature (θ.at ν).0 → Lasts T (θ.at ν).0 (θ.at ν).3 → Type 0)
    → ((ν : Names ls) → Shows 𝓛 T c (θ.at ν) (θ.ghost ν) (Said ν))
    → K → ((ν : Names ls) → Opds K 𝓛 (raw ((Callee 𝓛 T c).pre (θ.at ν, θ.ghost ν)) ∷ i ∷ all_of 𝓛 (kept 𝓛 ls ν) ∷ Γ) E os
    (passed 𝓛 T.signature (θ.at ν)))
    → ((ν : Names ls) (v : Val) (r : Res T.signature (θ.at ν).0) (ws : Lasts T (θ.at ν).0 (θ.at ν).3)
    → Learned 𝓛 T c (θ.at ν) (θ.ghost ν) (Said ν) v r ws → Knowns ls (θ.lasts ν ws)
    → Seq K 𝓛 (i ∷ (held_at 𝓤 ls (θ.lasts ν ws) ++ Γ)) (lands C Λ E d v rest q))
    → Seq K 𝓛 (i ∷ (held 𝓤 ls ++ Γ)) (runs C Λ E (seq (call f os d) rest) q)
calls_lent {M} {𝓤} 𝓛 {K} {i} {Γ} fm T c known ls θ ok Said shows t os k =
    cut (i ∷ held 𝓤 ls) (all_of 𝓛 (held 𝓤 ls) ∷ i ∷ []) Γ (behind 𝓛 i (held 𝓤 ls)) $ lends-all t tt (i ∷ Γ) ls (λ ν. move t (0 ∷ 1 ∷ 3 ∷ []) $
    cut (all_of 𝓛 (tokens-of 𝓤 ls ν) ∷ all_of 𝓛 (owned 𝓤 ls ν) ∷ []) (Before 𝓛 T c (θ.at ν) (θ.ghost ν) (θ.asked ν))
    (i ∷ all_of 𝓛 (kept 𝓛 ls ν) ∷ Γ)
    (appended 𝓛 (tokens-of 𝓤 ls ν) (owned 𝓤 ls ν) (θ.before ν)) $
    calls 𝓛 fm T c known (θ.at ν) (θ.ghost ν) (θ.asked ν) (ok ν) (Said ν) (shows ν) t (os ν) (λ v r ws e.
    cut (After 𝓛 T c (θ.at ν) (θ.ghost ν) ws) (all_of 𝓛 (tokens-of 𝓤 ls ν) ∷ all_of 𝓛 (ended 𝓤 ls ν (θ.lasts ν ws)) ∷ [])
    (i ∷ all_of 𝓛 (kept 𝓛 ls ν) ∷ Γ)
    (parted 𝓛 (tokens-of 𝓤 ls ν) (ended 𝓤 ls ν (θ.lasts ν ws)) (θ.after ν ws)) $ move t (0 ∷ 1 ∷ 3 ∷ []) $
    back-all t tt (i ∷ Γ) ls ν (θ.lasts ν ws) (λ knowns.
    cut (all_of 𝓛 (held_at 𝓤 ls (θ.lasts ν ws)) ∷ i ∷ []) (i ∷ held_at 𝓤 ls (θ.lasts ν ws)) Γ (in-front 𝓛 i (held_at 𝓤 ls (θ.lasts ν ws))) $
    k ν v r ws e knowns)))

-- ---- from entry to exit
-- a function's own parameters
abbrev pub own_args : List Loan → List Arg
own_args [] = []
own_args (loan l ∷ ls) = reference l.handle l.X (l.x l.handle) l.value l.well l.own ∷ own_args ls
own_args (hand d ∷ ls) = plainly d ∷ own_args ls

-- P is had if it stays
abbrev had_if : {M : Type 1} {𝓤 : Ura M} → Bool → Fml → List (Item 𝓤) → List (Item 𝓤)
had_if true P Γ = ‵ P ∷ Γ
had_if false P Γ = Γ

module _ {M : Type 1} (𝓤 : Ura M) where
  -- their tokens, what they own, and what is had of them at exit
  abbrev pub own-tokens : List Loan → List (Item 𝓤)
  own-tokens [] = []
  own-tokens (loan l ∷ ls) = ‵ (token l.handle) ∷ own-tokens ls
  own-tokens (hand d ∷ ls) = own-tokens ls

  abbrev pub own-entries : List Loan → List (Item 𝓤)
  own-entries [] = []
  own-entries (loan l ∷ ls) = ‵ l.own ∷ own-entries ls
  own-entries (hand d ∷ ls) = ‵ (d.of.row.own_val d.x (d.of.val d.x ∷ [])) ∷ own-entries ls

  abbrev pub own-exits : (ls : List Loan) → LastValues ls → List (Item 𝓤)
  own-exits [] ws = []
  own-exits (loan l ∷ ls) ws = had_if l.stays (l.own_at ws.0) (own-exits ls ws.1)
  own-exits (hand d ∷ ls) ws = own-exits ls ws.1

module _ {M : Type 1} {𝓤 : Ura M} (𝓛 : Logic 𝓤) where
  gathered : (ls : List Loan) → ent 𝓤 (sep 𝓤 (⋆ 𝓛 (own-tokens 𝓤 ls)) (⋆ 𝓛 (own-entries 𝓤 ls))) (⋆ 𝓛 (held 𝓤 ls))
  gathered [] = qed 𝓛 (all_of 𝓛 [] ∷ all_of 𝓛 [] ∷ []) ∵ drop ! $ done !
  gathered (loan l ∷ ls) =
      qed 𝓛 (all_of 𝓛 (own-tokens 𝓤 (loan l ∷ ls)) ∷ all_of 𝓛 (own-entries 𝓤 (loan l ∷ ls)) ∷ []) ∵
      apart ! (‵ (token l.handle)) (own-tokens 𝓤 ls) $ move ! (2 ∷ []) $ apart ! (‵ l.own) (own-entries 𝓤 ls) $ move ! (3 ∷ 1 ∷ []) $
      use2 𝓛 (all_of 𝓛 (held 𝓤 ls)) (gathered ls) $ move ! (1 ∷ 2 ∷ []) $ fjoin ! $ together ! (‵ (holds l)) (held 𝓤 ls) $ done !
  gathered (hand d ∷ ls) =
      qed 𝓛 (all_of 𝓛 (own-tokens 𝓤 ls) ∷ all_of 𝓛 (own-entries 𝓤 (hand d ∷ ls)) ∷ []) ∵ move ! (1 ∷ []) $
      apart ! (‵ (d.of.row.own_val d.x (d.of.val d.x ∷ []))) (own-entries 𝓤 ls) $ drop ! $ move ! (1 ∷ 0 ∷ []) $
      use2 𝓛 (all_of 𝓛 (held 𝓤 ls)) (gathered ls) $ done !

  had_in : (t : Bool) (P : Fml) (Δ : List (Item 𝓤)) → ent 𝓤 (sep 𝓤 (mean 𝓛 (‵ P)) (⋆ 𝓛 Δ)) (⋆ 𝓛 (had_if t P Δ))
  had_in true P Δ = push 𝓛 (‵ P) Δ
  had_in false P Δ = snd∗ 𝓤 (mean 𝓛 (‵ P)) (⋆ 𝓛 Δ)

  scattered : (ls : List Loan) (ws : LastValues ls) → ent 𝓤 (⋆ 𝓛 (held_at 𝓤 ls ws)) (sep 𝓤 (⋆ 𝓛 (own-tokens 𝓤 ls)) (⋆ 𝓛 (own-exits 𝓤 ls ws)))
  scattered [] ws = qed 𝓛 (all_of 𝓛 [] ∷ []) ∵ use0 𝓛 (all_of 𝓛 []) (id⊢ 𝓤 (emp 𝓤)) $ join ! $ done !
  scattered (loan l ∷ ls) ws =
      qed 𝓛 (all_of 𝓛 (held_at 𝓤 (loan l ∷ ls) ws) ∷ []) ∵ apart ! (‵ (holds_at l ws.0)) (held_at 𝓤 ls ws.1) $ fsplit ! $ move ! (2 ∷ []) $
      use1 𝓛 (all_of 𝓛 (own-tokens 𝓤 ls) ⊛ all_of 𝓛 (own-exits 𝓤 ls ws.1)) (scattered ls ws.1) $ split ! $ move ! (2 ∷ 1 ∷ []) $
      use2 𝓛 (all_of 𝓛 (had_if l.stays (l.own_at ws.0) (own-exits 𝓤 ls ws.1))) (had_in l.stays (l.own_at ws.0) (own-exits 𝓤 ls ws.1)) $
      move ! (2 ∷ 1 ∷ []) $ together ! (‵ (token l.handle)) (own-tokens 𝓤 ls) $ join ! $ done !
  scattered (hand d ∷ ls) ws = scattered ls ws.1

module _ {M : Type 1} {𝓤 : Ura M} {𝓛 : Logic 𝓤} {K : Type 0} {G : Goal 𝓤 𝓛.H} where
  -- the `[]` goes where the lists are written out. i is what stands first, the locals
  pub gathers : K → {i : Item 𝓤} (ls : List Loan) → Step K 𝓛 (i ∷ (held 𝓤 ls ++ [])) G (i ∷ ((own-tokens 𝓤 ls ++ own-entries 𝓤 ls) ++ [])) G
  gathers t {i} ls =
      let Δ : List (Item 𝓤) = own-tokens 𝓤 ls ++ own-entries 𝓤 ls in
      cut (i ∷ Δ) (i ∷ held 𝓤 ls) [] (
      via 𝓤 (sep 𝓤 (mean 𝓛 i) (⋆ 𝓛 Δ)) (pop 𝓛 i Δ)
      (via 𝓤 (sep 𝓤 (mean 𝓛 i) (⋆ 𝓛 (held 𝓤 ls))) (mono_r 𝓤 (mean 𝓛 i)
      (via 𝓤 (sep 𝓤 (⋆ 𝓛 (own-tokens 𝓤 ls)) (⋆ 𝓛 (own-entries 𝓤 ls))) (⊢++ 𝓛 (own-tokens 𝓤 ls) (own-entries 𝓤 ls)) (gathered 𝓛 ls)))
      (push 𝓛 i (held 𝓤 ls))))

  pub scatters : K → (ls : List Loan) (ws : LastValues ls) → Step K 𝓛 ((own-tokens 𝓤 ls ++ own-exits 𝓤 ls ws) ++ []) G (held_at 𝓤 ls ws ++ []) G
  scatters t ls ws = cut (held_at 𝓤 ls ws) (own-tokens 𝓤 ls ++ own-exits 𝓤 ls ws) []
      (via 𝓤 (sep 𝓤 (⋆ 𝓛 (own-tokens 𝓤 ls)) (⋆ 𝓛 (own-exits 𝓤 ls ws))) (scattered 𝓛 ls ws) (++⊢ 𝓛 (own-tokens 𝓤 ls) (own-exits 𝓤 ls ws)))
