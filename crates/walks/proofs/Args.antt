-- A function's parameters and a call's arguments in a walk by hand, each written once.
--     Arg              an argument: a `&mut T`, a `&mut [T]` or a `&[T]`, with its handle and what it points at, or a plain value. Each reference has a
--                      lifetime of its own, in their order
--     bound            what a call binds of a list of them
--     hands            what is held of them is what the call asks
--     typed            the locals can hold them
--     Param            a parameter of a walked function: its slot, what is had of it at exit, with that law, and how its machine values are written
--     kept-ref, kept-slice            a `&mut` that the function holds at exit
--     given-ref, given-slice          one that it passed on for good
--     shared-slice, plain_param, plain-number      nothing is had of it
-- Assumes `Logic`.
use mathlib.Core.Path.{◌≡◌, refl, sym, subst}
use mathlib.Core.List.{List, [], ◌∷◌}
use Prim.Native.Nat.{ℕ, zero, suc, ◌<◌, ◌^◌}
use seplogic.Ra.Ura.{Ura}
use lib.Dec.{T}
use mir.Syntax.{named, w64}
use mir.Val.{Val, WT, has_ty}
use base.Logic.{emp, id⊢}
use base.Fml.{Fml, ftrue}
use types.Logic.{Logic}
use contract.Lifetimes.{Lfts, Shares}
use denote.RattleType.{RattleType, Valss, Denots as Denotss}
use denote.Laws.{Is, Tells, Spells, Tellss, Ises}
use denote.Ref.{Bor, MutBor, mut_vals, mut_Tells}
use denote.Slice.{shr_slice_vals, mut_slice_vals, mut_slice_Tells, shr_slice_Tells}
use denote.Signature.{Slot, AllWithin, meet_at, plain, mut_ref_to, mut_slice_of, shr_slice_of, types_at}
use denote.Triple.End.{all, Fins}
use denote.Triple.Walked.{Stay, Stays, stay_dropped, stay_ref, gave_ref, stay_slice, gave_slice}
use denote.Triple.Walked.{Goes, AllGo, Goes-dropped, Goes-ref, Goes-gave_ref, Goes-slice, Goes-gave_slice}
use denote.Exit.{Exit, unchanged, yes, Last, left}
use Rattle.walks.proofs.Calls.{Hand, held, made}
use Rattle.walks.proofs.Walk.{Haves}
use Rattle.walks.proofs.Plain.{Plain, nat, Datum, size}
use Rattle.walks.proofs.Lend.{Handle, at, shared_at, pointer, counted, RefOwn, SliceOwn, SharedOwn}

-- ---- a call's arguments
pub data Arg : Type 3 where
  -- the reference x with the machine value v, and what it owns
  reference : (h : Handle) (X : Type 0) → X → (v : Val) → WT v → Fml → Arg
  plainly : Datum → Arg

module _ (R : RattleType) (h : Handle) where
  abbrev pub ref : R.Denot → Arg
  ref x = reference h (MutBor R.Denot) (at h x) (pointer h) tt (RefOwn R h x)

  module _ (n : ℕ) (fits : n < 2 ^ 64) (ys : List R.Denot) where
    abbrev pub slice : Arg
    slice = reference h (MutBor (List R.Denot)) (at h ys) (counted h n) (tt, (record { fits = fits }, tt)) (SliceOwn R h n ys)

    abbrev pub shared : Arg
    shared = reference h (Bor (List R.Denot)) (shared_at h ys) (counted h n) (tt, (record { fits = fits }, tt)) (SharedOwn R h n ys)

-- a usize
abbrev pub number : (n : ℕ) → n < 2 ^ 64 → Arg
number n fits = plainly (size n fits)

abbrev Refs : List Arg → ℕ
Refs [] = zero
Refs (reference h X x v t P ∷ us) = suc (Refs us)
Refs (plainly d ∷ us) = Refs us

abbrev lives : (us : List Arg) → Lfts (Refs us)
lives [] = tt
lives (reference h X x v t P ∷ us) = (h.life, lives us)
lives (plainly d ∷ us) = lives us

abbrev shares : (us : List Arg) → Shares (Refs us)
shares [] = tt
shares (reference h X x v t P ∷ us) = (h.share, shares us)
shares (plainly d ∷ us) = shares us

abbrev Denots : List Arg → Type 0
Denots [] = Unit {0}
Denots (reference h X x v t P ∷ us) = X × Denots us
Denots (plainly d ∷ us) = d.of.row.Denot × Denots us

abbrev denots : (us : List Arg) → Denots us
denots [] = tt
denots (reference h X x v t P ∷ us) = (x, denots us)
denots (plainly d ∷ us) = (d.x, denots us)

abbrev Vals : List Arg → Type 0
Vals [] = Unit {0}
Vals (u ∷ us) = List Val × Vals us

abbrev vals : (us : List Arg) → Vals us
vals [] = tt
vals (reference h X x v t P ∷ us) = (v ∷ [], vals us)
vals (plainly d ∷ us) = (d.of.val d.x ∷ [], vals us)

-- what a call binds
abbrev pub bound : (us : List Arg) → Lfts (Refs us) × Shares (Refs us) × Unit {0} × Denots us × Vals us
bound us = (lives us, shares us, tt, denots us, vals us)

-- the locals can hold the machine values
abbrev Typed : List Arg → Type 0
Typed [] = Unit {0}
Typed (reference h X x v t P ∷ us) = (Unit {0} × WT v) × Typed us
Typed (plainly d ∷ us) = (T (has_ty d.of.mir (d.of.val d.x)) × WT (d.of.val d.x)) × Typed us

-- what is asked: the references are held, and a plain value is had for nothing
module _ {M : Type 1} {𝓤 : Ura M} (𝓛 : Logic 𝓤) where
  abbrev pub typed : (us : List Arg) → Typed us
  typed [] = tt
  typed (reference h X x v t P ∷ us) = ((tt, t), typed us)
  typed (plainly d ∷ us) = (d.of.typed 𝓛 d.x d.is, typed us)

  abbrev Hands : List Arg → Type 1
  Hands [] = Unit {1}
  Hands (reference h X x v t P ∷ us) = Hand 𝓛 P × Hands us
  Hands (plainly d ∷ us) = Hand 𝓛 (d.of.row.own_val d.x (d.of.val d.x ∷ [])) × Hands us

  abbrev pub hands : (us : List Arg) → Hands us
  hands [] = tt
  hands (reference h X x v t P ∷ us) = (held, hands us)
  hands (plainly d ∷ us) = (made (d.of.makes 𝓛 d.x _ d.is), hands us)

-- ---- a function's parameters
pub record Param (n : ℕ) : Type 3 where
  pub slot : Slot n
  pub stay : Stay slot yes
  pub goes : {M : Type 1} {𝓤 : Ura M} (𝓛 : Logic 𝓤) → Goes 𝓛 n slot yes stay
  pub hand : {M : Type 1} {𝓤 : Ura M} (𝓛 : Logic 𝓤) (κs : Lfts n) (x : (slot.row κs).Denot) (w : Last ((slot.row κs).exit yes) x) (vs : List Val)
      → Hand 𝓛 (stay.has κs x w vs)
  pub spells : (κs : Lfts n) → (slot.row κs).Denot → List Val
  pub tells : (κs : Lfts n) → Tells (slot.row κs) (Is (slot.row κs)) (spells κs)

-- the law of what is had of a parameter at exit
abbrev Law : {n : ℕ} (s : Slot n) → Stay s yes → Type 2
Law {n} s h = (M : Type 1) (𝓤 : Ura M) (𝓛 : Logic 𝓤) → Goes 𝓛 n s yes h

module _ {n : ℕ} (j : ℕ) (ok : AllWithin n (j ∷ [])) (R : RattleType) where
  abbrev to_one : Slot n
  to_one = mut_ref_to (j ∷ []) ok (plain (λ _. R))

  abbrev to-many : Slot n
  to-many = mut_slice_of (j ∷ []) ok (plain (λ _. R))

  -- what is had of a `&mut` at exit is held
  abbrev of_ref : (h : Stay to_one yes) → Law to_one h → Param n
  of_ref h law = record {
    slot = to_one;
    stay = h;
    goes = λ {M = M} {𝓤 = 𝓤} 𝓛. law M 𝓤 𝓛;
    hand = λ 𝓛 κs x w vs. held;
    spells = λ κs. mut_vals;
    tells = λ κs. mut_Tells (named j) (meet_at n (j ∷ []) ok κs) R;
  }

  abbrev pub kept-ref : Param n
  kept-ref = of_ref (stay_ref (j ∷ []) ok (plain (λ _. R))) (λ M 𝓤 𝓛. Goes-ref 𝓛 n j ok (plain (λ _. R)))

  abbrev pub given-ref : Param n
  given-ref = of_ref (gave_ref (j ∷ []) ok (plain (λ _. R))) (λ M 𝓤 𝓛. Goes-gave_ref 𝓛 n j ok (plain (λ _. R)))

  abbrev of-slice : (h : Stay to-many yes) → Law to-many h → Param n
  of-slice h law = record {
    slot = to-many;
    stay = h;
    goes = λ {M = M} {𝓤 = 𝓤} 𝓛. law M 𝓤 𝓛;
    hand = λ 𝓛 κs x w vs. held;
    spells = λ κs. mut_slice_vals;
    tells = λ κs. mut_slice_Tells (named j) (meet_at n (j ∷ []) ok κs) R;
  }

  abbrev pub kept-slice : Param n
  kept-slice = of-slice (stay_slice (j ∷ []) ok (plain (λ _. R))) (λ M 𝓤 𝓛. Goes-slice 𝓛 n j ok (plain (λ _. R)))

  abbrev pub given-slice : Param n
  given-slice = of-slice (gave_slice (j ∷ []) ok (plain (λ _. R))) (λ M 𝓤 𝓛. Goes-gave_slice 𝓛 n j ok (plain (λ _. R)))

  abbrev pub shared-slice : Param n
  shared-slice = record {
    slot = shr_slice_of (j ∷ []) ok (plain (λ _. R));
    stay = stay_dropped (shr_slice_of (j ∷ []) ok (plain (λ _. R))) yes;
    goes = λ 𝓛. Goes-dropped 𝓛 n (shr_slice_of (j ∷ []) ok (plain (λ _. R))) yes (λ κs x f. refl);
    hand = λ {𝓤 = 𝓤} 𝓛 κs x w vs. made (id⊢ 𝓤 (emp 𝓤));
    spells = λ κs. shr_slice_vals;
    tells = λ κs. shr_slice_Tells (named j) (meet_at n (j ∷ []) ok κs) R;
  }

-- nothing is said of a plain value at exit
pub silent : {D : Type 0} (e : Exit D) → e ≡ unchanged → (x : D) (f : Last e x) → left e x f ≡ ftrue
silent {D} e q = subst (λ (e' : Exit D). (x : D) (f : Last e' x) → left e' x f ≡ ftrue) (sym q) (λ x f. refl)

abbrev pub plain_param : {n : ℕ} → Plain → Param n
plain_param {n} P = record {
  slot = plain (λ _. P.row);
  stay = stay_dropped (plain (λ _. P.row)) yes;
  goes = λ 𝓛. Goes-dropped 𝓛 n (plain (λ _. P.row)) yes (λ κs. silent (P.row.exit yes) P.still);
  hand = λ {𝓤 = 𝓤} 𝓛 κs x w vs. made (id⊢ 𝓤 (emp 𝓤));
  spells = λ κs x. P.val x ∷ [];
  tells = λ κs. P.tells;
}

abbrev pub plain-number : {n : ℕ} → Param n
plain-number = plain_param (nat w64)

module _ {n : ℕ} where
  abbrev pub slots : List (Param n) → List (Slot n)
  slots [] = []
  slots (p ∷ ps) = p.slot ∷ slots ps

  abbrev pub stays : (ps : List (Param n)) → Stays (slots ps) (all yes (slots ps))
  stays [] = tt
  stays (p ∷ ps) = (p.stay, stays ps)

  abbrev pub all_go : {M : Type 1} {𝓤 : Ura M} (𝓛 : Logic 𝓤) (ps : List (Param n))
      → AllGo 𝓛 n (slots ps) (all yes (slots ps)) (stays ps)
  all_go 𝓛 [] = tt
  all_go 𝓛 (p ∷ ps) = (p.goes 𝓛, all_go 𝓛 ps)

  abbrev pub all-spell : (ps : List (Param n)) (κs : Lfts n) → Spells (types_at (slots ps) κs)
  all-spell [] κs = tt
  all-spell (p ∷ ps) κs = (p.spells κs, all-spell ps κs)

  abbrev pub all_tell : (ps : List (Param n)) (κs : Lfts n) → Tellss (types_at (slots ps) κs) (Ises (types_at (slots ps) κs)) (all-spell ps κs)
  all_tell [] κs = tt
  all_tell (p ∷ ps) κs = (p.tells κs, all_tell ps κs)

  abbrev pub haves : {M : Type 1} {𝓤 : Ura M} (𝓛 : Logic 𝓤) (ps : List (Param n)) (κs : Lfts n) (a : Denotss (types_at (slots ps) κs))
      (ws : Fins κs (slots ps) (all yes (slots ps)) a) (vss : Valss (types_at (slots ps) κs))
      → Haves 𝓛 κs (slots ps) (all yes (slots ps)) (stays ps) a ws vss
  haves 𝓛 [] κs a ws vss = tt
  haves 𝓛 (p ∷ ps) κs a ws vss = (p.hand 𝓛 κs a.0 ws.0 vss.0, haves 𝓛 ps κs a.1 ws.1 vss.1)
