-- A walk by hand, from the entry to the exit, and the contract that it shows.
--     Entry            the tokens and what the parameters own, an entry each
--     Walk             from there the MIR runs to the `post` of `walk_of`
--     walking          a walk from the allocation of the locals on
--     Ends             a walk's end: the tokens and what is had of the parameters are in hand, the result is made, and what the `ensures` asks is shown
--     meets-by         a function meets its contract, from a walk that knows the relations of the parameters and what the `requires` shows
-- Assumes `Logic`.
use Prim.Native.Nat.{ℕ}
use mathlib.Core.List.{List, [], ◌∷◌, ◌++◌}
use seplogic.Ra.Ura.{Ura}
use mir.Syntax.{Fn}
use mir.Val.{Val}
use base.Logic.{SProp, ent, emp, id⊢, via, mono∗, mono_r}
use prog.Wp.{WpFn, Tables}
use types.Logic.{Logic, sem}
use contract.Monad.{fact}
use contract.Lifetimes.{Lfts, Shares, AllOutlive, toks}
use types.Kit.{Item, ‵, raw, ◌⊛◌, ⋆, push, ++⊢, ⊢++, Go, Seq, runs, allocs, params', at_ret}
use types.Kit.{◌$◌, ◌∵◌, !, qed, move, use0, use1, split, join, suffices, done}
use types.Run.{enter}
use sound.WpLaws.{WpFn-mono}
use denote.RattleType.{RattleType, Denots, Valss, owns}
use denote.Laws.{Are, Ises, Spells, valss, Tellss}
use denote.Signature.{Slot, type_at, types_at}
use denote.Triple.Bound.{Bound, passed}
use denote.Triple.Clauses.{Clauses, Ended, Lasts, at_exit, closing}
use denote.Triple.End.{Kepts, Fins}
use denote.Triple.Entry.{Args, Res, on_entry}
use denote.Triple.Spec.{Meets}
use denote.Triple.Walked.{Stays, has_of, walk_of, ends_at, Fit, AllGo, walked, walk_Meets, needs}
use Rattle.walks.proofs.Calls.{Hand, handed, handed-in, tokens, tokens-in, tokens-out}

module _ {M : Type 1} {𝓤 : Ura M} (𝓛 : Logic 𝓤) where
  -- what the parameters own at entry
  abbrev entries : (Ts : List RattleType) → Denots Ts → Valss Ts → List (Item 𝓤)
  entries [] a vss = []
  entries (T ∷ Ts) a vss = ‵ (T.own_val a.0 vss.0) ∷ entries Ts a.1 vss.1

  entries_out : (Ts : List RattleType) (a : Denots Ts) (vss : Valss Ts) → ent 𝓤 (sem 𝓛 (owns Ts a vss)) (⋆ 𝓛 (entries Ts a vss))
  entries_out [] a vss = id⊢ 𝓤 (emp 𝓤)
  entries_out (T ∷ Ts) a vss = via 𝓤 _ (mono_r 𝓤 (sem 𝓛 (T.own_val a.0 vss.0)) (entries_out Ts a.1 vss.1))
      (push 𝓛 (‵ (T.own_val a.0 vss.0)) (entries Ts a.1 vss.1))

  -- what is had of the parameters at exit
  abbrev pub Haves : {n : ℕ} (κs : Lfts n) (ss : List (Slot n)) (ks : Kepts ss) (hs : Stays ss ks) (a : Denots (types_at ss κs)) → Fins κs ss ks a
      → Valss (types_at ss κs) → Type 1
  Haves κs [] ks hs a ws vss = Unit {1}
  Haves κs (s ∷ ss) ks hs a ws vss = Hand 𝓛 (hs.0.has κs a.0 ws.0 vss.0) × Haves κs ss ks.1 hs.1 a.1 ws.1 vss.1

  abbrev havings : {n : ℕ} (κs : Lfts n) (ss : List (Slot n)) (ks : Kepts ss) (hs : Stays ss ks) (a : Denots (types_at ss κs)) (ws : Fins κs ss ks a)
      (vss : Valss (types_at ss κs))
      → Haves κs ss ks hs a ws vss → List (Item 𝓤)
  havings κs [] ks hs a ws vss ds = []
  havings κs (s ∷ ss) ks hs a ws vss ds = handed 𝓛 (hs.0.has κs a.0 ws.0 vss.0) ds.0
      (havings κs ss ks.1 hs.1 a.1 ws.1 vss.1 ds.1)

  havings-in : {n : ℕ} (κs : Lfts n) (ss : List (Slot n)) (ks : Kepts ss) (hs : Stays ss ks) (a : Denots (types_at ss κs)) (ws : Fins κs ss ks a)
      (vss : Valss (types_at ss κs)) (ds : Haves κs ss ks hs a ws vss)
      → ent 𝓤 (⋆ 𝓛 (havings κs ss ks hs a ws vss ds)) (sem 𝓛 (has_of κs ss ks hs a ws vss))
  havings-in κs [] ks hs a ws vss ds = id⊢ 𝓤 (emp 𝓤)
  havings-in κs (s ∷ ss) ks hs a ws vss ds =
      via 𝓤 _ (handed-in 𝓛 (hs.0.has κs a.0 ws.0 vss.0) ds.0 (havings κs ss ks.1 hs.1 a.1 ws.1 vss.1 ds.1))
      (mono_r 𝓤 (sem 𝓛 (hs.0.has κs a.0 ws.0 vss.0)) (havings-in κs ss ks.1 hs.1 a.1 ws.1 vss.1 ds.1))

module _ {M : Type 1} {𝓤 : Ura M} (𝓛 : Logic 𝓤) (T : Ended) (hs : Stays T.signature.params T.kept) (c : Clauses 𝓤 T)
    (x : Bound 𝓛 T.signature) (g : (c x.0 x.3).ghost) where
  abbrev Entry : List (Item 𝓤)
  Entry = tokens 𝓛 T.signature.lifetimes x.0 x.1 ++ entries 𝓛 (types_at T.signature.params x.0) x.3 x.4

  abbrev pub Post : Val → SProp 𝓤
  Post = (walk_of 𝓛 T hs c).post (x, g)

  abbrev Had : (ws : Lasts T x.0 x.3) → Haves 𝓛 x.0 T.signature.params T.kept hs x.3 ws x.4 → List (Item 𝓤)
  Had ws ds = tokens 𝓛 T.signature.lifetimes x.0 x.1 ++ havings 𝓛 x.0 T.signature.params T.kept hs x.3 ws x.4 ds

  -- how a walk ends, at the machine value v of the result r and the last values ws
  abbrev pub Ends : Type 1
  Ends = (v : Val) (r : Res T.signature x.0) (ws : Lasts T x.0 x.3) (ds : Haves 𝓛 x.0 T.signature.params T.kept hs x.3 ws x.4)
      → ent 𝓤 (emp 𝓤) (sem 𝓛 ((type_at T.signature.result x.0).own_val r (v ∷ []))) → Fit T hs x.0 x.3 ws
      → ent 𝓤 (emp 𝓤) ((c x.0 x.3).ensures g r (at_exit T x.0 x.3 ws))
      → ent 𝓤 (⋆ 𝓛 (Had ws ds)) (Post v)

  ends : Ends
  ends v r ws ds result fits ok =
      let Δ : List (Item 𝓤) = tokens 𝓛 T.signature.lifetimes x.0 x.1 in
      let Δ' : List (Item 𝓤) = havings 𝓛 x.0 T.signature.params T.kept hs x.3 ws x.4 ds in
      qed 𝓛 (raw (⋆ 𝓛 (Δ ++ Δ')) ∷ []) ∵ suffices ! _ (ends_at 𝓛 T hs c (x, g) v r ws fits) $
      use1 𝓛 (raw (⋆ 𝓛 Δ) ⊛ raw (⋆ 𝓛 Δ')) (⊢++ 𝓛 Δ Δ') $ split ! $
      use0 𝓛 (raw ((c x.0 x.3).ensures g r (at_exit T x.0 x.3 ws))) ok $ use0 𝓛 (‵ ((type_at T.signature.result x.0).own_val r (v ∷ []))) result $
      move ! (2 ∷ 3 ∷ []) $
      use1 𝓛 (raw (toks 𝓛 T.signature.lifetimes x.0 x.1)) (tokens-in 𝓛 T.signature.lifetimes x.0 x.1) $ move ! (1 ∷ 2 ∷ []) $
      use1 𝓛 (‵ (has_of x.0 T.signature.params T.kept hs x.3 ws x.4))
      (havings-in 𝓛 x.0 T.signature.params T.kept hs x.3 ws x.4 ds) $
      -- [what is had; the result; the tokens; the clause]
      join ! $ move ! (1 ∷ 0 ∷ []) $ join ! $ done !

-- a record, so that a walk's proof reads its parameters off the type
pub record Walk {M : Type 1} {𝓤 : Ura M} (𝓛 : Logic 𝓤) (T : Ended) (hs : Stays T.signature.params T.kept)
    (c : Clauses 𝓤 T) (𝓣 : Tables 𝓤 𝓛.H) (f : Fn)
    (x : Bound 𝓛 T.signature) (g : (c x.0 x.3).ghost) : Type 1 where
  pub prf : ent 𝓤 (⋆ 𝓛 (Entry 𝓛 T hs c x g)) (WpFn 𝓤 𝓛.H 𝓣.C 𝓣.Λ f (passed 𝓛 T.signature x) (Post 𝓛 T hs c x g))

module _ {M : Type 1} {𝓤 : Ura M} {𝓛 : Logic 𝓤} {T : Ended}
    {hs : Stays T.signature.params T.kept} {c : Clauses 𝓤 T} {𝓣 : Tables 𝓤 𝓛.H} {f : Fn}
    {x : Bound 𝓛 T.signature} {g : (c x.0 x.3).ghost} where
  pub walking : (Ends 𝓛 T hs c x g → Seq (Go {0}) 𝓛 (Entry 𝓛 T hs c x g)
      (allocs f.locals (λ E. params' E (passed 𝓛 T.signature x) (runs 𝓣.C 𝓣.Λ E f.body (at_ret E (Post 𝓛 T hs c x g))))))
      → Walk 𝓛 T hs c 𝓣 f x g
  walking s = record {
    prf = qed 𝓛 (Entry 𝓛 T hs c x g) ∵ enter ! 𝓣.C 𝓣.Λ f (passed 𝓛 T.signature x) (Post 𝓛 T hs c x g) $
        s (ends 𝓛 T hs c x g);
  }

module _ {M : Type 1} {𝓤 : Ura M} (𝓛 : Logic 𝓤) (T : Ended) (hs : Stays T.signature.params T.kept) (c : Clauses 𝓤 T)
    (𝓣 : Tables 𝓤 𝓛.H) (f : Fn)
    (sp : (κs : Lfts T.signature.lifetimes) → Spells (types_at T.signature.params κs)) where
  open 𝓛 use {H}

  abbrev written : (κs : Lfts T.signature.lifetimes) (a : Args T.signature κs) → Valss (types_at T.signature.params κs)
  written κs a = valss (types_at T.signature.params κs) (sp κs) a

  pub meets-by : ((κs : Lfts T.signature.lifetimes) → Tellss (types_at T.signature.params κs) (Ises (types_at T.signature.params κs)) (sp κs))
      → AllGo 𝓛 T.signature.lifetimes T.signature.params T.kept hs
      → (Asked : (κs : Lfts T.signature.lifetimes) (a : Args T.signature κs) → Type 0)
      → ((κs : Lfts T.signature.lifetimes) (a : Args T.signature κs) (g : (c κs a).ghost) → ent 𝓤 ((c κs a).requires g) (fact 𝓤 (Asked κs a)))
      → ((κs : Lfts T.signature.lifetimes) (qs : Shares T.signature.lifetimes) (b : AllOutlive T.signature.lifetimes T.signature.outlives κs)
      (a : Args T.signature κs) (g : (c κs a).ghost)
      → Are (types_at T.signature.params κs) (Ises (types_at T.signature.params κs)) a (written κs a) → Asked κs a
      → Walk 𝓛 T hs c 𝓣 f (κs, qs, b, a, written κs a) g)
      → Meets 𝓛 T.signature (WpFn 𝓤 H 𝓣.C 𝓣.Λ f) (closing 𝓛 T c)
  meets-by tl gs Asked asked walk = walk_Meets 𝓛 T hs gs c (WpFn 𝓤 H 𝓣.C 𝓣.Λ f) (WpFn-mono 𝓤 H 𝓛.laws 𝓣 f)
      (walked 𝓛 T hs c (WpFn 𝓤 H 𝓣.C 𝓣.Λ f) sp tl (λ κs qs b a g are.
      let P : SProp 𝓤 = on_entry 𝓛 T.signature κs qs a (written κs a) in
      via 𝓤 _ (mono_r 𝓤 P (asked κs a g)) (needs 𝓤 (Asked κs a) P (λ ok.
      via 𝓤 _ (via 𝓤 _ (mono∗ 𝓤 (tokens-out 𝓛 T.signature.lifetimes κs qs) (entries_out 𝓛 (types_at T.signature.params κs) a (written κs a)))
      (++⊢ 𝓛 (tokens 𝓛 T.signature.lifetimes κs qs) (entries 𝓛 (types_at T.signature.params κs) a (written κs a))))
      (walk κs qs b a g are ok).prf))))
