-- A call in a walk by hand. The caller has what the callee asks as entries of its context, and afterwards what the callee gives.
--     tokens           the tokens of a callee's lifetimes, an entry each
--     Hand             a formula that is asked is held, an entry, or made of nothing, as what a number owns is
--     Hands, holdings  that of each parameter, and the entries
--     endings          what is said of the last values of the `&mut` that were passed, an entry each
--     calls            the call: tokens and holdings stand first, and afterwards tokens and endings. The clauses are handed over as facts: what the
--                      `requires` asks is shown, and what the `ensures` shows is learned
-- Assumes `Logic`, and that the table of calls is monotone under a frame.
use Prim.Native.Nat.{ℕ, zero, suc}
use mathlib.Core.List.{List, [], ◌∷◌, ◌++◌}
use seplogic.Ra.Ura.{Ura}
use mir.Syntax.{Callee as Named, Place, Opd as Operand, Body, seq, call}
use mir.Val.{Val}
use base.Logic.{SProp, ent, sep, ex, emp, guard, id⊢, via, mono∗, mono_l, mono_r, comm∗, emp∗, snd∗}
use base.Fml.{Fml, flft}
use prog.Wp.{Env, Calls, Loops}
use types.Logic.{Logic, sem}
use contract.Monad.{fact}
use contract.Lifetimes.{Lfts, Shares, toks}
use types.Kit.{Item, ‵, raw, some, given, later, ◌⊛◌, mean, ⋆, push, pop, ++⊢, ⊢++, Post, Seq, runs, lands, cut}
use types.Kit.{◌$◌, ◌∵◌, !, qed, by, move, use1, split, pick, learn, check, show, await, updating, now as at_once}
use types.Run.{Opds}
use sound.WpLaws.{FmC}
use denote.RattleType.{RattleType, Denots, Valss, owns}
use denote.Laws.{Is, shows}
use denote.Exit.{Exit, unchanged, leaves, Last, left}
use denote.Signature.{Slot, type_at, types_at}
use denote.Steps.{heard, facts}
use denote.Triple.Bound.{Bound, passed}
use denote.Triple.Call.{calls_at}
use denote.Triple.Clauses.{Clauses, Ended, Lasts, at_exit, lasts, closing}
use denote.Triple.End.{Kepts, Fins, lasts_of}
use denote.Triple.Entry.{Res, on_entry}
use denote.Triple.Spec.{triple_of}
use denote.Triple.Statement.{Contract, Triple}

module _ {M : Type 1} {𝓤 : Ura M} (𝓛 : Logic 𝓤) where
  open 𝓛 use {A}

  abbrev pub tokens : (n : ℕ) → Lfts n → Shares n → List (Item 𝓤)
  tokens zero κs qs = []
  tokens (suc n) κs qs = ‵ (flft κs.0 qs.0) ∷ tokens n κs.1 qs.1

  pub tokens-in : (n : ℕ) (κs : Lfts n) (qs : Shares n) → ent 𝓤 (⋆ 𝓛 (tokens n κs qs)) (toks 𝓛 n κs qs)
  tokens-in zero κs qs = id⊢ 𝓤 (emp 𝓤)
  tokens-in (suc n) κs qs = via 𝓤 _ (pop 𝓛 (‵ (flft κs.0 qs.0)) (tokens n κs.1 qs.1))
      (mono_r 𝓤 (A.lft κs.0 qs.0) (tokens-in n κs.1 qs.1))

  pub tokens-out : (n : ℕ) (κs : Lfts n) (qs : Shares n) → ent 𝓤 (toks 𝓛 n κs qs) (⋆ 𝓛 (tokens n κs qs))
  tokens-out zero κs qs = id⊢ 𝓤 (emp 𝓤)
  tokens-out (suc n) κs qs = via 𝓤 _ (mono_r 𝓤 (A.lft κs.0 qs.0) (tokens-out n κs.1 qs.1))
      (push 𝓛 (‵ (flft κs.0 qs.0)) (tokens n κs.1 qs.1))

  -- ---- what is asked
  pub data Hand (P : Fml) : Type 1 where
    held : Hand P
    made : ent 𝓤 (emp 𝓤) (sem 𝓛 P) → Hand P

  abbrev pub handed : (P : Fml) → Hand P → List (Item 𝓤) → List (Item 𝓤)
  handed P held Γ = ‵ P ∷ Γ
  handed P (made m) Γ = Γ

  pub handed-in : (P : Fml) (h : Hand P) (Γ : List (Item 𝓤)) → ent 𝓤 (⋆ 𝓛 (handed P h Γ)) (sep 𝓤 (sem 𝓛 P) (⋆ 𝓛 Γ))
  handed-in P held Γ = pop 𝓛 (‵ P) Γ
  handed-in P (made m) Γ = via 𝓤 _ (emp∗ 𝓤 (⋆ 𝓛 Γ)) (mono_l 𝓤 (⋆ 𝓛 Γ) m)

  abbrev pub Hands : (Ts : List RattleType) → Denots Ts → Valss Ts → Type 1
  Hands [] a vss = Unit {1}
  Hands (T ∷ Ts) a vss = Hand (T.own_val a.0 vss.0) × Hands Ts a.1 vss.1

  abbrev pub holdings : (Ts : List RattleType) (a : Denots Ts) (vss : Valss Ts) → Hands Ts a vss → List (Item 𝓤)
  holdings [] a vss hs = []
  holdings (T ∷ Ts) a vss hs = handed (T.own_val a.0 vss.0) hs.0 (holdings Ts a.1 vss.1 hs.1)

  holdings-in : (Ts : List RattleType) (a : Denots Ts) (vss : Valss Ts) (hs : Hands Ts a vss)
      → ent 𝓤 (⋆ 𝓛 (holdings Ts a vss hs)) (sem 𝓛 (owns Ts a vss))
  holdings-in [] a vss hs = id⊢ 𝓤 (emp 𝓤)
  holdings-in (T ∷ Ts) a vss hs = via 𝓤 _ (handed-in (T.own_val a.0 vss.0) hs.0 (holdings Ts a.1 vss.1 hs.1))
      (mono_r 𝓤 (sem 𝓛 (T.own_val a.0 vss.0)) (holdings-in Ts a.1 vss.1 hs.1))

  -- ---- what is given
  abbrev ending : {D : Type 0} (e : Exit D) (x : D) → Last e x → List (Item 𝓤) → List (Item 𝓤)
  ending unchanged x w Γ = Γ
  ending (leaves L l S s r₀) x w Γ = ‵ (l x w) ∷ Γ

  ending-out : {D : Type 0} (e : Exit D) (x : D) (w : Last e x) (Γ : List (Item 𝓤))
      → ent 𝓤 (sep 𝓤 (sem 𝓛 (left e x w)) (⋆ 𝓛 Γ)) (⋆ 𝓛 (ending e x w Γ))
  ending-out unchanged x w Γ = snd∗ 𝓤 (emp 𝓤) (⋆ 𝓛 Γ)
  ending-out (leaves L l S s r₀) x w Γ = push 𝓛 (‵ (l x w)) Γ

  abbrev pub endings : {n : ℕ} (κs : Lfts n) (ss : List (Slot n)) (ks : Kepts ss) (a : Denots (types_at ss κs)) → Fins κs ss ks a → List (Item 𝓤)
  endings κs [] ks a ws = []
  endings κs (s ∷ ss) ks a ws = ending ((s.row κs).exit ks.0) a.0 ws.0 (endings κs ss ks.1 a.1 ws.1)

  endings-out : {n : ℕ} (κs : Lfts n) (ss : List (Slot n)) (ks : Kepts ss) (a : Denots (types_at ss κs)) (ws : Fins κs ss ks a)
      → ent 𝓤 (sem 𝓛 (lasts_of κs ss ks a ws)) (⋆ 𝓛 (endings κs ss ks a ws))
  endings-out κs [] ks a ws = id⊢ 𝓤 (emp 𝓤)
  endings-out κs (s ∷ ss) ks a ws =
      via 𝓤 _ (mono_r 𝓤 (sem 𝓛 (left ((s.row κs).exit ks.0) a.0 ws.0)) (endings-out κs ss ks.1 a.1 ws.1))
      (ending-out ((s.row κs).exit ks.0) a.0 ws.0 (endings κs ss ks.1 a.1 ws.1))

  -- ---- a callee with its clauses, at what the call binds
  module _ (T : Ended) (c : Clauses 𝓤 T) where
    abbrev pub Callee : Contract 𝓤
    Callee = triple_of 𝓛 T.signature (closing 𝓛 T c)

    module _ (x : Bound 𝓛 T.signature) (g : (c x.0 x.3).ghost) where
      abbrev R : RattleType
      R = type_at T.signature.result x.0

      abbrev Δ : List (Item 𝓤)
      Δ = tokens T.signature.lifetimes x.0 x.1

      abbrev pub Before : Hands (types_at T.signature.params x.0) x.3 x.4 → List (Item 𝓤)
      Before hs = Δ ++ holdings (types_at T.signature.params x.0) x.3 x.4 hs

      abbrev Ends : Lasts T x.0 x.3 → List (Item 𝓤)
      Ends ws = endings x.0 T.signature.params T.kept x.3 ws

      abbrev pub After : Lasts T x.0 x.3 → List (Item 𝓤)
      After ws = Δ ++ Ends ws

      -- the `ensures` shows a fact of the result and the last values
      abbrev pub Shows : (Res T.signature x.0 → Lasts T x.0 x.3 → Type 0) → Type 1
      Shows Said = (r : Res T.signature x.0) (ws : Lasts T x.0 x.3)
          → ent 𝓤 ((c x.0 x.3).ensures g r (at_exit T x.0 x.3 ws)) (fact 𝓤 (Said r ws))

      -- what is learned: v is the result r, and the fact
      abbrev pub Learned : (Res T.signature x.0 → Lasts T x.0 x.3 → Type 0) → Val → Res T.signature x.0 → Lasts T x.0 x.3 → Type 0
      Learned Said v r ws = Is R r (v ∷ []) × Said r ws

      asks : (hs : Hands (types_at T.signature.params x.0) x.3 x.4) → ent 𝓤 (emp 𝓤) ((c x.0 x.3).requires g)
          → ent 𝓤 (⋆ 𝓛 (Before hs)) (Callee.pre (x, g))
      asks hs ok =
          let Δ' : List (Item 𝓤) = holdings (types_at T.signature.params x.0) x.3 x.4 hs in
          let P : SProp 𝓤 = on_entry 𝓛 T.signature x.0 x.1 x.3 x.4 in
          via 𝓤 (sep 𝓤 (⋆ 𝓛 Δ) (⋆ 𝓛 Δ')) (⊢++ 𝓛 Δ Δ')
          (via 𝓤 P (mono∗ 𝓤 (tokens-in T.signature.lifetimes x.0 x.1) (holdings-in (types_at T.signature.params x.0) x.3 x.4 hs))
          (via 𝓤 (sep 𝓤 (emp 𝓤) P) (emp∗ 𝓤 P) (via 𝓤 (sep 𝓤 ((c x.0 x.3).requires g) P) (mono_l 𝓤 P ok) (comm∗ 𝓤 ((c x.0 x.3).requires g) P))))

      abbrev Gives : (Res T.signature x.0 → Lasts T x.0 x.3 → Type 0) → Val → Item 𝓤
      Gives Said v = later (some (λ (r : Res T.signature x.0).
          some (λ (ws : Lasts T x.0 x.3). given (Learned Said v r ws) (raw (⋆ 𝓛 (After ws))))))

      gives : (Said : Res T.signature x.0 → Lasts T x.0 x.3 → Type 0) → Shows Said → (v : Val)
          → ent 𝓤 (Callee.post (x, g) v) (mean 𝓛 (Gives Said v))
      gives Said said v =
          qed 𝓛 (later (some (λ (r : Res T.signature x.0). (raw (toks 𝓛 T.signature.lifetimes x.0 x.1) ⊛ ‵ (R.own_val r (v ∷ [])))
          ⊛ some (λ (ws : Lasts T x.0 x.3). ‵ (lasts T x.0 x.3 ws) ⊛ raw ((c x.0 x.3).ensures g r (at_exit T x.0 x.3 ws))))) ∷ []) ∵
          updating ! $ await ! tt $ pick ! (λ r. split ! $ move ! (1 ∷ []) $
          pick ! (λ ws. split ! $ move ! (1 ∷ []) $ use1 𝓛 (raw (fact 𝓤 (Said r ws))) (said r ws) $ heard ! (Said r ws) (λ e.
          move ! (1 ∷ []) $ split ! $ move ! (1 ∷ []) $ facts ! R (Is R) (shows 𝓛 R) r (v ∷ [])
          (λ is. use1 𝓛 (raw (⋆ 𝓛 Δ)) (tokens-out T.signature.lifetimes x.0 x.1) $
          move ! (1 ∷ []) $ use1 𝓛 (raw (⋆ 𝓛 (Ends ws))) (endings-out x.0 T.signature.params T.kept x.3 ws) $
          at_once ! $ show ! (λ (r' : Res T.signature x.0). ex 𝓤 (λ (ws' : Lasts T x.0 x.3). guard 𝓤 (Learned Said v r' ws')
          (⋆ 𝓛 (After ws')))) r $
          show ! (λ (ws' : Lasts T x.0 x.3). guard 𝓤 (Learned Said v r ws') (⋆ 𝓛 (After ws'))) ws $ check ! (is, e) $ move ! (1 ∷ 0 ∷ []) $
          by ! (++⊢ 𝓛 Δ (Ends ws))))))

-- `!` stands after what the call is about, so that antt has read that before it compares the call with the goal
pub calls : {M : Type 1} {𝓤 : Ura M} (𝓛 : Logic 𝓤) {K : Type 0}
    {Γ : List (Item 𝓤)} {E : Env 𝓤 𝓛.H} {C : Calls 𝓤 𝓛.H} {f : Named} {xs : List Operand} {Λ : Loops 𝓤 𝓛.H} {q : Post 𝓤 𝓛.H} {d : Place} {rest : Body}
    → FmC 𝓤 𝓛.H 𝓛.laws C → (T : Ended) (c : Clauses 𝓤 T) → Triple 𝓤 (C f) (Callee 𝓛 T c)
    → (x : Bound 𝓛 T.signature) (g : (c x.0 x.3).ghost) (hs : Hands 𝓛 (types_at T.signature.params x.0) x.3 x.4)
    → ent 𝓤 (emp 𝓤) ((c x.0 x.3).requires g)
    → (Said : Res T.signature x.0 → Lasts T x.0 x.3 → Type 0) → Shows 𝓛 T c x g Said
    → K → Opds K 𝓛 (raw ((Callee 𝓛 T c).pre (x, g)) ∷ Γ) E xs (passed 𝓛 T.signature x)
    → ((v : Val) (r : Res T.signature x.0) (ws : Lasts T x.0 x.3) → Learned 𝓛 T c x g Said v r ws
    → Seq K 𝓛 (After 𝓛 T c x g ws ++ Γ) (lands C Λ E d v rest q))
    → Seq K 𝓛 (Before 𝓛 T c x g hs ++ Γ) (runs C Λ E (seq (call f xs d) rest) q)
calls {M} {𝓤} 𝓛 {K} {Γ} fm T c known x g hs ok Said said t os k =
    cut (Before 𝓛 T c x g hs) (raw ((Callee 𝓛 T c).pre (x, g)) ∷ []) Γ (asks 𝓛 T c x g hs ok) $
    calls_at t fm (Callee 𝓛 T c) known (x, g) os (λ v.
    use1 𝓛 (Gives 𝓛 T c x g Said v) (gives 𝓛 T c x g Said said v) $ await t tt $ pick t (λ r. pick t (λ ws. learn t (λ e.
    cut (raw (⋆ 𝓛 (After 𝓛 T c x g ws)) ∷ []) (After 𝓛 T c x g ws) Γ (id⊢ 𝓤 _) $ k v r ws e))))
