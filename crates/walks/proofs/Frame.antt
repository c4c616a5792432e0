-- A function's locals in a walk by hand, as one entry of the context, which stands first: `frame E cs` has the locals' places E and what each holds, cs.
--     Cell             what a local holds: nothing yet, a value, or nothing while its memory is lent
--     begins           the locals are allocated and the parameters passed
--     var, points      a local is an operand; what a local points at
--     loc, con, args   a call's operands, each a local or a constant
--     sets, sets-as, sets_last        an assignment to a local, of a value that is known as another, and one that ends a turn
--     stores, stores-plain            a call's result is stored in a local
--     passes_on        a slice that a function holds is passed on
--     lends, returned  a local's memory is lent, and comes back
--     forgets_from     what the locals from one on hold is forgotten
--     returns-all, returns-early      the function returns what its first local holds, and the locals are freed; the same inside an `if`
--     goes-past        an `if` whose test does not hold
-- Assumes `Logic`.
use mathlib.Core.Path.{◌≡◌, refl, sym, ap, subst}
use mathlib.Core.Bool.{Bool, true, false, ◌&&◌}
use mathlib.Core.List.{List, [], ◌∷◌, map}
use Prim.Native.Nat.{ℕ, zero, suc, ◌<◌, ◌^◌}
use lib.Dec.{T, ltb}
use lib.ListN.{get_or, set}
use seplogic.Ra.Ura.{Ura}
use base.Fraction.{full_share}
use mir.Syntax.{Ty, Lifetime, Mutability, w64, ty_ref, ty_enum, ttnil, place, deref, field, copy, int, Opd as Operand, addr_of, aggregate, Rv as RValue}
use mir.Syntax.{Body, skip, seq, assign, cond, rv_opd, return, Home, Local, local}
use mir.Val.{Val, vunit, vbool, vint, vptr, has_ty, WT}
use base.Logic.{SProp, ent, sep, wand, all, all_e, apply∗, id⊢, via, mono∗, mono_r, guard_i, never_e}
use base.Fml.{Fml, ftrue, ffalse, feq, fsep, fat, froom, fdies}
use prog.Memory.{field_of}
use prog.Wp.{Calls, Loops, next}
use types.Logic.{Logic, sem}
use types.Kit.{Post, post, at_ret, Goal, prop, frees, Seq, Step, step, drop, runs, lands, allocs, params', passes, Item, ‵, raw, ◌⊛◌}
use types.Kit.{◌$◌, ◌∵◌, !, qed, by, move, keep, use1, use2, split, rewrite, fsplit, fjoin, feq_i, frame as front, each, assume, done}
use types.Part.{Part, sub, look_in, agg}
use types.Run.{Finds, Opd, Rv, Writes, init, stop, hop, fld, from, load, lit, Opds, addr, and_then, no_more, of_opd}
use types.Run.{assigns, assigns_last, land, forget, first, branches, skips, returns, returns_within}
use types.Run.{alloc1, alloc0, params1, pass1, pass0, free1, free0}
use denote.Laws.{Is}
use denote.Slice.{slice_ty, slice_val}
use denote.Steps.{nothing}
use Rattle.walks.proofs.Plain.{Plain, told, meant}

-- a local's place: its type and its block
abbrev pub Spot : Type 0
Spot = Ty × ℕ

-- what a local holds: nothing yet, a value, or nothing while its memory is lent
pub data Cell : Type 0 where
  empty : Cell
  full : Val → Cell
  away : Cell

abbrev pub present : Cell → Bool
present empty = true
present (full v) = true
present away = false

abbrev pub lies_away : Cell → Bool
lies_away empty = false
lies_away (full v) = false
lies_away away = true

cell : Spot → Cell → Fml
cell e empty = fsep (froom e.0 e.1 zero) (fdies e.0 e.1)
cell e (full v) = fsep (fat full_share e.0 e.1 zero v) (fdies e.0 e.1)
cell e away = fdies e.0 e.1

pub cells : List Spot → List Cell → Fml
cells [] [] = ftrue
cells [] (c ∷ cs) = ffalse
cells (e ∷ E) [] = ftrue
cells (e ∷ E) (c ∷ cs) = fsep (cell e c) (cells E cs)

-- what the locals are and what they hold is written beside them, for the rules to read
abbrev pub frame : List Spot → List Cell → Fml
frame E cs = fsep (feq (List Spot) E E) (fsep (feq (List Cell) cs cs) (cells E cs))

-- past the last local: a type that has no value, as in `Prog/Wp.antt`
abbrev nowhere : Spot
nowhere = (ty_enum [] ttnil, zero)

abbrev pub type_of : List Spot → ℕ → Ty
type_of E i = (get_or E i nowhere).0

abbrev pub block_of : List Spot → ℕ → ℕ
block_of E i = (get_or E i nowhere).1

abbrev Full : Cell → Type 0
Full empty = ⊥
Full (full v) = Unit
Full away = ⊥

abbrev value_of : Cell → Val
value_of empty = vunit
value_of (full v) = v
value_of away = vunit

module _ {M : Type 1} {𝓤 : Ura M} (𝓛 : Logic 𝓤) where
  -- the cell of local i, filled with u again
  open 𝓛 use {H}

  abbrev Way : List Cell → List Spot → ℕ → Val → SProp 𝓤
  Way cs E i u = wand 𝓤 (H.at full_share (type_of E i) (block_of E i) zero u) (sem 𝓛 (cells E (set cs i (full u))))

  -- one local more, in front
  next_way : (c : Cell) (cs : List Cell) (p : Spot) (E : List Spot) (i : ℕ) (P : Fml)
      → ent 𝓤 (sem 𝓛 (cells E cs)) (sep 𝓤 (sem 𝓛 P) (all 𝓤 (Way cs E i)))
      → ent 𝓤 (sem 𝓛 (cells (p ∷ E) (c ∷ cs))) (sep 𝓤 (sem 𝓛 P) (all 𝓤 (Way (c ∷ cs) (p ∷ E) (suc i))))
  unfolding cells
  next_way c cs p E i P h =
      qed 𝓛 (‵ (fsep (cell p c) (cells E cs)) ∷ []) ∵ fsplit ! $ move ! (1 ∷ []) $ use1 𝓛 (‵ P ⊛ raw (all 𝓤 (Way cs E i))) h $ split ! $ front ! $
      each ! (Way (c ∷ cs) (p ∷ E) (suc i)) (λ u. assume {P = sem 𝓛 (cells (p ∷ E) (c ∷ set cs i (full u)))} !
      (‵ (fat full_share (type_of E i) (block_of E i) zero u)) $ move ! (1 ∷ []) $
      use1 𝓛 (raw (Way cs E i u)) (all_e 𝓤 (Way cs E i) u) $ move ! (1 ∷ 0 ∷ []) $
      use2 𝓛 (‵ (cells E (set cs i (full u)))) (apply∗ 𝓤 (H.at full_share (type_of E i) (block_of E i) zero u) (sem 𝓛 (cells E (set cs i (full u))))) $
      move ! (1 ∷ 0 ∷ []) $ fjoin ! $ done !)

  -- a local's value is taken out, and any value can be put in its place
  value_out : (cs : List Cell) (E : List Spot) (i : ℕ) (v : Val) → get_or cs i away ≡ full v
      → ent 𝓤 (sem 𝓛 (cells E cs)) (sep 𝓤 (H.at full_share (type_of E i) (block_of E i) zero v) (all 𝓤 (Way cs E i)))
  unfolding cells cell
  value_out [] E i v e = absurd (subst Full (sym e) tt)
  value_out (c ∷ cs) [] i v e = never_e 𝓤 _
  value_out (empty ∷ cs) (p ∷ E) zero v e = absurd (subst Full (sym e) tt)
  value_out (away ∷ cs) (p ∷ E) zero v e = absurd (subst Full (sym e) tt)
  value_out (full w ∷ cs) (p ∷ E) zero v e =
      qed 𝓛 (‵ (fsep (fsep (fat full_share p.0 p.1 zero w) (fdies p.0 p.1)) (cells E cs)) ∷ []) ∵ fsplit ! $ fsplit ! $
      rewrite ! 0 (λ (u : Val). ‵ (fat full_share p.0 p.1 zero u)) (ap value_of e) refl $ front ! $
      each ! (Way (full w ∷ cs) (p ∷ E) zero) (λ u. assume {P = sem 𝓛 (cells (p ∷ E) (full u ∷ cs))} ! (‵ (fat full_share p.0 p.1 zero u)) $
      move ! (0 ∷ 1 ∷ []) $ fjoin ! $ fjoin ! $ done !)
  value_out (c ∷ cs) (p ∷ E) (suc i) v e = next_way c cs p E i (fat full_share (type_of E i) (block_of E i) zero v) (value_out cs E i v e)

  -- the room of a local that is not away is taken out, and any value can be put there
  room_out : (cs : List Cell) (E : List Spot) (i : ℕ) → T (present (get_or cs i away))
      → ent 𝓤 (sem 𝓛 (cells E cs)) (sep 𝓤 (H.room (type_of E i) (block_of E i) zero) (all 𝓤 (Way cs E i)))
  unfolding cells cell
  room_out [] E i z = absurd z
  room_out (c ∷ cs) [] i z = never_e 𝓤 _
  room_out (empty ∷ cs) (p ∷ E) zero z =
      qed 𝓛 (‵ (fsep (fsep (froom p.0 p.1 zero) (fdies p.0 p.1)) (cells E cs)) ∷ []) ∵ fsplit ! $ fsplit ! $ front ! $
      each ! (Way (empty ∷ cs) (p ∷ E) zero) (λ u. assume {P = sem 𝓛 (cells (p ∷ E) (full u ∷ cs))} ! (‵ (fat full_share p.0 p.1 zero u)) $ fjoin ! $
      fjoin ! $ done !)
  room_out (full w ∷ cs) (p ∷ E) zero z =
      qed 𝓛 (‵ (cells (p ∷ E) (full w ∷ cs)) ∷ []) ∵ use1 𝓛 (‵ (fat full_share p.0 p.1 zero w) ⊛ raw (all 𝓤 (Way (full w ∷ cs) (p ∷ E) zero)))
      (value_out (full w ∷ cs) (p ∷ E) zero w refl) $ split ! $
      use1 𝓛 (‵ (froom p.0 p.1 zero)) (𝓛.laws.at_room p.0 p.1 zero w) $ done !
  room_out (away ∷ cs) (p ∷ E) zero z = absurd z
  room_out (c ∷ cs) (p ∷ E) (suc i) z = next_way c cs p E i (froom (type_of E i) (block_of E i) zero) (room_out cs E i z)

  frame-out : (E : List Spot) (cs : List Cell) → ent 𝓤 (sem 𝓛 (frame E cs)) (sem 𝓛 (cells E cs))
  frame-out E cs = qed 𝓛 (‵ (frame E cs) ∷ []) ∵ fsplit ! $ move ! (1 ∷ []) $ fsplit ! $ keep ! (1 ∷ []) $ done !

  frame-in : (E : List Spot) (cs : List Cell) → ent 𝓤 (sem 𝓛 (cells E cs)) (sem 𝓛 (frame E cs))
  frame-in E cs = qed 𝓛 (‵ (cells E cs) ∷ []) ∵ feq_i ! (List Cell) cs cs refl $ fjoin ! $ feq_i ! (List Spot) E E refl $ fjoin ! $ done !

  -- the same of the frame
  abbrev Back : List Spot → List Cell → ℕ → Val → SProp 𝓤
  Back E cs i u = wand 𝓤 (H.at full_share (type_of E i) (block_of E i) zero u) (sem 𝓛 (frame E (set cs i (full u))))

  through : (E : List Spot) (cs : List Cell) (i : ℕ) (P : Fml) → ent 𝓤 (sem 𝓛 (cells E cs)) (sep 𝓤 (sem 𝓛 P) (all 𝓤 (Way cs E i)))
      → ent 𝓤 (sem 𝓛 (frame E cs)) (sep 𝓤 (sem 𝓛 P) (all 𝓤 (Back E cs i)))
  through E cs i P h =
      qed 𝓛 (‵ (frame E cs) ∷ []) ∵ use1 𝓛 (‵ (cells E cs)) (frame-out E cs) $ use1 𝓛 (‵ P ⊛ raw (all 𝓤 (Way cs E i))) h $ split ! $ front ! $
      each ! (Back E cs i) (λ u. assume {P = sem 𝓛 (frame E (set cs i (full u)))} ! (‵ (fat full_share (type_of E i) (block_of E i) zero u)) $
      move ! (1 ∷ []) $
      use1 𝓛 (raw (Way cs E i u)) (all_e 𝓤 (Way cs E i) u) $ move ! (1 ∷ 0 ∷ []) $
      use2 𝓛 (‵ (cells E (set cs i (full u)))) (apply∗ 𝓤 (H.at full_share (type_of E i) (block_of E i) zero u) (sem 𝓛 (cells E (set cs i (full u))))) $
      by ! (frame-in E (set cs i (full u))))

set_same : (cs : List Cell) (i : ℕ) (v : Val) → get_or cs i away ≡ full v → set cs i (full v) ≡ cs
set_same [] i v e = refl
set_same (c ∷ cs) zero v e = ap (λ (d : Cell). d ∷ cs) (sym e)
set_same (c ∷ cs) (suc i) v e = ap (λ (ds : List Cell). c ∷ ds) (set_same cs i v e)

set_there : (cs : List Cell) (i : ℕ) (v : Val) → T (present (get_or cs i away)) → get_or (set cs i (full v)) i away ≡ full v
set_there [] i v z = absurd z
set_there (c ∷ cs) zero v z = refl
set_there (c ∷ cs) (suc i) v z = set_there cs i v z

-- ---- a local is read and written
module _ {M : Type 1} {𝓤 : Ura M} {𝓛 : Logic 𝓤} {K : Type 0} {E : List Spot} {cs : List Cell} where
  open 𝓛 use {H}

  pub cell-of : K → (i : ℕ) {v : Val} → get_or cs i away ≡ full v → Part K 𝓛 (‵ (frame E cs)) full_share (type_of E i) (block_of E i) zero v
      (λ u. ‵ (frame E (set cs i (full u))))
  cell-of t i {v} e = record {
    out = through 𝓛 E cs i (fat full_share (type_of E i) (block_of E i) zero v) (value_out 𝓛 cs E i v e);
    same = ap
        (λ (ds : List Cell). ‵ (frame E ds)) (set_same cs i v e);
  }

  module _ {Γ : List (Item 𝓤)} where
    -- an operand that is a local
    pub var : K → {i : ℕ} {v : Val} → get_or cs i away ≡ full v → Opd K 𝓛 (‵ (frame E cs) ∷ Γ) E (copy (place i [])) v
    var t {i} e = load t (from t (stop t)) (look_in t 0 (cell-of t i e))

    -- what a local points at
    pub points : K → {i : ℕ} {τ : Ty} {b o : ℕ} → get_or cs i away ≡ full (vptr b o) → Finds K 𝓛 (‵ (frame E cs) ∷ Γ) E (place i (deref τ ∷ [])) (τ, b, o)
    points t {i} e = from t (hop t (look_in t 0 (cell-of t i e)) (stop t))

    write : K → (i : ℕ) (v : Val) → T (present (get_or cs i away)) → T (has_ty (type_of E i) v) × WT v
        → Writes K 𝓛 (‵ (frame E cs) ∷ Γ) (type_of E i) (block_of E i) zero v (‵ (frame E (set cs i (full v))) ∷ Γ)
    write t i v z typed = record {
      go = λ P h.
          via 𝓤 _ (qed 𝓛 (‵ (frame E cs) ∷ Γ) ∵ use1 𝓛 (‵ (froom (type_of E i) (block_of E i) zero) ⊛ raw (all 𝓤 (Back 𝓛 E cs i)))
          (through 𝓛 E cs i (froom (type_of E i) (block_of E i) zero) (room_out 𝓛 cs E i z)) $ split ! $ front ! $
          assume {P = P} ! (‵ (fat full_share (type_of E i) (block_of E i) zero v)) $ move ! (1 ∷ []) $
          use1 𝓛 (raw (Back 𝓛 E cs i v)) (all_e 𝓤 (Back 𝓛 E cs i) v) $ move ! (1 ∷ 0 ∷ []) $
          use2 𝓛 (‵ (frame E (set cs i (full v)))) (apply∗ 𝓤 (H.at full_share (type_of E i) (block_of E i) zero v) (sem 𝓛 (frame E (set cs i (full v))))) $
          by ! h)
          (guard_i 𝓤 (T (has_ty (type_of E i) v) × WT v) _ typed);
    }

    module _ {C : Calls 𝓤 H} {Λ : Loops 𝓤 H} {q : Post 𝓤 H} {rest : Body} where
      -- an assignment to a local
      pub sets : K → {i : ℕ} {rv : RValue} {v : Val} → Rv K 𝓛 (‵ (frame E cs) ∷ Γ) E rv v → T (present (get_or cs i away)) → T (has_ty (type_of E i) v) × WT v
          → Step K 𝓛 (‵ (frame E (set cs i (full v))) ∷ Γ) (runs C Λ E rest q) (‵ (frame E cs) ∷ Γ) (runs C Λ E (seq (assign (place i []) rv) rest) q)
      sets t {i} {v = v} r z typed = assigns t r (from t (stop t)) (write t i v z typed)

      -- the same, of a value that is known as w
      pub sets-as : K → {i : ℕ} {rv : RValue} {v w : Val} → Rv K 𝓛 (‵ (frame E cs) ∷ Γ) E rv v → v ≡ w → T (present (get_or cs i away))
          → T (has_ty (type_of E i) w) × WT w
          → Step K 𝓛 (‵ (frame E (set cs i (full w))) ∷ Γ) (runs C Λ E rest q) (‵ (frame E cs) ∷ Γ) (runs C Λ E (seq (assign (place i []) rv) rest) q)
      sets-as t {i} {rv} {w = w} r e z typed = sets t (subst (λ (u : Val). Rv K 𝓛 (‵ (frame E cs) ∷ Γ) E rv u) e r) z typed

      -- a call's result v, which is w, is stored in a local
      pub stores : K → {i : ℕ} {v w : Val} → v ≡ w → T (present (get_or cs i away)) → T (has_ty (type_of E i) w) × WT w
          → Step K 𝓛 (‵ (frame E (set cs i (full w))) ∷ Γ) (runs C Λ E rest q) (‵ (frame E cs) ∷ Γ) (lands C Λ E (place i []) v rest q)
      stores t {i} {v} {w} e z typed = step (λ s. subst (λ (u : Val). Seq K 𝓛 (‵ (frame E cs) ∷ Γ) (lands C Λ E (place i []) u rest q)) (sym e)
          (land t (from t (stop t)) (write t i w z typed) $ s))

      -- the same of a result that stands for x
      pub stores-plain : K → (P : Plain) (x : P.row.Denot) {i : ℕ} {v : Val} → Is P.row x (v ∷ []) → T (present (get_or cs i away)) → type_of E i ≡ P.mir
          → Step K 𝓛 (‵ (frame E (set cs i (full (P.val x)))) ∷ Γ) (runs C Λ E rest q) (‵ (frame E cs) ∷ Γ) (lands C Λ E (place i []) v rest q)
      stores-plain t P x {v = v} is z e = stores t (told P x v is) z
          (subst (λ (τ : Ty). T (has_ty τ (P.val x)) × WT (P.val x)) (sym e) (P.typed 𝓛 x (meant P x v is)))

    -- an assignment that ends a turn
    pub sets_last : K → {C : Calls 𝓤 H} {Λ : Loops 𝓤 H} {q : Post 𝓤 H} {i : ℕ} {rv : RValue} {v w : Val} → Rv K 𝓛 (‵ (frame E cs) ∷ Γ) E rv v → v ≡ w
        → T (present (get_or cs i away)) → T (has_ty (type_of E i) w) × WT w
        → Step K 𝓛 (‵ (frame E (set cs i (full w))) ∷ Γ) (prop (post 𝓤 H q next)) (‵ (frame E cs) ∷ Γ) (runs C Λ E (assign (place i []) rv) q)
    sets_last t {i = i} {rv} {w = w} r e z typed = assigns_last t (subst (λ (u : Val). Rv K 𝓛 (‵ (frame E cs) ∷ Γ) E rv u) e r) (from t (stop t))
        (write t i w z typed)

-- ---- a call's operands, each a local or a constant, where what the call asks stands before the locals
pub data Source : Type 0 where
  loc : ℕ → Source
  con : (n : ℕ) → T (ltb n (2 ^ 64)) → Source

abbrev operand : Source → Operand
operand (loc i) = copy (place i [])
operand (con n z) = int w64 n

abbrev content : List Cell → Source → Cell
content cs (loc i) = get_or cs i away
content cs (con n z) = full (vint w64 n)

abbrev head : List Cell → Cell
head [] = away
head (c ∷ cs) = c

abbrev Some : List Cell → Type 0
Some [] = ⊥
Some (c ∷ cs) = Unit

abbrev rest_of : List Cell → List Cell
rest_of [] = []
rest_of (c ∷ cs) = cs

module _ {M : Type 1} {𝓤 : Ura M} {𝓛 : Logic 𝓤} {K : Type 0} {j : Item 𝓤}
    {Γ : List (Item 𝓤)} {E : List Spot} {cs : List Cell} where
  one : K → (s : Source) {v : Val} → content cs s ≡ full v → Opd K 𝓛 (j ∷ ‵ (frame E cs) ∷ Γ) E (operand s) v
  one t (loc i) e = load t (from t (stop t)) (look_in t 1 (cell-of t i e))
  one t (con n z) {v} e = subst (λ (u : Val). Opd K 𝓛 (j ∷ ‵ (frame E cs) ∷ Γ) E (int w64 n) u) (ap value_of e) (lit t z)

  each-one : K → (ss : List Source) (vs : List Val) → map (content cs) ss ≡ map full vs → Opds K 𝓛 (j ∷ ‵ (frame E cs) ∷ Γ) E (map operand ss) vs
  each-one t [] [] e = no_more t
  each-one t [] (v ∷ vs) e = absurd (subst Some (sym e) tt)
  each-one t (s ∷ ss) [] e = absurd (subst Some e tt)
  each-one t (s ∷ ss) (v ∷ vs) e = and_then t (one t s (ap head e)) (each-one t ss vs (ap rest_of e))

  pub args : K → (ss : List Source) {vs : List Val} → map (content cs) ss ≡ map full vs → Opds K 𝓛 (j ∷ ‵ (frame E cs) ∷ Γ) E (map operand ss) vs
  args t ss {vs} e = each-one t ss vs e

-- ---- what the locals from i on hold is forgotten
abbrev emptied : Cell → Cell
emptied empty = empty
emptied (full v) = empty
emptied away = away

abbrev pub emptied_from : ℕ → List Cell → List Cell
emptied_from i [] = []
emptied_from zero (c ∷ cs) = emptied c ∷ emptied_from zero cs
emptied_from (suc i) (c ∷ cs) = c ∷ emptied_from i cs

module _ {M : Type 1} {𝓤 : Ura M} (𝓛 : Logic 𝓤) where
  one-emptied : (p : Spot) (c : Cell) → ent 𝓤 (sem 𝓛 (cell p c)) (sem 𝓛 (cell p (emptied c)))
  unfolding cell
  one-emptied p empty = id⊢ 𝓤 _
  one-emptied p (full v) = qed 𝓛 (‵ (fsep (fat full_share p.0 p.1 zero v) (fdies p.0 p.1)) ∷ []) ∵ fsplit ! $ forget ! 0 refl $ fjoin ! $ done !
  one-emptied p away = id⊢ 𝓤 _

  emptied-out : (i : ℕ) (cs : List Cell) (E : List Spot) → ent 𝓤 (sem 𝓛 (cells E cs)) (sem 𝓛 (cells E (emptied_from i cs)))
  unfolding cells
  emptied-out i [] E = id⊢ 𝓤 _
  emptied-out zero (c ∷ cs) [] = never_e 𝓤 _
  emptied-out zero (c ∷ cs) (p ∷ E) = mono∗ 𝓤 (one-emptied p c) (emptied-out zero cs E)
  emptied-out (suc i) (c ∷ cs) [] = never_e 𝓤 _
  emptied-out (suc i) (c ∷ cs) (p ∷ E) = mono_r 𝓤 (sem 𝓛 (cell p c)) (emptied-out i cs E)

pub forgets_from : {M : Type 1} {𝓤 : Ura M} {𝓛 : Logic 𝓤} {K : Type 0}
    {Γ : List (Item 𝓤)} {G : Goal 𝓤 𝓛.H} {E : List Spot} {cs : List Cell}
    → K → (i : ℕ) → Step K 𝓛 (‵ (frame E (emptied_from i cs)) ∷ Γ) G (‵ (frame E cs) ∷ Γ) G
forgets_from {𝓤 = 𝓤} {𝓛} {E = E} {cs} t i = step (λ s.
    use1 𝓛 (‵ (cells E cs)) (frame-out 𝓛 E cs) $ use1 𝓛 (‵ (cells E (emptied_from i cs))) (emptied-out 𝓛 i cs E) $
    use1 𝓛 (‵ (frame E (emptied_from i cs))) (frame-in 𝓛 E (emptied_from i cs)) $ s)

-- ---- a function begins and ends
abbrev pub Blocks : List Local → Type 0
Blocks [] = Unit {0}
Blocks (local τ h ∷ ls) = ℕ × Blocks ls

abbrev pub spots : (ls : List Local) → Blocks ls → List Spot
spots [] bs = []
spots (local τ h ∷ ls) bs = (τ, bs.0) ∷ spots ls bs.1

abbrev pub empties : List Local → List Cell
empties [] = []
empties (l ∷ ls) = empty ∷ empties ls

-- the parameters are the locals after the result
abbrev pub filled : List Val → List Cell → List Cell
filled [] cs = cs
filled (v ∷ vs) [] = []
filled (v ∷ vs) (c ∷ cs) = full v ∷ filled vs cs

abbrev pub Typed : List Local → List Val → Type 0
Typed ls [] = Unit {0}
Typed [] (v ∷ vs) = ⊥
Typed (local τ h ∷ ls) (v ∷ vs) = (T (has_ty τ v) × WT v) × Typed ls vs

module _ {M : Type 1} {𝓤 : Ura M} {𝓛 : Logic 𝓤} {K : Type 0} where
  open 𝓛 use {H}

  allocates : K → (Γ : List (Item 𝓤)) (ls : List Local) (G : List Spot → Goal 𝓤 H)
      → ((bs : Blocks ls) → Seq K 𝓛 (‵ (cells (spots ls bs) (empties ls)) ∷ Γ) (G (spots ls bs))) → Seq K 𝓛 Γ (allocs ls G)
  unfolding cells cell
  allocates t Γ [] G k = alloc0 t $ nothing t $ k tt
  allocates t Γ (local τ h ∷ ls) G k = alloc1 t (λ b. allocates t (‵ (froom τ b zero) ∷ ‵ (fdies τ b) ∷ Γ) ls (λ E. G ((τ, b) ∷ E))
      (λ bs. move t (1 ∷ 2 ∷ []) $ fjoin t $ fjoin t $ k (b, bs)))

  passes-all : K → (Γ : List (Item 𝓤)) (vs : List Val) (ls : List Local) (bs : Blocks ls) (g : Goal 𝓤 H) → Typed ls vs
      → Seq K 𝓛 (‵ (cells (spots ls bs) (filled vs (empties ls))) ∷ Γ) g → Seq K 𝓛 (‵ (cells (spots ls bs) (empties ls)) ∷ Γ) (passes (spots ls bs) vs g)
  unfolding cells cell
  passes-all t Γ [] ls bs g typed s = pass0 t $ s
  passes-all t Γ (v ∷ vs) [] bs g typed s = absurd typed
  passes-all t Γ (v ∷ vs) (local τ h ∷ ls) bs g typed s = fsplit t $ fsplit t $ pass1 t (init t 0 refl typed.0) $ fjoin t $ move t (1 ∷ []) $
      passes-all t (‵ (fsep (fat full_share τ bs.0 zero v) (fdies τ bs.0)) ∷ Γ) vs ls bs.1 g typed.1 (move t (1 ∷ 0 ∷ []) $ fjoin t $ s)

  pub begins : K → {Γ : List (Item 𝓤)} {τ : Ty} {h : Home} {ls : List Local} {vs : List Val} {G : List Spot → Goal 𝓤 H} → Typed ls vs
      → ((bs : Blocks (local τ h ∷ ls)) → Seq K 𝓛 (‵ (frame (spots (local τ h ∷ ls) bs) (empty ∷ filled vs (empties ls))) ∷ Γ) (G (spots (local τ h ∷ ls) bs)))
      → Seq K 𝓛 Γ (allocs (local τ h ∷ ls) (λ E. params' E vs (G E)))
  unfolding cells cell
  begins t {Γ} {τ} {h} {ls} {vs} {G} typed k = allocates t Γ (local τ h ∷ ls) (λ E. params' E vs (G E)) (λ bs. params1 t $ fsplit t $ move t (1 ∷ []) $
      passes-all t (‵ (fsep (froom τ bs.0 zero) (fdies τ bs.0)) ∷ Γ) vs ls bs.1 (G (spots (local τ h ∷ ls) bs)) typed (move t (1 ∷ 0 ∷ []) $ fjoin t $
      use1 𝓛 (‵ (frame (spots (local τ h ∷ ls) bs) (empty ∷ filled vs (empties ls))))
      (frame-in 𝓛 (spots (local τ h ∷ ls) bs) (empty ∷ filled vs (empties ls))) $ k bs))

-- no local is away
abbrev pub all_present : List Spot → List Cell → Bool
all_present [] [] = true
all_present [] (c ∷ cs) = false
all_present (p ∷ E) [] = false
all_present (p ∷ E) (c ∷ cs) = present c && all_present E cs

module _ {M : Type 1} {𝓤 : Ura M} {𝓛 : Logic 𝓤} {K : Type 0} where
  open 𝓛 use {H}

  frees_all : K → (Γ : List (Item 𝓤)) (E : List Spot) (cs : List Cell) (g : Goal 𝓤 H) → T (all_present E cs) → Seq K 𝓛 Γ g
      → Seq K 𝓛 (‵ (cells E cs) ∷ Γ) (frees E g)
  unfolding cells cell
  frees_all t Γ [] [] g z s = drop t $ free0 t $ s
  frees_all t Γ [] (c ∷ cs) g z s = absurd z
  frees_all t Γ (p ∷ E) [] g z s = absurd z
  frees_all t Γ (p ∷ E) (empty ∷ cs) g z s = fsplit t $ fsplit t $ free1 t $ frees_all t Γ E cs g z s
  frees_all t Γ (p ∷ E) (full v ∷ cs) g z s = fsplit t $ fsplit t $ forget t 0 refl $ free1 t $ frees_all t Γ E cs g z s
  frees_all t Γ (p ∷ E) (away ∷ cs) g z s = absurd z

  pub returns-all : K → {Γ : List (Item 𝓤)} {E : List Spot} {cs : List Cell} {C : Calls 𝓤 H} {Λ : Loops 𝓤 H} {Kf : Val → SProp 𝓤} {v : Val}
      → get_or cs 0 away ≡ full v → T (all_present E cs)
      → Step K 𝓛 Γ (prop (Kf v)) (‵ (frame E cs) ∷ Γ) (runs C Λ E return (at_ret E Kf))
  returns-all t {Γ} {E} {cs} {Kf = Kf} {v} e z = step (λ s. returns t (look_in t 0 (cell-of t 0 e)) $ use1 𝓛 (‵ (cells E cs)) (frame-out 𝓛 E cs) $
      frees_all t Γ E cs (prop (Kf v)) z s)

  -- `if c { return i; }` where c holds, and where it does not
  pub returns-early : K
      → {Γ : List (Item 𝓤)} {E : List Spot} {cs : List Cell} {C : Calls 𝓤 H} {Λ : Loops 𝓤 H} {Kf : Val → SProp 𝓤} {i : ℕ} {v : Val} {c : Operand} {rest : Body}
      → Opd K 𝓛 (‵ (frame E cs) ∷ Γ) E c (vbool true) → get_or cs i away ≡ full v → T (has_ty (type_of E 0) v) × WT v → T (present (get_or cs 0 away))
      → T (all_present E (set cs 0 (full v)))
      → Step K 𝓛 Γ (prop (Kf v)) (‵ (frame E cs) ∷ Γ)
      (runs C Λ E (seq (cond c (seq (assign (place 0 []) (rv_opd (copy (place i [])))) return) skip) rest) (at_ret E Kf))
  returns-early t {Γ} {E} {cs} {Kf = Kf} {v = v} o e typed z zs = step (λ s. first t $ branches t o
      (λ _. sets t (of_opd t (var t e)) z typed $ returns_within t Kf refl (look_in t 0 (cell-of t 0 (set_there cs 0 v z))) $
      use1 𝓛 (‵ (cells E (set cs 0 (full v)))) (frame-out 𝓛 E (set cs 0 (full v))) $ frees_all t Γ E (set cs 0 (full v)) (prop (Kf v)) zs s)
      (λ n. absurd n))

  pub goes-past : K → {Γ : List (Item 𝓤)} {E : List Spot} {C : Calls 𝓤 H} {Λ : Loops 𝓤 H} {q : Post 𝓤 H} {c : Operand} {b rest : Body}
      → Opd K 𝓛 Γ E c (vbool false)
      → Step K 𝓛 Γ (runs C Λ E rest q) Γ (runs C Λ E (seq (cond c b skip) rest) q)
  goes-past t o = step (λ s. first t $ branches t o (λ n. absurd n) (λ _. skips t $ record { prf = s.prf }))

-- ---- a local's memory is lent, and comes back
module _ {M : Type 1} {𝓤 : Ura M} (𝓛 : Logic 𝓤) where
  lent_out : (cs : List Cell) (E : List Spot) (i : ℕ) (v : Val) → get_or cs i away ≡ full v
      → ent 𝓤 (sem 𝓛 (cells E cs)) (sem 𝓛 (fsep (fat full_share (type_of E i) (block_of E i) zero v) (cells E (set cs i away))))
  unfolding cells cell
  lent_out [] E i v e = absurd (subst Full (sym e) tt)
  lent_out (c ∷ cs) [] i v e = never_e 𝓤 _
  lent_out (empty ∷ cs) (p ∷ E) zero v e = absurd (subst Full (sym e) tt)
  lent_out (away ∷ cs) (p ∷ E) zero v e = absurd (subst Full (sym e) tt)
  lent_out (full w ∷ cs) (p ∷ E) zero v e =
      qed 𝓛 (‵ (fsep (fsep (fat full_share p.0 p.1 zero w) (fdies p.0 p.1)) (cells E cs)) ∷ []) ∵ fsplit ! $ fsplit ! $
      rewrite ! 0 (λ (u : Val). ‵ (fat full_share p.0 p.1 zero u)) (ap value_of e) refl $
      move ! (1 ∷ 2 ∷ []) $ fjoin ! $ move ! (1 ∷ 0 ∷ []) $ fjoin ! $ done !
  lent_out (c ∷ cs) (p ∷ E) (suc i) v e =
      qed 𝓛 (‵ (fsep (cell p c) (cells E cs)) ∷ []) ∵ fsplit ! $ move ! (1 ∷ []) $
      use1 𝓛 (‵ (fsep (fat full_share (type_of E i) (block_of E i) zero v) (cells E (set cs i away)))) (lent_out cs E i v e) $ fsplit ! $
      move ! (2 ∷ 1 ∷ []) $ fjoin ! $ move ! (1 ∷ 0 ∷ []) $ fjoin ! $ done !

  lent-in : (cs : List Cell) (E : List Spot) (i : ℕ) (v : Val) → T (lies_away (get_or cs i empty))
      → ent 𝓤 (sem 𝓛 (fsep (fat full_share (type_of E i) (block_of E i) zero v) (cells E cs))) (sem 𝓛 (cells E (set cs i (full v))))
  unfolding cells cell
  lent-in [] E i v z = absurd z
  lent-in (c ∷ cs) [] i v z = qed 𝓛 (‵ (fsep (fat full_share (type_of [] i) (block_of [] i) zero v) ffalse) ∷ []) ∵ fsplit ! $
      keep ! (1 ∷ []) $ by ! (never_e 𝓤 _)
  lent-in (empty ∷ cs) (p ∷ E) zero v z = absurd z
  lent-in (full w ∷ cs) (p ∷ E) zero v z = absurd z
  lent-in (away ∷ cs) (p ∷ E) zero v z =
      qed 𝓛 (‵ (fsep (fat full_share p.0 p.1 zero v) (fsep (fdies p.0 p.1) (cells E cs))) ∷ []) ∵ fsplit ! $ move ! (1 ∷ []) $ fsplit ! $
      move ! (2 ∷ 0 ∷ []) $ fjoin ! $ fjoin ! $ done !
  lent-in (c ∷ cs) (p ∷ E) (suc i) v z =
      qed 𝓛 (‵ (fsep (fat full_share (type_of E i) (block_of E i) zero v) (fsep (cell p c) (cells E cs))) ∷ []) ∵ fsplit ! $ move ! (1 ∷ []) $ fsplit ! $
      move ! (2 ∷ 1 ∷ []) $ fjoin ! $
      use1 𝓛 (‵ (cells E (set cs i (full v)))) (lent-in cs E i v z) $ move ! (1 ∷ 0 ∷ []) $ fjoin ! $ done !

module _ {M : Type 1} {𝓤 : Ura M} {𝓛 : Logic 𝓤} {K : Type 0}
    {Γ : List (Item 𝓤)} {G : Goal 𝓤 𝓛.H} {E : List Spot} {cs : List Cell} where
  pub lends : K → (i : ℕ) {v : Val} → get_or cs i away ≡ full v → Step K 𝓛 (‵ (fat full_share (type_of E i) (block_of E i) zero v) ∷ ‵ (frame E (set cs i away))
      ∷ Γ) G (‵ (frame E cs) ∷ Γ) G
  lends t i {v} e = step (λ s. use1 𝓛 (‵ (cells E cs)) (frame-out 𝓛 E cs) $
      use1 𝓛 (‵ (fsep (fat full_share (type_of E i) (block_of E i) zero v) (cells E (set cs i away)))) (lent_out 𝓛 cs E i v e) $
      fsplit t $ move t (1 ∷ []) $ use1 𝓛 (‵ (frame E (set cs i away))) (frame-in 𝓛 E (set cs i away)) $ move t (1 ∷ 0 ∷ []) $ s)

  pub returned : K → (i : ℕ) {v : Val} → T (lies_away (get_or cs i empty)) → Step K 𝓛 (‵ (frame E (set cs i (full v))) ∷ Γ) G
      (‵ (fat full_share (type_of E i) (block_of E i) zero v) ∷ ‵ (frame E cs) ∷ Γ) G
  returned t i {v} z = step (λ s. move t (1 ∷ []) $ use1 𝓛 (‵ (cells E cs)) (frame-out 𝓛 E cs) $ move t (1 ∷ 0 ∷ []) $ fjoin t $
      use1 𝓛 (‵ (cells E (set cs i (full v)))) (lent-in 𝓛 cs E i v z) $
      use1 𝓛 (‵ (frame E (set cs i (full v)))) (frame-in 𝓛 E (set cs i (full v))) $ s)

-- ---- a slice that a function holds is passed on: `p = &*s.0; t = [p, s.1]` in MIR, with the locals i, j and k for s, p and t
abbrev seen : List Spot → List Cell → List Cell → ℕ → ℕ → ℕ → Ty × (Ty × (Ty × (Cell × (Cell × Cell))))
seen E cs cs' i j k = (type_of E i, (type_of E j, (type_of E k, (get_or cs i away, (get_or cs' i away, get_or cs' j away)))))

abbrev laid : Ty → Ty → Ty → ℕ × ℕ → ℕ → Ty × (Ty × (Ty × (Cell × (Cell × Cell))))
laid ρ ρ₁ ρ₂ x m = (slice_ty ρ, (ρ₁, (slice_ty ρ₂, (full (slice_val x m), (full (slice_val x m), full (vptr x.0 x.1))))))

module _ {M : Type 1} {𝓤 : Ura M} {𝓛 : Logic 𝓤} {K : Type 0} {E : List Spot} {cs : List Cell}
    (i : ℕ) {b o m : ℕ} {ℓ : Lifetime} {μ : Mutability} {σ : Ty}
    (is : type_of E i ≡ slice_ty (ty_ref ℓ μ σ)) (e : get_or cs i away ≡ full (slice_val (b, o) m)) where
  pub slice-part : K
      → Part K 𝓛 (‵ (frame E cs)) full_share (slice_ty (ty_ref ℓ μ σ)) (block_of E i) zero (slice_val (b, o) m) (λ u. ‵ (frame E (set cs i (full u))))
  slice-part t = subst (λ (τ : Ty). Part K 𝓛 (‵ (frame E cs)) full_share τ (block_of E i) zero (slice_val (b, o) m) (λ u. ‵ (frame E (set cs i (full u))))) is
      (cell-of t i e)

  pub elements : K → {Γ : List (Item 𝓤)} {τ : Ty} → Finds K 𝓛 (‵ (frame E cs) ∷ Γ) E (place i (field 0 ∷ deref τ ∷ [])) (τ, b, o)
  elements t = from t (fld t (ap (λ (τ : Ty). field_of τ 0) is) (hop t (look_in t 0 (sub t 0 refl (slice-part t))) (stop t)))

  -- the pointer, and how many they are
  pub pointer-of : K → {Γ : List (Item 𝓤)} → Opd K 𝓛 (‵ (frame E cs) ∷ Γ) E (copy (place i (field 0 ∷ []))) (vptr b o)
  pointer-of t = load t (from t (fld t (ap (λ (τ : Ty). field_of τ 0) is) (stop t))) (look_in t 0 (sub t 0 refl (slice-part t)))

  pub count : K → {Γ : List (Item 𝓤)} → Opd K 𝓛 (‵ (frame E cs) ∷ Γ) E (copy (place i (field 1 ∷ []))) (vint w64 m)
  count t = load t (from t (fld t (ap (λ (τ : Ty). field_of τ 1) is) (stop t))) (look_in t 0 (sub t 1 refl (slice-part t)))

module _ {M : Type 1} {𝓤 : Ura M} {𝓛 : Logic 𝓤} {K : Type 0}
    {Γ : List (Item 𝓤)} {E : List Spot} {cs : List Cell} {C : Calls 𝓤 𝓛.H} {Λ : Loops 𝓤 𝓛.H} {q : Post 𝓤 𝓛.H} {rest : Body} where
  pub passes_on : K → {i j k b o m : ℕ} {ℓ ℓ₁ ℓ₂ : Lifetime} {μ μ₁ μ₂ : Mutability} {τ σ σ₁ σ₂ : Ty}
      → seen E cs (set cs j (full (vptr b o))) i j k ≡ laid (ty_ref ℓ μ σ) (ty_ref ℓ₁ μ₁ σ₁) (ty_ref ℓ₂ μ₂ σ₂) (b, o) m → T (present (get_or cs j away))
      → T (present (get_or (set cs j (full (vptr b o))) k away)) → m < 2 ^ 64
      → Step K 𝓛 (‵ (frame E (set (set cs j (full (vptr b o))) k (full (slice_val (b, o) m)))) ∷ Γ) (runs C Λ E rest q)
      (‵ (frame E cs) ∷ Γ) (runs C Λ E (seq (assign (place j []) (addr_of (place i (field 0 ∷ deref τ ∷ []))))
      (seq (assign (place k []) (aggregate (copy (place j []) ∷ copy (place i (field 1 ∷ [])) ∷ []))) rest)) q)
  passes_on t {i} {j} {k} {b} {o} {m} e zⱼ zₖ fits = step (λ s.
      sets t (addr t (elements i (ap (λ x. x.0) e) (ap (λ x. x.1.1.1.0) e) t)) zⱼ
      (subst (λ (τ : Ty). T (has_ty τ (vptr b o)) × WT (vptr b o)) (sym (ap (λ x. x.1.0) e)) (tt, tt)) $
      sets t (agg t (and_then t (var t (ap (λ x. x.1.1.1.1.1) e)) (and_then t (count i (ap (λ x. x.0) e) (ap (λ x. x.1.1.1.1.0) e) t)
      (no_more t)))) zₖ
      (subst (λ (τ : Ty). T (has_ty τ (slice_val (b, o) m)) × WT (slice_val (b, o) m)) (sym (ap (λ x. x.1.1.0) e)) (tt, (tt, (record { fits = fits }, tt)))) $
      s)
