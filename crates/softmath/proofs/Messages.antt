-- Values put at distinct edges: each stands at its edge, and elsewhere nothing changed; and the lengths. By induction over the edges. Assumes nothing.
use mathlib.Core.Path.{◌≡◌, refl, sym, ◌∙◌}
use mathlib.Core.Logic.{◌≢◌}
use mathlib.Core.List.{List, [], ◌∷◌}
use Prim.Native.Nat.{ℕ, zero, suc, ◌<◌}
use native.Mathlib.Omega.{arith}
use lib.ListN.{length, get_or, set, length-set, length-map}
use lib.Seq.{get_or-set_same, get_or-set_other}
use lib.Ieee.{Float, nan}
use Rattle.lists.specs.Below.{Below}
use Rattle.softmath.specs.Single.{◌⊖◌, sum_from}
use Rattle.softmath.specs.VariableNode.{message_total, new_messages, answers_at, Distinct, none, more, put_at}
use Rattle.softmath.specs.declared.SumKind.{SumKind}
use Rattle.softmath.specs.declared.SumKind.TheVariants.{Total, Others}
use Rattle.softmath.proofs.Steps.{each-length}

-- e is none of the edges
abbrev pub NoneOf : ℕ → List ℕ → Type 0
NoneOf e es = (k : ℕ) → k < length es → get_or es k 0 ≢ e

rest_none : (e x : ℕ) (es : List ℕ) → NoneOf e (x ∷ es) → NoneOf e es
rest_none e x es h k l = h (suc k) (omega arith)

-- ---- what stands where

pub put_other : (es : List ℕ) (vs w : List Float) (i : ℕ) → NoneOf i es → get_or (put_at es vs w) i nan ≡ get_or w i nan
unfolding put_at
put_other [] vs w i h = refl
put_other (e ∷ es) [] w i h = refl
put_other (e ∷ es) (v ∷ vs) w i h =
    put_other es vs (set w e v) i (rest_none i e es h) ∙ get_or-set_other w e i v nan (λ eq. h 0 (omega arith) (sym eq))

pub put_same : {es : List ℕ} (vs w : List Float) (k : ℕ) → Distinct es → Below (length w) es → length vs ≡ length es → k < length es
    → get_or (put_at es vs w) (get_or es k 0) nan ≡ get_or vs k nan
unfolding put_at Below
put_same vs w k none g e h = absurd (omega arith)
put_same [] w k (more a d) g e h = absurd (omega arith)
put_same (v ∷ vs) w zero (more {e = x} {es = es} a d) g e h = put_other es vs (set w x v) x a ∙ get_or-set_same w x v nan (g 0 (omega arith))
put_same (v ∷ vs) w (suc k) (more {e = x} {es = es} a d) g e h =
    put_same vs (set w x v) k d (λ j l. rw length-set (g (suc j) (omega arith))) (omega arith) (omega arith)

-- ---- lengths

pub put-length : (es : List ℕ) (vs w : List Float) → length (put_at es vs w) ≡ length w
unfolding put_at
put-length [] vs w = refl
put-length (e ∷ es) [] w = refl
put-length (e ∷ es) (v ∷ vs) w = put-length es vs (set w e v) ∙ length-set w e v

pub answers-length : (w : List Float) (es : List ℕ) → length (answers_at w es) ≡ length es
unfolding answers_at
answers-length w es = length-map es (λ e. get_or w e nan)

pub messages_length : (kind : SumKind) (llr : Float) (answers : List Float) → length (new_messages kind llr answers) ≡ length answers
unfolding new_messages
messages_length Total llr answers = length-map answers (λ own. message_total llr answers ⊖ own)
messages_length Others llr answers = each-length (λ others. sum_from llr others) answers

-- ---- a decision is a bit
