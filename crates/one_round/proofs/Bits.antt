-- The pass over the bits, where each edge's message lies at a place of its own: it decides the round's word, and at each edge's place it leaves the new
-- message of the definition. By induction over the bits: an edge's place holds its new message once its position is passed, and its answer until then.
-- Assumes nothing.
use mathlib.Core.Path.{◌≡◌, refl, sym, ap, ◌∙◌}
use mathlib.Core.Bool.{Bool, true, false, cond}
use mathlib.Core.Logic.{◌≢◌}
use mathlib.Core.List.{List, [], ◌∷◌, ◌++◌, map, append-nil}
use Prim.Native.Nat.{ℕ, zero, suc, ◌+◌, ◌≤◌, ◌<◌}
use native.Mathlib.Nat.{add-zero, zero-add, add-suc, suc-add}
use native.Mathlib.Decide.{dec_lt}
use native.Mathlib.Omega.{arith}
use lib.Dec.{eqb}
use lib.Ieee.{Float, nan}
use lib.ListN.{length, get_or, take, length-set, length-map}
use lib.Seq.{get_or-set_same, get_or-set_other, ext_get_or, append_snoc}
use Rattle.lists.proofs.Parts.{map_at}
use Rattle.softmath.specs.Functions.{decide}
use Rattle.softmath.specs.VariableNode.{decision_sum, new_messages, answers_at, Distinct, none, more, put_at}
use Rattle.softmath.proofs.Messages.{put_other, put_same, put-length, answers-length, messages_length}
use Rattle.tanner.specs.Flat.{joined, places}
use Rattle.lists.specs.Below.{Below}
use Rattle.tanner.proofs.Places.{places_stand, rank-inside, rank-place}
use Rattle.variable_node.specs.Passes.{Pass, pass_of, bit_done, turns}
use Rattle.one_round.specs.Round.{Decode, channel, heard, decided_from, decided, sent_from, sent}

-- ---- a position's edges

-- they are distinct, since they rise
edges_above : (p e : ℕ) (xs : List ℕ) (k : ℕ) → k < length (places p (suc e) xs) → get_or (places p (suc e) xs) k 0 ≢ e
edges_above p e xs k h q = omega (arith, (places_stand p (suc e) xs k h).place)

distinct_by : (p e : ℕ) (xs : List ℕ) (t : Bool) → Distinct (places p (suc e) xs) → Distinct (cond t (e ∷ places p (suc e) xs) (places p (suc e) xs))
distinct_by p e xs true d = more (edges_above p e xs) d
distinct_by p e xs false d = d

pub edges_distinct : (p e : ℕ) (xs : List ℕ) → Distinct (places p e xs)
unfolding places
edges_distinct p e [] = none
edges_distinct p e (x ∷ xs) = distinct_by p e xs (eqb x p) (edges_distinct p (suc e) xs)

module _ (flat : List ℕ) (p : ℕ) where
  edge-low : (k : ℕ) → k < length (places p 0 flat) → get_or (places p 0 flat) k 0 < length flat
  edge-low k h = let s = places_stand p 0 flat k h in omega (arith, s.place, s.inside)

  edge-holds : (k : ℕ) → k < length (places p 0 flat) → get_or flat (get_or (places p 0 flat) k 0) 0 ≡ p
  edge-holds k h =
      let s = places_stand p 0 flat k h in
      let e : get_or (places p 0 flat) k 0 ≡ s.index = omega (arith, s.place) in
      rw e s.holds

-- what lies at the places of edges
answers-placed : (place : ℕ → ℕ) (w ans : List Float) (es : List ℕ)
    → ((k : ℕ) → k < length es → get_or w (place (get_or es k 0)) nan ≡ get_or ans (get_or es k 0) nan)
    → answers_at w (map place es) ≡ answers_at ans es
unfolding answers_at
answers-placed place w ans [] h = refl
answers-placed place w ans (e ∷ es) h =
    let a = h 0 (omega arith) in
    let b = answers-placed place w ans es (λ k l. h (suc k) (omega arith)) in
    rw (a, b)

-- places that differ where the edges do are distinct
distinct_placed : (place : ℕ → ℕ) (n : ℕ) → ((e f : ℕ) → e < n → f < n → place e ≡ place f → e ≡ f) → {es : List ℕ}
    → ((k : ℕ) → k < length es → get_or es k 0 < n)
    → Distinct es → Distinct (map place es)
distinct_placed place n apart low none = none
distinct_placed place n apart low (more {e = e} {es = es} a d) =
    more {es = map place es}
    (λ k l. let o : k < length es = omega (arith, l, length-map es place) in
    λ q. a k o (apart (get_or es k 0) e (low (suc k) (omega (arith, o))) (low 0 (omega arith)) (sym (map_at place es k 0 0 o) ∙ q)))
    (distinct_placed place n apart (λ k l. low (suc k) (omega arith)) d)

-- ---- the definition, position by position and edge by edge

module _ (d : Decode) (ans : List Float) where
  decided-length : (p : ℕ) (ls : List Float) → length (decided_from d ans p ls) ≡ length ls
  unfolding decided_from
  decided-length p [] = refl
  decided-length p (l ∷ ls) = ap suc (decided-length (suc p) ls)

  decided-at : (p : ℕ) (ls : List Float) (i : ℕ) → i < length ls
      → get_or (decided_from d ans p ls) i 0 ≡ decide (decision_sum (get_or ls i nan) (heard d ans (p + i)))
  unfolding decided_from
  decided-at p [] i h = absurd (omega arith)
  decided-at p (l ∷ ls) zero h = rw add-zero refl
  decided-at p (l ∷ ls) (suc i) h = rw (add-suc, ← suc-add) (decided-at (suc p) ls i (omega arith))

  sent-length : (passed ps : List ℕ) → length (sent_from d ans passed ps) ≡ length ps
  unfolding sent_from
  sent-length passed [] = refl
  sent-length passed (p ∷ ps) = ap suc (sent-length (passed ++ (p ∷ [])) ps)

  sent-at : (passed ps : List ℕ) (i : ℕ) → i < length ps
      → get_or (sent_from d ans passed ps) i nan
      ≡ get_or (new_messages d.kind (channel d (get_or ps i 0)) (heard d ans (get_or ps i 0))) (length (places (get_or ps i 0) 0 (passed ++ take i ps))) nan
  unfolding sent_from
  sent-at passed [] i h = absurd (omega arith)
  sent-at passed (p ∷ ps) zero h = rw append-nil refl
  sent-at passed (p ∷ ps) (suc i) h = rw (append_snoc passed p (take i ps)) at (sent-at (passed ++ (p ∷ [])) ps i (omega arith))

-- ---- the turns

module _ (d : Decode) (ans w₀ : List Float) (word₀ : List ℕ) (place : ℕ → ℕ)
    (apart : (e f : ℕ) → e < length (joined d.checks) → f < length (joined d.checks) → place e ≡ place f → e ≡ f)
    (inside : (e : ℕ) → e < length (joined d.checks) → place e < length w₀)
    (held : (e : ℕ) → e < length (joined d.checks) → get_or w₀ (place e) nan ≡ get_or ans e nan) where
  abbrev flat : List ℕ
  flat = joined d.checks

  -- the new message of edge e
  abbrev fresh : ℕ → Float
  fresh e = get_or (new_messages d.kind (channel d (get_or flat e 0)) (heard d ans (get_or flat e 0))) (length (places (get_or flat e 0) 0 (take e flat))) nan

  -- after the bits below b
  record After (b : ℕ) (s : Pass) : Type 0 where
    size : length s.work ≡ length w₀
    wide : length s.word ≡ length word₀
    new : (e : ℕ) → e < length flat → get_or flat e 0 < b → get_or s.work (place e) nan ≡ fresh e
    old : (e : ℕ) → e < length flat → b ≤ get_or flat e 0 → get_or s.work (place e) nan ≡ get_or ans e nan
    done : (i : ℕ) → i < b → get_or s.word i 0 ≡ decide (decision_sum (channel d i) (heard d ans i))

  module _ (b : ℕ) (s : Pass) (a : After b s) (h : b < length word₀) where
    abbrev own : List ℕ
    own = places b 0 flat

    abbrev edges : List ℕ
    edges = map place own

    many : length edges ≡ length own
    many = length-map own place

    placed : (k : ℕ) → k < length own → get_or edges k 0 ≡ place (get_or own k 0)
    placed k l = map_at place own k 0 0 l

    hears : answers_at s.work edges ≡ heard d ans b
    unfolding heard
    hears = answers-placed place s.work ans own (λ k l. a.old (get_or own k 0) (edge-low flat b k l) (omega (arith, edge-holds flat b k l)))

    abbrev messages : List Float
    messages = new_messages d.kind (channel d b) (heard d ans b)

    -- the work area after the turn
    abbrev turned : List Float
    turned = put_at edges messages s.work

    work-is : (bit_done d.kind (channel d b) edges b s).work ≡ turned
    unfolding bit_done
    work-is = ap (λ (l : List Float). put_at edges (new_messages d.kind (channel d b) l) s.work) hears

    within : Below (length s.work) edges
    unfolding Below
    within k l =
        let o : k < length own = omega (arith, many) in
        omega (arith, placed k o, inside (get_or own k 0) (edge-low flat b k o), a.size)

    no_edge : (e : ℕ) → e < length flat → get_or flat e 0 ≢ b → (k : ℕ) → k < length edges → get_or edges k 0 ≢ place e
    no_edge e m n k l q =
        let o : k < length own = omega (arith, many) in
        let same : get_or own k 0 ≡ e = apart (get_or own k 0) e (edge-low flat b k o) m (sym (placed k o) ∙ q) in
        n (rw same at (edge-holds flat b k o))

    -- an edge of another position keeps what it holds
    elsewhere : (e : ℕ) → e < length flat → get_or flat e 0 ≢ b → get_or turned (place e) nan ≡ get_or s.work (place e) nan
    elsewhere e l n = put_other edges messages s.work (place e) (no_edge e l n)

    heard-length : length (heard d ans b) ≡ length own
    unfolding heard
    heard-length = answers-length ans own

    -- an edge of b gets its new message
    here : (e : ℕ) → e < length flat → get_or flat e 0 ≡ b → get_or turned (place e) nan ≡ fresh e
    here e l q =
        let rank = length (places b 0 (take e flat)) in
        let ranked : rank < length own = rw q at (rank-inside flat e l) in
        let there : get_or own rank 0 ≡ e = rw q at (rank-place flat e l) in
        let hold : length messages ≡ length edges = messages_length d.kind (channel d b) (heard d ans b) ∙ heard-length ∙ sym many in
        let distinct = distinct_placed place (length flat) apart (edge-low flat b) (edges_distinct b 0 flat) in
        let got = put_same messages s.work rank distinct within hold (omega (arith, many)) in
        rw q (rw (placed rank ranked ∙ ap place there) at got)

    new_by : (e : ℕ) → e < length flat → get_or flat e 0 < suc b → Dec (get_or flat e 0 < b) → get_or turned (place e) nan ≡ fresh e
    new_by e l m (yes y) = elsewhere e l (λ q. omega arith) ∙ a.new e l y
    new_by e l m (no n) = here e l (omega arith)

    done-by : (i : ℕ) → i < suc b → Dec (i < b)
        → get_or (bit_done d.kind (channel d b) edges b s).word i 0 ≡ decide (decision_sum (channel d i) (heard d ans i))
    unfolding bit_done
    done-by i l (yes y) = get_or-set_other s.word b i _ 0 (λ q. omega arith) ∙ a.done i y
    done-by i l (no n) =
        let q : i ≡ b = omega arith in
        rw (q, hears) (get_or-set_same s.word b _ 0 (omega (arith, a.wide)))

    wide-more : length (bit_done d.kind (channel d b) edges b s).word ≡ length word₀
    unfolding bit_done
    wide-more = length-set s.word b _ ∙ a.wide

    after_more : After (suc b) (bit_done d.kind (channel d b) edges b s)
    after_more = record {
      size = ap length work-is ∙ put-length edges messages s.work ∙ a.size;
      wide = wide-more;
      new = λ e l m. ap (λ (v : List Float). get_or v (place e) nan) work-is ∙ new_by e l m (dec_lt (get_or flat e 0) b);
      old = λ e l m. ap (λ (v : List Float). get_or v (place e) nan) work-is ∙ elsewhere e l (λ q. omega arith) ∙ a.old e l (omega arith);
      done = λ i l. done-by i l (dec_lt i b);
    }

  after_none : After 0 (pass_of word₀ w₀)
  after_none = record {
    size = refl;
    wide = refl;
    new = λ e l m. absurd (omega arith);
    old = λ e l m. held e l;
    done = λ i l. absurd (omega arith);
  }

  -- the bits' turns, given what a turn does to a bit
  module _ (step : ℕ → Pass → Pass) (n : ℕ)
      (steps : (b : ℕ) (s : Pass) → b < n → step b s ≡ bit_done d.kind (channel d b) (map place (places b 0 (joined d.checks))) b s)
      (count : length word₀ ≡ n) (frame : length d.llr ≡ n) (low : Below n (joined d.checks)) where
    after-turns : (b : ℕ) → b ≤ n → After b (turns step b (pass_of word₀ w₀))
    unfolding turns
    after-turns zero l = after_none
    after-turns (suc b) l =
        let s = turns step b (pass_of word₀ w₀) in
        rw (steps b s (omega arith)) (after_more b s (after-turns b (omega arith)) (omega arith))

    abbrev ended : Pass
    ended = turns step n (pass_of word₀ w₀)

    pub turns-word : ended.word ≡ decided d ans
    turns-word =
        let a = after-turns n (omega arith) in
        ext_get_or 0 ended.word (decided d ans) (a.wide ∙ count ∙ sym frame ∙ sym (decided-length d ans 0 d.llr))
        (λ i l. a.done i (omega (arith, a.wide)) ∙ sym (rw zero-add at (decided-at d ans 0 d.llr i (omega (arith, a.wide)))))

    pub turns-work : (e : ℕ) → e < length (joined d.checks) → get_or ended.work (place e) nan ≡ get_or (sent d ans) e nan
    unfolding Below
    turns-work e l = (after-turns n (omega arith)).new e l (low e l) ∙ sym (sent-at d ans [] flat e l)

    pub turns-size : length ended.work ≡ length w₀
    turns-size = (after-turns n (omega arith)).size

    pub sent-size : length (sent d ans) ≡ length (joined d.checks)
    sent-size = sent-length d ans [] flat
