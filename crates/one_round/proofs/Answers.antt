-- The check step down each column, a pad in the place of an entry that a check lacks, is the check step of the definition. By induction over the checks.
-- Assumes nothing.
use mathlib.Core.Path.{◌≡◌, refl, sym, ap, ◌∙◌}
use mathlib.Core.List.{List, [], ◌∷◌, ◌++◌, map}
use Prim.Native.Nat.{ℕ, zero, suc, ◌+◌, ◌*◌, ◌<◌, ◌≤◌}
use native.Mathlib.Decide.{dec_lt}
use native.Mathlib.Omega.{arith}
use lib.Ieee.{Float, nan}
use lib.ListN.{length, get_or, take, drop, length-append, length-drop}
use lib.Seq.{length-take-le, take_all, take_at, drop_at}
use Rattle.softmath.specs.CheckNode.{check_step}
use Rattle.softmath.proofs.Steps.{step-length}
use Rattle.tanner.specs.Checks.{Checks}
use Rattle.tanner.specs.Flat.{joined}
use Rattle.slots.specs.Columns.{column}
use Rattle.slots.specs.Layout.{row, Slotted}
use Rattle.slots.proofs.Columns.{column-length, column_last}
use Rattle.check_node.specs.CheckStep.{pad_of}
use Rattle.check_node.proofs.Pads.{step_pad}
use Rattle.one_round.specs.Round.{Decode, by_check, answers}
use Rattle.one_round.specs.Held.{Holds}

-- the pad lies in the place of each last entry that a check lacks
pub record Padded (cs : Checks) (m d : ℕ) (pad : Float) (w : List Float) : Type 0 where
  pub pads : (c : ℕ) → c < m → length (row cs c) < d → get_or w (length (row cs c) * m + c) nan ≡ pad

-- ---- a step that answers each message, at every check

module _ (f : List Float → List Float) (keeps : (r : List Float) → length (f r) ≡ length r) where
  joined-size : (cs : Checks) (ms : List Float) → length ms ≡ length (joined cs) → length (joined (map f (by_check cs ms))) ≡ length (joined cs)
  unfolding joined by_check
  joined-size [] ms e = refl
  joined-size (c ∷ cs) ms e =
      let long : length c ≤ length ms = omega (arith, simp length-append at e) in
      let rest = joined-size cs (drop (length c) ms) (omega (arith, simp length-append at e, length-drop (length c) ms)) in
      simp (length-append, keeps) (omega (arith, rest, length-take-le (length c) ms long))

  step-at : (cs : Checks) (ms : List Float) (c : ℕ) → c < length cs → length ms ≡ length (joined cs)
      → get_or (by_check cs (joined (map f (by_check cs ms)))) c [] ≡ f (get_or (by_check cs ms) c [])
  unfolding joined by_check
  step-at [] ms c h e = absurd (omega arith)
  step-at (r ∷ rs) ms c h e =
      let k = length r in
      let long : k ≤ length ms = omega (arith, simp length-append at e) in
      let front : length (f (take k ms)) ≡ k = keeps (take k ms) ∙ length-take-le k ms long in
      let rest = joined (map f (by_check rs (drop k ms))) in
      let left : length (drop k ms) ≡ length (joined rs) = omega (arith, simp length-append at e, length-drop k ms) in
      by c h (take_at (f (take k ms)) rest k front) (drop_at (f (take k ms)) rest k front) (λ i l. step-at rs (drop k ms) i l left)
    where
      by : (c : ℕ) → c < suc (length rs)
          → take (length r) (f (take (length r) ms) ++ joined (map f (by_check rs (drop (length r) ms)))) ≡ f (take (length r) ms)
          → drop (length r) (f (take (length r) ms) ++ joined (map f (by_check rs (drop (length r) ms)))) ≡ joined (map f (by_check rs (drop (length r) ms)))
          → ((i : ℕ) → i < length rs
          → get_or (by_check rs (joined (map f (by_check rs (drop (length r) ms))))) i [] ≡ f (get_or (by_check rs (drop (length r) ms)) i []))
          → get_or (take (length r) (f (take (length r) ms) ++ joined (map f (by_check rs (drop (length r) ms)))) ∷ by_check rs (drop (length r) (f (take
          (length r) ms) ++ joined (map f (by_check rs (drop (length r) ms)))))) c [] ≡ f (get_or (take (length r) ms ∷ by_check rs (drop
          (length r) ms)) c [])
      by zero h t d i = t
      by (suc c) h t d i = rw d (i c (omega arith))

-- ---- down a column

module _ (dec : Decode) (m d : ℕ) (s : Slotted dec.checks m d) (w v ms : List Float) (h : Holds dec.checks m d w ms)
    (p : Padded dec.checks m d (pad_of dec.rule) w)
    (wide : length v ≡ length w) (steps : (c : ℕ) → c < m → column m d c v ≡ check_step dec.rule (column m d c w)) where
  module _ (c : ℕ) (l : c < length dec.checks) where
    -- the check's entries and its messages
    abbrev k : ℕ
    k = length (row dec.checks c)

    abbrev own : List Float
    own = get_or (by_check dec.checks ms) c []

    known : c < m
    known = omega (arith, s.count)

    own-length : length own ≡ k
    own-length =
        let most : k ≤ d = s.most c known in
        ap length (sym (h.entries c l)) ∙ length-take-le k (column m d c w) (omega (arith, column-length m d c w))

    -- a check that has all d entries
    answered-full : d ≤ k → take k (column m d c v) ≡ check_step dec.rule own
    answered-full n =
        let all : column m d c w ≡ own = sym (take_all k (column m d c w) (omega (arith, column-length m d c w))) ∙ h.entries c l in
        let size : length (check_step dec.rule own) ≡ k = step-length dec.rule own ∙ own-length in
        ap (take k) (steps c known ∙ ap (check_step dec.rule) all) ∙ take_all k (check_step dec.rule own) (omega arith)

    -- one that lacks its last: the pad is the last of its column
    with-pad : d ≡ suc k → get_or w (k * m + c) nan ≡ pad_of dec.rule → column m d c w ≡ own ++ (pad_of dec.rule ∷ [])
    with-pad e q =
        let last : column m d c w ≡ column m k c w ++ (pad_of dec.rule ∷ []) = ap (λ (n : ℕ). column m n c w) e ∙ column_last m k c w
        ∙ ap (λ (x : Float). column m k c w ++ (x ∷ [])) q in
        let front : column m k c w ≡ own =
        sym (take_at (column m k c w) (pad_of dec.rule ∷ []) k (column-length m k c w)) ∙ ap (take k) (sym last) ∙ h.entries c l
        in
        last ∙ ap (λ (r : List Float). r ++ (pad_of dec.rule ∷ [])) front

    answered-short : k < d → take k (column m d c v) ≡ check_step dec.rule own
    answered-short n =
        let e : d ≡ suc k = omega (arith, s.least c known) in
        ap (take k) (steps c known ∙ ap (check_step dec.rule) (with-pad e (p.pads c known n)))
        ∙ ap (λ (i : ℕ). take i (check_step dec.rule (own ++ (pad_of dec.rule ∷ [])))) (sym own-length)
        ∙ step_pad dec.rule own

    answered-by : Dec (k < d) → take k (column m d c v) ≡ check_step dec.rule own
    answered-by (yes y) = answered-short y
    answered-by (no n) = answered-full (omega arith)

    answered : take k (column m d c v) ≡ get_or (by_check dec.checks (answers dec ms)) c []
    unfolding answers
    answered = answered-by (dec_lt k d) ∙ sym (step-at (check_step dec.rule) (step-length dec.rule) dec.checks ms c l h.size)

  -- the law
  pub holds-answers : Holds dec.checks m d v (answers dec ms)
  unfolding answers
  holds-answers = record {
    room = omega (arith, h.room);
    size = joined-size (check_step dec.rule) (step-length dec.rule) dec.checks ms h.size;
    entries = answered;
  }
