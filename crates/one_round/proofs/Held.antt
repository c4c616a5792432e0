-- A work area holds the messages by slots exactly if each edge's message lies at the edge's place. Assumes nothing.
use mathlib.Core.Path.{◌≡◌, refl, sym, ap, ◌∙◌}
use mathlib.Core.List.{List, [], ◌∷◌}
use Prim.Native.Nat.{ℕ, zero, suc, ◌+◌, ◌*◌, ◌<◌, ◌≤◌}
use native.Mathlib.Omega.{arith}
use lib.Ieee.{Float, nan}
use lib.ListN.{length, get_or, take, drop, length-drop, length-append}
use lib.Seq.{length-take-le, get_or-take, get_or-drop, ext_get_or, drop-drop}
use Rattle.tanner.specs.Checks.{Checks}
use Rattle.tanner.specs.Flat.{joined}
use Rattle.slots.specs.Columns.{column}
use Rattle.slots.specs.Layout.{row, Slotted, slot_place}
use Rattle.slots.proofs.Columns.{column_at, column-length}
use Rattle.slots.proofs.Edges.{start, edge_of, entry_place, entry_inside}
use Rattle.one_round.specs.Round.{by_check}
use Rattle.one_round.specs.Held.{Holds}

-- the messages of check c
messages_at : (cs : Checks) (ms : List Float) (c : ℕ) → c < length cs → get_or (by_check cs ms) c [] ≡ take (length (row cs c)) (drop (start cs c) ms)
unfolding by_check joined
messages_at [] ms c h = absurd (omega arith)
messages_at (r ∷ rs) ms zero h = refl
messages_at (r ∷ rs) ms (suc c) h = rw (length-append r (joined (take c rs)), ← drop-drop (start rs c) (length r) ms)
    (messages_at rs (drop (length r) ms) c (omega arith))

module _ (cs : Checks) (m d : ℕ) (s : Slotted cs m d) (w ms : List Float) where
  -- each edge's message lies at its place
  pub held_at : Holds cs m d w ms → (e : ℕ) → e < length (joined cs) → get_or w (slot_place cs m e) nan ≡ get_or ms e nan
  held_at h e l =
      let a = edge_of m cs e l in
      let c = a.check in
      let j = a.entry in
      let k = length (row cs c) in
      let deep : j < d = omega (arith, a.inside, s.most c (omega (arith, s.count, a.known))) in
      let place : slot_place cs m e ≡ j * m + c = omega (arith, a.place) in
      ap (λ (x : ℕ). get_or w x nan) place
      ∙ sym (column_at m d c j w deep)
      ∙ sym (get_or-take k (column m d c w) j nan a.inside)
      ∙ ap (λ (r : List Float). get_or r j nan) (h.entries c a.known ∙ messages_at cs ms c a.known)
      ∙ get_or-take k (drop (start cs c) ms) j nan a.inside
      ∙ get_or-drop (start cs c) ms j nan
      ∙ ap (λ (x : ℕ). get_or ms x nan) (sym a.whole)

  -- the other way
  module _ (room : d * m ≤ length w) (size : length ms ≡ length (joined cs)) (at : (e : ℕ) → e < length (joined cs)
      → get_or w (slot_place cs m e) nan ≡ get_or ms e nan) where
    module _ (c : ℕ) (l : c < length cs) where
      column-size : length (take (length (row cs c)) (column m d c w)) ≡ length (row cs c)
      column-size =
          let most : length (row cs c) ≤ d = s.most c (omega (arith, s.count)) in
          length-take-le (length (row cs c)) (column m d c w) (omega (arith, column-length m d c w))

      message-size : length (take (length (row cs c)) (drop (start cs c) ms)) ≡ length (row cs c)
      message-size = length-take-le (length (row cs c)) (drop (start cs c) ms) (simp length-drop (omega (arith, entry_inside cs c l)))

      entry-same : (j : ℕ) → j < length (row cs c)
          → get_or (take (length (row cs c)) (column m d c w)) j nan ≡ get_or (take (length (row cs c)) (drop (start cs c) ms)) j nan
      entry-same j h =
          let most : length (row cs c) ≤ d = s.most c (omega (arith, s.count)) in
          let known : start cs c + j < length (joined cs) = omega (arith, entry_inside cs c l) in
          get_or-take (length (row cs c)) (column m d c w) j nan h
          ∙ column_at m d c j w (omega arith)
          ∙ ap (λ (x : ℕ). get_or w x nan) (sym (entry_place m cs c j l h))
          ∙ at (start cs c + j) known
          ∙ sym (get_or-drop (start cs c) ms j nan)
          ∙ sym (get_or-take (length (row cs c)) (drop (start cs c) ms) j nan h)

      row_same : take (length (row cs c)) (column m d c w) ≡ get_or (by_check cs ms) c []
      row_same =
          ext_get_or nan (take (length (row cs c)) (column m d c w)) (take (length (row cs c)) (drop (start cs c) ms)) (column-size ∙ sym message-size)
          (λ j h. entry-same j (omega (arith, column-size)))
          ∙ sym (messages_at cs ms c l)

    pub held_of : Holds cs m d w ms
    held_of = record { room = room; size = size; entries = row_same }
