-- Each code's tables are what its passes ask: the places of its bits' edges, the pads, and its shape by slots. From the laws of the shape; that each place
-- is below the room of the messages by computation. Assumes nothing.
use mathlib.Core.Path.{◌≡◌, refl, sym, ap, ◌∙◌}
use mathlib.Core.List.{List, [], ◌∷◌}
use Prim.Native.Nat.{ℕ, zero, suc, ◌+◌, ◌*◌, ◌<◌}
use native.Mathlib.Omega.{arith}
use Rattle.construction.specs.Codes.{Code, n512r12, n576r23, n512r34}
use Rattle.tanner.specs.Checks.{Checks}
use Rattle.lists.specs.Below.{Below}
use Rattle.slots.specs.Layout.{Slotted, slot_edges, pad_places, three_at}
use Rattle.staircase.specs.Codes.{checks}
use Rattle.staircase.specs.Shape.{stairs}
use Rattle.staircase.proofs.Laid.{places-right, taps-right}
use Rattle.n512r12.proofs.Tables.{taps0, laid0, places0}
use Rattle.n576r23.proofs.Tables.{taps1, laid1, places1}
use Rattle.n512r34.proofs.Tables.{taps2, laid2, places2}
use Rattle.stairs.specs.Stairs.{Stairs}
use Rattle.stairs.proofs.Codes.{all_below, tested, stairs0, stairs1, stairs2}
use Rattle.stairs.proofs.BySlots.{stairs-slotted, stairs-pads, stairs-edges}
use Rattle.code174.specs.Code174 as code174
use Rattle.code174.proofs.Arrays.{slot_edge, slot_pads}
use Rattle.code174.proofs.BySlots.{slotted, pads_right, edges_size, edges_low}
use Rattle.variable_node.specs.Passes.{Listed}
use Rattle.passes.specs.Codes.{size_m, checks_by, degree}
use Rattle.passes.specs.Passes.{StairEdges}

-- ---- a staircase code, from its taps

module _ (c : Code) (width n : ℕ) (taps : List ℕ) (s : Stairs c.k width c.m n taps) (t : stairs c.k width c.m taps ≡ checks c) where
  stair-edges : (table : List ℕ) → ((b : ℕ) → b < c.k → three_at table b ≡ slot_edges (checks c) c.m b)
      → StairEdges (checks c) c.k c.m (width * c.m) table
  stair-edges table right = record {
    listed = right;
    paired = λ i h.
        sym (stairs-edges c.k width c.m taps s.size s.low i h) ∙ ap (λ (cs : Checks). slot_edges cs c.m (c.k + i)) t;
  }

  stair-pads : 0 < c.m → ((width + 1) * c.m) ∷ [] ≡ pad_places (checks c) c.m (width + 2)
  stair-pads h = sym (stairs-pads c.k width c.m taps s.size h) ∙ ap (λ (cs : Checks). pad_places cs c.m (width + 2)) t

  stair-slotted : Slotted (checks c) c.m (width + 2)
  stair-slotted = rw t at (stairs-slotted c.k width c.m taps s.size)

-- ---- the three

pub edges0 : StairEdges (checks n512r12) 256 256 768 places0
edges0 = stair-edges n512r12 3 512 taps0 (stairs0 512 (omega arith)) (taps-right laid0) places0 (places-right laid0)

pub edges1 : StairEdges (checks n576r23) 384 192 1152 places1
edges1 = stair-edges n576r23 6 576 taps1 (stairs1 576 (omega arith)) (taps-right laid1) places1 (places-right laid1)

pub edges2 : StairEdges (checks n512r34) 384 128 1152 places2
edges2 = stair-edges n512r34 9 512 taps2 (stairs2 512 (omega arith)) (taps-right laid2) places2 (places-right laid2)

pub pads0 : 1024 ∷ [] ≡ pad_places (checks n512r12) 256 5
pads0 = stair-pads n512r12 3 512 taps0 (stairs0 512 (omega arith)) (taps-right laid0) (omega arith)

pub pads1 : 1344 ∷ [] ≡ pad_places (checks n576r23) 192 8
pads1 = stair-pads n576r23 6 576 taps1 (stairs1 576 (omega arith)) (taps-right laid1) (omega arith)

pub pads2 : 1280 ∷ [] ≡ pad_places (checks n512r34) 128 11
pads2 = stair-pads n512r34 9 512 taps2 (stairs2 512 (omega arith)) (taps-right laid2) (omega arith)

pub pads3 : slot_pads ≡ pad_places code174.checks 83 7
pads3 = pads_right

-- each is a place of a message
pub one_below : (p n : ℕ) → p < n → Below n (p ∷ [])
unfolding Below
one_below p n h zero l = h
one_below p n h (suc k) l = absurd (omega arith)

pub pads_below : (n : ℕ) → n ≡ 581 → Below n slot_pads
unfolding slot_pads all_below
pads_below n e = rw e (tested 581 slot_pads refl)

-- ---- the tables of three places a bit

pub listed0 : (k : ℕ) → k ≡ 1280 → Listed 256 places0 k
unfolding places0 all_below
listed0 k e = record { size = omega arith; low = rw e (tested 1280 places0 refl) }

pub listed1 : (k : ℕ) → k ≡ 1536 → Listed 384 places1 k
unfolding places1 all_below
listed1 k e = record { size = omega arith; low = rw e (tested 1536 places1 refl) }

pub listed2 : (k : ℕ) → k ≡ 1408 → Listed 384 places2 k
unfolding places2 all_below
listed2 k e = record { size = omega arith; low = rw e (tested 1408 places2 refl) }

pub listed3 : (k : ℕ) → k ≡ 581 → Listed 174 slot_edge k
listed3 k e = record { size = omega (arith, edges_size); low = rw e edges_low }

-- ---- the shape of each code by slots

pub slotted_by : (code : ℕ) → Slotted (checks_by code) (size_m code) (degree code)
unfolding checks_by size_m degree
slotted_by zero = stair-slotted n512r12 3 512 taps0 (stairs0 512 (omega arith)) (taps-right laid0)
slotted_by (suc zero) = stair-slotted n576r23 6 576 taps1 (stairs1 576 (omega arith)) (taps-right laid1)
slotted_by (suc (suc zero)) = stair-slotted n512r34 9 512 taps2 (stairs2 512 (omega arith)) (taps-right laid2)
slotted_by (suc (suc (suc n))) = slotted
