-- The (174,91) code's checks by slots: 83 checks of seven entries or six, each position's three places, and the places of the pads. By computation over
-- all 522 edges. Assumes nothing.
use mathlib.Core.Path.{◌≡◌, refl}
use mathlib.Core.List.{map}
use Prim.Native.Nat.{ℕ, suc, ◌-◌, ◌<◌}
use lib.Dec.{ltb, leb}
use lib.ListN.{length, get_or, drop}
use borrow.Author.Tests.{ltb-true, leb-true}
use Rattle.tanner.specs.Flat.{places, edges_from}
use Rattle.lists.specs.Below.{Below}
use Rattle.slots.specs.Layout.{Slotted, slot_edges, pad_places, three_at, threes}
use Rattle.slots.proofs.Tables.{slot_by, pads_by, table-edges, table-pads, table-slotted}
use Rattle.code174.specs.Code174.{checks}
use Rattle.code174.specs.Agreement.{each}
use Rattle.code174.proofs.Arrays.{check_start, check_bits, slot_edge, slot_pads}
use Rattle.code174.proofs.Graph.{check-start, check-bits}
use Rattle.code174.proofs.Tests.{each_at}

pub slotted : Slotted checks 83 7
unfolding check_start each
slotted =
    table-slotted checks 83 check_start check-start 7 refl
    (λ c h. leb-true _ _ (each_at 83 (λ (i : ℕ). leb (get_or check_start (suc i) 0 - get_or check_start i 0) 7) refl c h))
    (λ c h. leb-true _ _ (each_at 83 (λ (i : ℕ). leb 7 (suc (get_or check_start (suc i) 0 - get_or check_start i 0))) refl c h))

computed : threes slot_edge ≡ map (map (slot_by 83 0 0 (drop 1 check_start))) (edges_from 0 174 check_bits)
unfolding slot_edge threes slot_by check_start edges_from places check_bits
computed = refl

-- each position's places
pub edges_right : (b : ℕ) → b < 174 → three_at slot_edge b ≡ slot_edges checks 83 b
edges_right = table-edges checks 83 check_start check-start 174 check_bits slot_edge check-bits computed

pads_computed : slot_pads ≡ pads_by 83 7 0 0 (drop 1 check_start)
unfolding slot_pads pads_by check_start
pads_computed = refl

pub pads_right : slot_pads ≡ pad_places checks 83 7
pads_right = table-pads checks 83 check_start check-start 7 slot_pads pads_computed

pub edges_size : length slot_edge ≡ 522
unfolding slot_edge
edges_size = refl

pub edges_low : Below 581 slot_edge
unfolding slot_edge Below each
edges_low k h = ltb-true _ _ (each_at 522 (λ (i : ℕ). ltb (get_or slot_edge i 0) 581) refl k h)
