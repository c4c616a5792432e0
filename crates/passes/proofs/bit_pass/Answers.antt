-- `passes::bit_pass` meets its contract, code by code: the table has the places of its bits. Assumes nothing.
use mathlib.Core.Path.{◌∙◌}
use native.Mathlib.Omega.{arith}
use Rattle.softmath.specs.declared.SumKind.TheVariants.{Others}
use Rattle.construction.specs.Codes.{n512r12, n576r23, n512r34}
use Rattle.staircase.specs.Codes.{checks}
use Rattle.n512r12.proofs.Tables.{places0}
use Rattle.n576r23.proofs.Tables.{places1}
use Rattle.n512r34.proofs.Tables.{places2}
use Rattle.code174.proofs.Arrays.{slot_edge}
use Rattle.code174.proofs.BySlots.{edges_right}
use Rattle.passes.specs.Codes.{size_n, size_m, checks_by, kind_by, degree, room}
use Rattle.passes.proofs.Turns.{all-bits}
use Rattle.passes.proofs.Tables.{edges0, edges1, edges2, listed0, listed1, listed2, listed3}
use Rattle.passes.proofs.bit_pass.Goals as goal

pub stair_bits-requires : goal.stair_bits-requires
unfolding places0 size_n room degree size_m
stair_bits-requires c =
    let wide = rw c.in-N512R12.is at c.requires.llr_len in
    let word = rw c.in-N512R12.is at c.requires.hard_len in
    let long = rw c.in-N512R12.is at c.requires.messages_len in
    record {
      m_in_bounds = omega (arith, wide);
      m_in_bounds_2 = omega (arith, word);
      listed = listed0 _ long;
      paired = record { some = omega arith; fits = omega (arith, long) };
    }

pub returns-in-N512R12 : goal.returns-in-N512R12
unfolding places0 checks_by size_m size_n kind_by
returns-in-N512R12 c = rw c.in-N512R12.is (c.stair_bits.ensures (checks n512r12) edges0)

pub stair_bits-requires-in-N576R23 : goal.stair_bits-requires-in-N576R23
unfolding places1 size_n room degree size_m
stair_bits-requires-in-N576R23 c =
    let wide = rw c.in-N576R23.is at c.requires.llr_len in
    let word = rw c.in-N576R23.is at c.requires.hard_len in
    let long = rw c.in-N576R23.is at c.requires.messages_len in
    record {
      m_in_bounds = omega (arith, wide);
      m_in_bounds_2 = omega (arith, word);
      listed = listed1 _ long;
      paired = record { some = omega arith; fits = omega (arith, long) };
    }

pub returns-in-N576R23 : goal.returns-in-N576R23
unfolding places1 checks_by size_m size_n kind_by
returns-in-N576R23 c = rw c.in-N576R23.is (c.stair_bits-in-N576R23.ensures (checks n576r23) edges1)

pub stair_bits-requires-in-N512R34 : goal.stair_bits-requires-in-N512R34
unfolding places2 size_n room degree size_m
stair_bits-requires-in-N512R34 c =
    let wide = rw c.in-N512R34.is at c.requires.llr_len in
    let word = rw c.in-N512R34.is at c.requires.hard_len in
    let long = rw c.in-N512R34.is at c.requires.messages_len in
    record {
      m_in_bounds = omega (arith, wide);
      m_in_bounds_2 = omega (arith, word);
      listed = listed2 _ long;
      paired = record { some = omega arith; fits = omega (arith, long) };
    }

pub returns-in-N512R34 : goal.returns-in-N512R34
unfolding places2 checks_by size_m size_n kind_by
returns-in-N512R34 c = rw c.in-N512R34.is (c.stair_bits-in-N512R34.ensures (checks n512r34) edges2)

pub listed_bits-requires : goal.listed_bits-requires
unfolding slot_edge size_n room degree size_m
listed_bits-requires c =
    let wide = rw c.in-Ft8.is at c.requires.llr_len in
    let word = rw c.in-Ft8.is at c.requires.hard_len in
    record {
      n_in_bounds = omega (arith, wide);
      n_in_bounds_2 = omega (arith, word);
      listed = listed3 _ (rw c.in-Ft8.is at c.requires.messages_len);
    }

pub returns-in-Ft8 : goal.returns-in-Ft8
unfolding slot_edge checks_by size_m size_n kind_by
returns-in-Ft8 c = rw c.in-Ft8.is (c.listed_bits.ensures ∙ all-bits _ 83 _ slot_edge 174 edges_right Others _)
