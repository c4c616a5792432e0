-- `one_frame::decode_place` meets its contract: the frame's values and its part of the bits go to `decode_frame`, and what that tells goes to place j.
-- Assumes nothing.
use mathlib.Core.Path.{ap, ap₂, ◌∙◌}
use Prim.Native.Nat.{ℕ, ◌*◌}
use native.Mathlib.Omega.{arith}
use lib.ListN.{set}
use Rattle.one_round.specs.Round.{Decode}
use Rattle.rounds.specs.Rounds.{chosen_bits}
use Rattle.rounds.specs.Told.{Told, told}
use Rattle.one_frame.specs.Codes.{decode_of}
use Rattle.check_places.specs.Places.{place_of}
use Rattle.one_frame.specs.Place.{placed}
use Rattle.batch_refusals.proofs.Sizes.{size_small}
use Rattle.one_frame.proofs.Place.{part_frame, part_placed, lent_are, room_is}
use Rattle.lists.proofs.Parts.{part_size}
use Rattle.one_frame.proofs.decode_place.Goals as goal

pub decode_frame-told-requires-clause-bits_len_bound : goal.decode_frame-told-requires-clause-bits_len_bound
decode_frame-told-requires-clause-bits_len_bound c =
    let k = c.k-k.result in
    let known = c.of_number-code.ensures in
    let own = rw known at c.k-k.ensures in
    let size = part_size c.args.bits.now (c.args.j * k) k (room_is c.args.j own c.requires.bits) ∙ own in
    rw known (omega (arith, (size_small c.args.code).front))

pub returns : goal.returns
unfolding placed
returns c =
    let a = c.args in
    let k = c.k-k.result in
    let known = c.of_number-code.ensures in
    let own = rw known at c.k-k.ensures in
    let r = c.decode_frame-told.ensures in
    let chose = rw known at r.chose in
    let same = ap (decode_of a.code a.rule a.scale) (part_frame a.values.now a.offset (rw known at c.n.ensures)) in
    let tells = chose.tells ∙ ap (λ (d : Decode). told d a.limit) same in
    let size = part_size a.bits.now (a.j * k) k (room_is a.j own c.requires.bits) ∙ own in
    let front = chose.front ∙ ap₂ (λ (d : Decode) (m : ℕ). chosen_bits d a.limit m) same size in
    lent_are (part_placed a.bits.now a.j own front)
    (ap (λ (x : Told). set a.counts.now a.j x.count) tells)
    (ap (λ (x : Told). set a.rounds.now a.j x.rounds) tells)
    (ap (set a.firsts.now a.j) (c.place_of.ensures ∙ ap (λ (x : Told). place_of x.first) tells))
    r.work_unchanged
