-- Each channel value put at its position's places is the first message of each edge, and a pad put at the pads' places changes no message.
-- By induction over the positions. Assumes nothing.
use mathlib.Core.Path.{◌≡◌, refl, sym, ap, ◌∙◌}
use mathlib.Core.Bool.{Bool, true, false}
use mathlib.Core.Logic.{◌≢◌}
use mathlib.Core.List.{List, map}
use Prim.Native.Nat.{ℕ, zero, suc, ◌+◌, ◌*◌, ◌<◌, ◌≤◌}
use native.Mathlib.Omega.{arith}
use borrow.Author.Tests.{eqb-true, eqb-false}
use lib.Dec.{eqb}
use lib.Ieee.{Float, nan}
use lib.ListN.{length, get_or, take, length-map}
use Rattle.lists.proofs.Parts.{map_at}
use Rattle.tanner.specs.Checks.{Checks}
use Rattle.tanner.specs.Flat.{joined, places}
use Rattle.lists.specs.Below.{Below}
use Rattle.tanner.proofs.Places.{places_stand, rank-inside, rank-place}
use Rattle.slots.specs.Layout.{row, Slotted, slot_place, slot_edges, pad_places, scattered}
use Rattle.slots.proofs.Edges.{slot-injective, slot-inside, entry_below, pad-apart}
use Rattle.slots.proofs.Pads.{Listed, pads-lack, pad-listed}
use Rattle.slots.proofs.Scattered.{scattered-length, scattered-out, scattered-in}
use Rattle.variable_node.specs.Passes.{turns}
use Rattle.one_round.specs.Round.{Decode, channel, first_messages}
use Rattle.one_round.specs.Held.{Holds}
use Rattle.one_round.proofs.Held.{held_at, held_of}
use Rattle.one_round.proofs.Answers.{Padded}

-- ---- the first messages

module _ (dec : Decode) (m d : ℕ) (s : Slotted dec.checks m d) (w : List Float) (room : d * m ≤ length w) where
  abbrev flat : List ℕ
  flat = joined dec.checks

  abbrev place : ℕ → ℕ
  place e = slot_place dec.checks m e

  -- after the positions below b
  record First (b : ℕ) (v : List Float) : Type 0 where
    wide : length v ≡ length w
    new : (e : ℕ) → e < length flat → get_or flat e 0 < b → get_or v (place e) nan ≡ channel dec (get_or flat e 0)
    kept : (x : ℕ) → ((e : ℕ) → e < length flat → place e ≢ x) → get_or v x nan ≡ get_or w x nan

  module _ (b : ℕ) (v : List Float) (a : First b v) where
    abbrev own : List ℕ
    own = slot_edges dec.checks m b

    own-place : (k : ℕ) → k < length own → get_or own k 0 ≡ place (get_or (places b 0 flat) k 0)
    own-place k h = map_at (slot_place dec.checks m) (places b 0 flat) k 0 0 (omega (arith, length-map (places b 0 flat) (slot_place dec.checks m)))

    own-low : (k : ℕ) → k < length own → get_or (places b 0 flat) k 0 < length flat
    own-low k h =
        let i = places_stand b 0 flat k (omega (arith, length-map (places b 0 flat) (slot_place dec.checks m))) in
        omega (arith, i.place, i.inside)

    own-holds : (k : ℕ) → k < length own → get_or flat (get_or (places b 0 flat) k 0) 0 ≡ b
    own-holds k h =
        let i = places_stand b 0 flat k (omega (arith, length-map (places b 0 flat) (slot_place dec.checks m))) in
        let e : get_or (places b 0 flat) k 0 ≡ i.index = omega (arith, i.place) in
        rw e i.holds

    -- an edge of b is listed, and its place is none of another's
    own-listed : (e : ℕ) → e < length flat → get_or flat e 0 ≡ b → Listed own (place e)
    own-listed e l q =
        let ranked : length (places b 0 (take e flat)) < length (places b 0 flat) = rw q at (rank-inside flat e l) in
        let at : get_or (places b 0 flat) (length (places b 0 (take e flat))) 0 ≡ e = rw q at (rank-place flat e l) in
        let inside : length (places b 0 (take e flat)) < length own = omega (arith, length-map (places b 0 flat) (slot_place dec.checks m)) in
        record {
          index = length (places b 0 (take e flat));
          inside = inside;
          there = own-place (length (places b 0 (take e flat))) inside ∙ ap (slot_place dec.checks m) at;
        }

    other-apart : (e : ℕ) → e < length flat → get_or flat e 0 ≢ b → (k : ℕ) → k < length own → get_or own k 0 ≢ place e
    other-apart e l n k h q =
        let same : get_or (places b 0 flat) k 0 ≡ e =
        slot-injective dec.checks m d s (get_or (places b 0 flat) k 0) e (own-low k h) l (sym (own-place k h) ∙ q) in
        n (rw same at (own-holds k h))

    new_by : (e : ℕ) → e < length flat → get_or flat e 0 < suc b → (t : Bool) → eqb (get_or flat e 0) b ≡ t
        → get_or (scattered (channel dec b) own v) (place e) nan ≡ channel dec (get_or flat e 0)
    new_by e l h true t =
        let q = eqb-true (get_or flat e 0) b t in
        let low : place e < length v = omega (arith, a.wide, slot-inside dec.checks m d s e l) in
        scattered-in (channel dec b) own v (place e) (own-listed e l q) low ∙ ap (channel dec) (sym q)
    new_by e l h false t =
        let n = eqb-false (get_or flat e 0) b t in
        let less : get_or flat e 0 < b = omega arith in
        scattered-out (channel dec b) own v (place e) (other-apart e l n) ∙ a.new e l less

    first_more : First (suc b) (scattered (channel dec b) own v)
    first_more = record {
      wide = scattered-length (channel dec b) own v ∙ a.wide;
      new = λ e l h. new_by e l h (eqb (get_or flat e 0) b) refl;
      kept = λ x h. scattered-out (channel dec b) own v x (λ k l q. h (get_or (places b 0 flat) k 0) (own-low k l) (sym (own-place k l) ∙ q)) ∙ a.kept x h;
    }

  -- the turns of n positions
  module _ (step : ℕ → List Float → List Float) (n : ℕ) (steps : (b : ℕ) (v : List Float) → b < n
      → step b v ≡ scattered (channel dec b) (slot_edges dec.checks m b) v)
      (low : Below n (joined dec.checks)) where
    first-turns : (b : ℕ) → b ≤ n → First b (turns step b w)
    unfolding turns
    first-turns zero l = record { wide = refl; new = λ e k h. absurd (omega arith); kept = λ x h. refl }
    first-turns (suc b) l = rw (steps b (turns step b w) (omega arith)) (first_more b (turns step b w) (first-turns b (omega arith)))

    pub first_holds : Holds dec.checks m d (turns step n w) (first_messages dec)
    unfolding first_messages Below
    first_holds =
        let a = first-turns n (omega arith) in
        held_of dec.checks m d s (turns step n w) (map (channel dec) flat) (omega (arith, a.wide)) (length-map flat (channel dec))
        (λ e l. a.new e l (low e l) ∙ sym (map_at (channel dec) flat e 0 nan l))

-- ---- the pads

module _ (cs : Checks) (m d : ℕ) (s : Slotted cs m d) (pad : Float) (w : List Float) (room : d * m ≤ length w) where
  pub pads-set : Padded cs m d pad (scattered pad (pad_places cs m d) w)
  pads-set = record {
    pads = λ c h l. let x : length (row cs c) * m + c < d * m = entry_below m d (length (row cs c)) c (length (row cs c) * m + c) h l refl in
        scattered-in pad (pad_places cs m d) w (length (row cs c) * m + c) (pad-listed m d cs c (omega (arith, s.count)) l) (omega arith);
  }

  pad-not : (e : ℕ) → e < length (joined cs) → (k : ℕ) → k < length (pad_places cs m d) → get_or (pad_places cs m d) k 0 ≢ slot_place cs m e
  pad-not e l k h q =
      let i = pads-lack m d cs 0 k h in
      let c : i.check < m = omega (arith, s.count, i.known) in
      pad-apart cs m d s i.check c e l (omega (arith, i.place))

  pub pads-hold : (ms : List Float) → Holds cs m d w ms → Holds cs m d (scattered pad (pad_places cs m d) w) ms
  pads-hold ms h =
      held_of cs m d s (scattered pad (pad_places cs m d) w) ms (omega (arith, scattered-length pad (pad_places cs m d) w)) h.size
      (λ e l. scattered-out pad (pad_places cs m d) w (slot_place cs m e) (pad-not e l) ∙ held_at cs m d s w ms h e l)
