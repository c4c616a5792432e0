-- The totals of batches: an accepted call's frames are those of the decodes' definition, place by place; two batches' totals, joined or added, are those of all
-- their frames.
use mathlib.Core.Path.{◌≡◌, refl, sym, ap, ap₂, ◌∙◌}
use mathlib.Core.List.{List, [], ◌∷◌, map}
use Prim.Native.Nat.{ℕ, suc, ◌+◌, ◌*◌, ◌<◌}
use native.Mathlib.Nat.{zero-add, add-zero, add-suc, suc-add, suc-mul, zero-mul}
use native.Mathlib.Omega.{arith}
use borrow.Author.Tests.{le-ltb, eq-eqb}
use lib.Ieee.{Float}
use lib.ListN.{length, get_or, length-map, length-append}
use Rattle.refusal.proofs.Judged.{verdict, nothing, judged_past, accepted_rest}
use Rattle.tanner.specs.Flat.{joined}
use Rattle.batch.specs.Codes.{size_n, size_k}
use Rattle.batch.specs.Pairs.{frame_of as pair_frame}
use Rattle.batch.specs.Calls.{Lent, Batch, head_refusals, pair_refusals, refusals_of, room_of, frames, frame_bits, frame_count, frame_rounds, written}
use Rattle.batch.specs.Promise.{Call, Accepted, held, values_at}
use Rattle.batch.proofs.Whole.{all-good}
use Rattle.batch.proofs.Promise.{agreed, left_is, count-is, rounds-are, bits_are, front-size}
use Rattle.clean.specs.Clean.{frame_clean}
use Rattle.figures.specs.Totals.{Frame, sums, join_refusals}
use Rattle.figures.proofs.Sums.{batches_joined}
use Rattle.batch_figures.specs.Results.{left, frame_at, frames_from, batch_frames, result_refusals}
use Rattle.batch_figures.specs.Batches.{frames_of_call, totals_of_call, frame_of, AsDecoded, Joined, Added}

-- ---- place by place

places_mapped : (frame : ℕ → Frame) (g : List Float → Frame) (l : List (List Float)) (j : ℕ) → ((i : ℕ) → i < length l → frame (j + i) ≡ g (get_or l i []))
    → frames_from frame j (length l) ≡ map g l
unfolding frames_from
places_mapped frame g [] j h = refl
places_mapped frame g (x ∷ l) j h =
    let first : frame j ≡ g x = rw add-zero at (h 0 (omega arith)) in
    let rest = places_mapped frame g l (suc j) (λ i q. rw (suc-add, ← add-suc) (h (suc i) (omega arith))) in
    ap₂ ◌∷◌ first rest

-- parts of one length, laid one after another
joined_length : (k : ℕ) (f : List Float → List ℕ) (l : List (List Float)) → ((i : ℕ) → i < length l → length (f (get_or l i [])) ≡ k)
    → length (joined (map f l)) ≡ length l * k
unfolding joined
joined_length k f [] size = sym (zero-mul k)
joined_length k f (x ∷ l) size =
    rw length-append (omega (arith, size 0 (omega arith), joined_length k f l (λ i q. size (suc i) (omega arith)), suc-mul (length l) k))

-- a frame by its numbers and its bits
abbrev by : ℕ → List Float → ℕ → ℕ → List ℕ → Frame
by code values count rounds bits = record { count = count; rounds = rounds; clean = frame_clean code values count bits }

by_parts : (code : ℕ) (values : List Float) {count rounds count' rounds' : ℕ} {bits bits' : List ℕ} → count ≡ count' → rounds ≡ rounds' → bits ≡ bits'
    → by code values count rounds bits ≡ by code values count' rounds' bits'
by_parts code values p q r = rw (p, q, r)

-- ---- of an accepted call

module _ (c : Call) (ok : Accepted c) where
  abbrev b : Batch
  b = c.handed

  many : length (frames b) ≡ held c
  many = length-map b.pairs (pair_frame b.values)

  same-frame : (j : ℕ) → j < held c → frame_at (left b c.left) j ≡ frame_of b (get_or (frames b) j [])
  unfolding values_at
  same-frame j h = by_parts b.code (get_or (frames b) j []) (count-is c ok j h) (rounds-are c ok j h) (bits_are c ok j h)

  -- its outputs have their lengths
  counts-many : length c.left.counts ≡ held c
  unfolding written
  counts-many = ap (λ (l : Lent). length l.counts) (left_is c ok) ∙ length-map (frames b) (frame_count b) ∙ many

  rounds-many : length c.left.rounds ≡ held c
  unfolding written
  rounds-many = ap (λ (l : Lent). length l.rounds) (left_is c ok) ∙ length-map (frames b) (frame_rounds b) ∙ many

  bits-many : length c.left.bits ≡ held c * size_k b.code
  unfolding written values_at
  bits-many =
      ap (λ (l : Lent). length l.bits) (left_is c ok)
      ∙ joined_length (size_k b.code) (frame_bits b) (frames b) (λ i q. front-size c ok i (omega (arith, many)))
      ∙ ap (λ (n : ℕ). n * size_k b.code) many

  -- so that what it left is not refused
  pub not-refused : verdict (result_refusals (left b c.left)) ≡ nothing
  unfolding result_refusals refusals_of
  not-refused =
      let v = agreed c ok in
      let good = all-good b.code b.rule (length b.values) b.pairs (room_of b.memory) v in
      let pairs =
      accepted_rest (head_refusals b.code b.rule (held c) (room_of b.memory)) (pair_refusals (size_n b.code) (length b.values) 0 b.pairs) v in
      rw (
        le-ltb 3 b.code (omega (arith, good.known)),
        le-ltb 24 (held c) good.few,
        eq-eqb (length c.left.bits) (held c * size_k b.code) bits-many,
        eq-eqb (length c.left.counts) (held c) counts-many,
        eq-eqb (length c.left.rounds) (held c) rounds-many,
      )
      pairs

-- ---- the theorems

-- an accepted call's frames are those that the definition of a decode gives
pub as_decoded : (c : Call) → AsDecoded c
unfolding batch_frames
as_decoded c ok =
    let r = left c.handed c.left in
    ap (frames_from (frame_at r) 0) (sym (many c ok))
    ∙ places_mapped (frame_at r) (frame_of c.handed) (frames c.handed) 0 (λ i h. rw zero-add (same-frame c ok i (omega (arith, many c ok))))

-- "joining the totals of two batches equals the totals of all their frames"
pub joined_batches : (a b : Call) → Joined a b
joined_batches a b = batches_joined (frames_of_call a) (frames_of_call b)

pub added-batch : (a b : Call) → Added a b
added-batch a b ok =
    let t = totals_of_call a in
    let more = totals_of_call b in
    judged_past (result_refusals (left b.handed b.left)) (join_refusals t more) (sums t more) (not-refused b ok) ∙ joined_batches a b
