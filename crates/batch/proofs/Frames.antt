-- The frames of a batch: the loop over them. Assumes nothing.
use mathlib.Core.Path.{◌≡◌, refl, sym, ap, subst, ◌∙◌}
use mathlib.Core.List.{List, ◌∷◌, ◌++◌, map, append_assoc, append-nil}
use Prim.Native.Nat.{ℕ, suc, ◌+◌, ◌*◌, ◌-◌, ◌<◌, ◌≤◌}
use native.Mathlib.Nat.{mul-le-mul, suc-mul, zero-mul}
use native.Mathlib.Numerals.{add-one}
use native.Mathlib.Omega.{arith}
use lib.Ieee.{Float}
use lib.ListN.{length, get_or, take, drop, set, length-set, length-append, length-map, length-drop, drop_of_length-le, get_or-map}
use lib.Seq.{take_at, drop-cons, take_all, length-take-le}
use Rattle.tanner.specs.Flat.{joined}
use Rattle.work_area.specs.Area.{cleared}
use Rattle.lists.proofs.Loops.{fill_more, fill_done}
use Rattle.batch.specs.Codes.{size_n, size_k}
use Rattle.batch.specs.Pairs.{Pair, pair, pairs_of, frame_of, frames_of, AllWithin}
use Rattle.batch.specs.Calls.{Lent, lent, Batch, frames, frame_decode, frame_bits, frame_count, frame_rounds, frame_first, written}
use Rattle.batch.specs.Steps.{Fitting, PlaceFits, placed}
use Rattle.batch.proofs.Pairs.{pairs-length, pair_at, within_at}
use Rattle.one_frame.proofs.Place.{part_frame, lent_are}

-- ---- the places of frame j

pub place-fits : (j n k : ℕ) → j < n → j * k + k ≤ n * k
place-fits j n k h = omega (arith, mul-le-mul {n₁ = suc j} {m₁ = k} {n₂ = n} {m₂ = k} h (omega arith), suc-mul j k)

-- a part written behind what is there already, where all stays as long as it was
module _ {A : Type 0} (bits own : List A) (at k : ℕ) (h : at + k ≤ length bits) (same : length (take at bits ++ (own ++ drop (at + k) bits)) ≡ length bits)
  where
    own-size : length own ≡ k
    own-size =
        let all = length-append (take at bits) (own ++ drop (at + k) bits) in
        omega (arith, length-take-le at bits (omega arith), length-append own (drop (at + k) bits), length-drop (at + k) bits)

    pub written-more : (goal rest : List A) → take at bits ++ (own ++ rest) ≡ goal → take (at + k) (take at bits ++ (own ++ drop (at + k) bits)) ++ rest ≡ goal
    written-more goal rest e =
        let d = drop (at + k) bits in
        let a : length (take at bits ++ own) ≡ at + k = simp length-append (omega (arith, length-take-le at bits (omega arith), own-size)) in
        rw (← append_assoc (take at bits) own d, take_at (take at bits ++ own) d (at + k) a, append_assoc (take at bits) own rest) e

-- one number a frame, written as far as place j
column-length : (f : List Float → ℕ) (values : List Float) (ps : List Pair) → length (map f (frames_of values ps)) ≡ length ps
column-length f values ps = length-map (frames_of values ps) f ∙ length-map ps (frame_of values)

pub record Column (f : List Float → ℕ) (values : List Float) (ps : List Pair) (j : ℕ) (out : List ℕ) : Type 0 where
  pub size : length out ≡ length ps
  pub front : take j out ≡ take j (map f (frames_of values ps))

pub column-none : (f : List Float → ℕ) (values : List Float) (ps : List Pair) (out : List ℕ) → length out ≡ length ps → Column f values ps 0 out
column-none f values ps out size = record { size = size; front = refl }

pub column-done : (f : List Float → ℕ) (values : List Float) (ps : List Pair) (j : ℕ) (out : List ℕ) → length ps ≤ j → Column f values ps j out
    → out ≡ map f (frames_of values ps)
column-done f values ps j out h c =
    let all = column-length f values ps in
    fill_done (map f (frames_of values ps)) 0 out j (omega (arith, all)) (omega (arith, c.size)) c.front

-- ---- the frame of pair j

abbrev pub none-pair : Pair
none-pair = pair 0 0

abbrev pub offset_at : List Pair → ℕ → ℕ
offset_at ps j = (get_or ps j none-pair).offset

module _ (values : List Float) (ps : List Pair) (n j : ℕ) (w : AllWithin n (length values) ps) (h : j < length ps) where
  abbrev own : List Float
  own = frame_of values (pair (offset_at ps j) n)

  pub offset-inside : offset_at ps j + n ≤ length values
  offset-inside = let p = within_at w j none-pair h in omega (arith, p.0, p.1)

  own_is : frame_of values (get_or ps j none-pair) ≡ own
  own_is = ap (λ (m : ℕ). frame_of values (pair (offset_at ps j) m)) (within_at w j none-pair h).0

  pub own-next : drop j (frames_of values ps) ≡ own ∷ drop (j + 1) (frames_of values ps)
  own-next =
      rw (add-one, ← own_is)
      (drop-cons (frames_of values ps) j (frame_of values none-pair) (simp length-map h)
      ∙ ap (λ (f : List Float). f ∷ drop (suc j) (frames_of values ps)) (get_or-map (frame_of values) ps j none-pair))

  -- one number more, of the frame at place j
  column-more : (f : List Float → ℕ) (out : List ℕ) → Column f values ps j out → Column f values ps (j + 1) (set out j (f own))
  column-more f out c =
      let all = column-length f values ps in
      let beyond = frame_of values none-pair in
      let here : f own ≡ get_or (map f (frames_of values ps)) j (f beyond) =
      sym (get_or-map f (frames_of values ps) j beyond ∙ ap f (get_or-map (frame_of values) ps j none-pair ∙ own_is))
      in
      record {
        size = length-set out j (f own) ∙ c.size;
        front = fill_more (map f (frames_of values ps)) (f beyond) out j (f own) (omega (arith, all)) (omega (arith, c.size)) here c.front;
      }

  -- the bits of the frames from j on
  bits-next : (f : List Float → List ℕ) → joined (map f (drop j (frames_of values ps))) ≡ f own ++ joined (map f (drop (j + 1) (frames_of values ps)))
  unfolding joined
  bits-next f = rw own-next

-- of pairs in a flat list
module _ (values : List Float) (pairs : List ℕ) (n j : ℕ) (w : AllWithin n (length values) (pairs_of pairs)) (h : j < length (pairs_of pairs)) where
  abbrev offset : ℕ
  offset = get_or pairs (j * 2) 0

  pub pair_inside : suc (j * 2) < length pairs
  pair_inside = omega (arith, pairs-length pairs)

  pub offset-is : offset_at (pairs_of pairs) j ≡ offset
  offset-is = ap (λ (p : Pair). p.offset) (pair_at pairs j none-pair h)

  pub frame-inside : offset + n ≤ length values
  frame-inside = omega (arith, offset-is, offset-inside values (pairs_of pairs) n j w h)

  pub frames-next : drop j (frames_of values (pairs_of pairs))
      ≡ take (offset + n - offset) (drop offset values) ∷ drop (j + 1) (frames_of values (pairs_of pairs))
  frames-next = rw (part_frame values offset {n = n} refl, ← offset-is) (own-next values (pairs_of pairs) n j w h)

-- after the last frame
pub bits_end : (f : List Float → List ℕ) (frames : List (List Float)) (j : ℕ) (front goal : List ℕ) → length frames ≤ j
    → front ++ joined (map f (drop j frames)) ≡ goal → front ≡ goal
unfolding joined
bits_end f frames j front goal h e = sym (append-nil front) ∙ rw (drop_of_length-le frames h) at e

pub bits-whole : (bits goal : List ℕ) (at : ℕ) → length bits ≤ at → take at bits ≡ goal → bits ≡ goal
bits-whole bits goal at h e = sym (take_all at bits h) ∙ e

-- ---- a batch whose first j frames are decoded

pub record Going (b : Batch) (j : ℕ) (l : Lent) : Type 0 where
  pub upto : j ≤ length b.pairs
  pub long : length l.bits ≡ length b.memory.bits
  pub front : take (j * size_k b.code) l.bits ++ joined (map (frame_bits b) (drop j (frames b))) ≡ joined (map (frame_bits b) (frames b))
  pub counts : Column (frame_count b) b.values b.pairs j l.counts
  pub rounds : Column (frame_rounds b) b.values b.pairs j l.rounds
  pub firsts : Column (frame_first b) b.values b.pairs j l.firsts
  pub area : cleared l.work ≡ cleared b.memory.work
  pub wide : length l.work ≡ length b.memory.work

module _ {b : Batch} (fit : Fitting b) where
  abbrev m : Lent
  m = b.memory

  abbrev k : ℕ
  k = size_k b.code

  -- before the first frame
  pub going-none : Going b 0 m
  going-none = record {
    upto = omega arith;
    long = refl;
    front = rw zero-mul refl;
    counts = column-none _ b.values b.pairs m.counts fit.counts;
    rounds = column-none _ b.values b.pairs m.rounds fit.rounds;
    firsts = column-none _ b.values b.pairs m.firsts fit.firsts;
    area = refl;
    wide = refl;
  }

  module _ {j : ℕ} {l : Lent} (g : Going b j l) where
    module _ (h : j < length b.pairs) where
      -- there is a frame at place j, and a place for it
      pub going-fits : PlaceFits b.code (offset_at b.pairs j) j b.values l
      going-fits = record {
        known = fit.known;
        inside = offset-inside b.values b.pairs (size_n b.code) j fit.inside h;
        bits = omega (arith, g.long, fit.bits, place-fits j (length b.pairs) k h);
        counts = omega (arith, g.counts.size);
        rounds = omega (arith, g.rounds.size);
        firsts = omega (arith, g.firsts.size);
        area = omega (arith, g.wide, fit.area);
      }

      -- the lists stay as long as they were
      pub going_more : {l' : Lent} → lent l'.bits l'.counts l'.rounds l'.firsts (cleared l'.work)
          ≡ placed (frame_decode b (own b.values b.pairs (size_n b.code) j fit.inside h)) b.limit k j l
          → length l'.bits ≡ length l.bits → length l'.work ≡ length l.work → Going b (j + 1) l'
      unfolding placed
      going_more {l'} e same wide =
          let f = own b.values b.pairs (size_n b.code) j fit.inside h in
          let more = column-more b.values b.pairs (size_n b.code) j fit.inside h in
          let bits = ap (λ (x : Lent). x.bits) e in
          record {
            upto = omega arith;
            long = same ∙ g.long;
            front =
                let turn : (j + 1) * k ≡ j * k + k = rw add-one (suc-mul j k) in
                rw (turn, bits)
                (written-more l.bits (frame_bits b f) (j * k) k going-fits.bits (sym (ap length bits) ∙ same) _ _
                (rw (bits-next b.values b.pairs (size_n b.code) j fit.inside h (frame_bits b)) at g.front));
            counts = subst (Column (frame_count b) b.values b.pairs (j + 1)) (sym (ap (λ (x : Lent). x.counts) e))
                (more (frame_count b) l.counts g.counts);
            rounds = subst (Column (frame_rounds b) b.values b.pairs (j + 1)) (sym (ap (λ (x : Lent). x.rounds) e))
                (more (frame_rounds b) l.rounds g.rounds);
            firsts = subst (Column (frame_first b) b.values b.pairs (j + 1)) (sym (ap (λ (x : Lent). x.firsts) e))
                (more (frame_first b) l.firsts g.firsts);
            area = ap (λ (x : Lent). x.work) e ∙ g.area;
            wide = wide ∙ g.wide;
          }

    -- after the last frame, the work area cleared
    pub going_done : length b.pairs ≤ j → {work : List Float} → work ≡ cleared l.work
        → lent l.bits l.counts l.rounds l.firsts work ≡ written b
    unfolding written
    going_done h e =
        let all : j ≡ length b.pairs = omega (arith, g.upto) in
        let many : length (frames b) ≤ j = simp length-map h in
        let end : j * k ≡ length b.pairs * k = ap (λ (i : ℕ). i * k) all in
        lent_are (bits-whole l.bits _ (j * k) (omega (arith, end, g.long, fit.bits)) (bits_end (frame_bits b) (frames b) j _ _ many g.front))
        (column-done _ _ _ _ _ h g.counts) (column-done _ _ _ _ _ h g.rounds) (column-done _ _ _ _ _ h g.firsts) (e ∙ g.area)
