-- Demand 3: the promise between two limits, for any two accepted calls that hold one frame. What a call leaves at a place is what the definition
-- gives for that frame's values alone, so the promise of a frame's decode carries over. Assumes nothing.
use mathlib.Core.Path.{◌≡◌, refl, sym, ap, subst, ◌∙◌}
use mathlib.Core.Bool.{Bool, true, false, cond}
use mathlib.Core.List.{List, [], ◌∷◌, map}
use Prim.Native.Nat.{ℕ, zero, suc, ◌+◌, ◌*◌, ◌<◌, min}
use native.Mathlib.Nat.{suc-mul, zero-mul}
use native.Mathlib.Omega.{arith}
use lib.Dec.{eqb, ltb}
use lib.Ieee.{Float}
use lib.ListN.{length, get_or, take, drop, length-map, length-drop}
use lib.Seq.{take_at, drop-append-add, length-take-le}
use Rattle.tanner.specs.Checks.{Word, count, first_unsatisfied}
use Rattle.tanner.specs.Flat.{joined}
use Rattle.lists.proofs.Parts.{map_at}
use Rattle.lists.specs.Below.{Below}
use Rattle.lists.proofs.Below.{below-take}
use Rattle.construction.specs.Codes.{Code, block_length}
use Rattle.staircase.specs.Codes.{code_of, columns, checks}
use Rattle.staircase.specs.Staircase.{encoded}
use Rattle.staircase.proofs.EdgeCount.{columns-length}
use Rattle.parities.proofs.Codewords.{count-encoded, zero-count-encoded}
use Rattle.codewords.proofs.PackedWords.{codewords}
use Rattle.refusal.specs.Outcome.{Outcome}
use Rattle.refusal.proofs.Judged.{verdict, nothing}
use Rattle.softmath.specs.declared.DecodeRule.{DecodeRule}
use Rattle.one_round.specs.Round.{Decode, answers, decided_from, decided, sent, initial_word, first_messages}
use Rattle.rounds.specs.Rounds.{words_from, round_words, better, chosen_from, chosen, chosen_count, chosen_first, chosen_bits, rounds_run}
use Rattle.one_round.proofs.BitWords.{initial_bits, initial_length, word_bits}
use Rattle.belief.proofs.Words.{chosen-first, count-falls, same_chosen}
use Rattle.belief.proofs.RoundsRun.{rounds-lesser, rounds-within}
use Rattle.batch.specs.Codes.{size_n, size_k, decode_by, encoding_by}
use Rattle.batch.specs.Pairs.{Pair, frame_of}
use Rattle.batch.specs.Calls.{Lent, Batch, Answered, room_of, refusals, frames, frame_bits, frame_count, frame_rounds, frame_first, written}
use Rattle.check_places.specs.Places.{place_of}
use Rattle.batch.specs.Promise.{Call, Accepted, reading, held, values_at, decode_at, count_at, rounds_at, first_at, bits_at, ByChosenWord, SameFrame, Promise}
use Rattle.batch.proofs.Pairs.{within_at}
use Rattle.batch.proofs.Sizes.{size_small}
use Rattle.batch.proofs.Whole.{all-inside, accepted-left}

-- ---- every word of a decode is a word of bits, one for each channel value

pub record Proper (n : ℕ) (w : Word) : Type 0 where
  pub long : length w ≡ n
  pub bits : Below 2 w

data AllProper (n : ℕ) : List Word → Type 0 where
  none : AllProper n []
  more : {w : Word} {ws : List Word} → Proper n w → AllProper n ws → AllProper n (w ∷ ws)

module _ (d : Decode) where
  decided-size : (ans : List Float) (p : ℕ) (l : List Float) → length (decided_from d ans p l) ≡ length l
  unfolding decided_from
  decided-size ans p [] = refl
  decided-size ans p (x ∷ l) = ap suc (decided-size ans (suc p) l)

  unless-proper : (t : Bool) {ws : List Word} → AllProper (length d.llr) ws → AllProper (length d.llr) (cond t [] ws)
  unless-proper true p = none
  unless-proper false p = p

  from-proper : (n : ℕ) (ms : List Float) → AllProper (length d.llr) (words_from d n ms)
  unfolding words_from
  from-proper zero ms = none
  from-proper (suc n) ms =
      let ans = answers d ms in
      more (record { long = decided-size ans 0 d.llr; bits = word_bits d ans })
      (unless-proper (eqb (count d.checks (decided d ans)) 0) (from-proper n (sent d ans)))

  better-proper : (t : Bool) {k w : Word} → Proper (length d.llr) k → Proper (length d.llr) w → Proper (length d.llr) (cond t w k)
  better-proper true p q = q
  better-proper false p q = p

  chosen-from-proper : (k : Word) {ws : List Word} → Proper (length d.llr) k → AllProper (length d.llr) ws
      → Proper (length d.llr) (chosen_from d.checks k ws)
  unfolding chosen_from
  chosen-from-proper k p none = p
  chosen-from-proper k p (more {w = w} q qs) =
      chosen-from-proper (better d.checks k w) (better-proper (ltb (count d.checks w) (count d.checks k)) p q) qs

  pub chosen-proper : (limit : ℕ) → Proper (length d.llr) (chosen d limit)
  unfolding chosen round_words
  chosen-proper limit =
      chosen-from-proper (initial_word d) (record { long = initial_length d; bits = initial_bits d })
      (unless-proper (eqb (count d.checks (initial_word d)) 0) (from-proper limit (first_messages d)))

-- ---- what the call gives at a place

-- of lists of one length, laid one after another, the one at place j
joined_at : (k : ℕ) (ls : List (List ℕ)) → ((i : ℕ) → i < length ls → length (get_or ls i []) ≡ k) → (j : ℕ) → j < length ls
    → take k (drop (j * k) (joined ls)) ≡ get_or ls j []
unfolding joined
joined_at k [] size j h = absurd (omega arith)
joined_at k (l ∷ ls) size zero h = rw zero-mul (take_at l (joined ls) k (size 0 (omega arith)))
joined_at k (l ∷ ls) size (suc j) h =
    let s : length l ≡ k = size 0 (omega arith) in
    let e : suc j * k ≡ length l + j * k = omega (arith, suc-mul j k) in
    rw (e, drop-append-add l (joined ls) (j * k)) (joined_at k ls (λ i q. size (suc i) (omega arith)) j (omega arith))

pub llr_is : (code : ℕ) (r : DecodeRule) (llr : List Float) → length (decode_by code r llr).llr ≡ length llr
unfolding decode_by
llr_is zero r llr = refl
llr_is (suc zero) r llr = refl
llr_is (suc (suc zero)) r llr = refl
llr_is (suc (suc (suc n))) r llr = refl

-- what an accepted call left is what is to be written
module _ (c : Call) (ok : Accepted c) where
  abbrev b : Batch
  b = c.handed

  pub agreed : verdict (refusals b) ≡ nothing
  agreed = sym c.answered.says ∙ ok

  pub left_is : c.left ≡ written b
  left_is = accepted-left b c.left (subst (λ (o : Outcome Unit). Answered b o c.left) ok c.answered)

  frame-size : (j : ℕ) → j < held c → length (values_at c j) ≡ size_n b.code
  unfolding values_at frame_of
  frame-size j h =
      let none-pair : Pair = record { offset = 0; size = 0 } in
      let p = within_at (all-inside b.code b.rule (length b.values) b.pairs (room_of b.memory) agreed) j none-pair h in
      let q = get_or b.pairs j none-pair in
      rw (map_at (frame_of b.values) b.pairs j none-pair [] h)
      (length-take-le q.size (drop q.offset b.values) (simp length-drop (omega (arith, p.1))) ∙ p.0)

  -- one number a frame
  column : (f : List Float → ℕ) (j : ℕ) → j < held c → get_or (map f (frames b)) j 0 ≡ f (values_at c j)
  unfolding values_at
  column f j h = map_at f (frames b) j [] 0 (simp length-map h)

  pub count-is : (j : ℕ) → j < held c → count_at c j ≡ chosen_count (decode_at c j) b.limit
  unfolding written
  count-is j h = ap (λ (l : Lent). get_or l.counts j 0) left_is ∙ column (frame_count b) j h

  pub rounds-are : (j : ℕ) → j < held c → rounds_at c j ≡ rounds_run (decode_at c j) b.limit
  unfolding written
  rounds-are j h = ap (λ (l : Lent). get_or l.rounds j 0) left_is ∙ column (frame_rounds b) j h

  first-is : (j : ℕ) → j < held c → first_at c j ≡ place_of (chosen_first (decode_at c j) b.limit)
  unfolding written
  first-is j h = ap (λ (l : Lent). get_or l.firsts j 0) left_is ∙ column (frame_first b) j h

  pub front-size : (j : ℕ) → j < held c → length (frame_bits b (values_at c j)) ≡ size_k b.code
  unfolding chosen_bits
  front-size j h =
      let p = chosen-proper (decode_at c j) b.limit in
      let n : length (decode_at c j).llr ≡ length (values_at c j) = llr_is b.code (reading c) (values_at c j) in
      length-take-le (size_k b.code) (chosen (decode_at c j) b.limit) (omega (arith, p.long, n, frame-size j h, (size_small b.code).front))

  pub bits_are : (j : ℕ) → j < held c → bits_at c j ≡ chosen_bits (decode_at c j) b.limit (size_k b.code)
  unfolding written values_at
  bits_are j h =
      let f = frame_bits b in
      let k = size_k b.code in
      let many : length (map f (frames b)) ≡ held c = length-map (frames b) f ∙ length-map b.pairs (frame_of b.values) in
      let at : (i : ℕ) → i < length (map f (frames b)) → get_or (map f (frames b)) i [] ≡ f (get_or (frames b) i []) =
      λ i q. map_at f (frames b) i [] [] (omega (arith, length-map (frames b) f)) in
      ap (λ (l : Lent). take k (drop (j * k) l.bits)) left_is
      ∙ joined_at k (map f (frames b)) (λ i q. ap length (at i q) ∙ front-size i (omega arith)) j (omega arith) ∙ at j (omega arith)

-- ---- the promise

-- a staircase code's word has count 0 exactly when it is the encoding of its front
module _ (c : Code) (w : Word) (p : Proper (block_length c) w) where
  zero-encoding : count (checks c) w ≡ 0 → w ≡ encoded c.m (columns c) (take c.k w)
  unfolding checks
  zero-encoding z = zero-count-encoded c.k c.m (columns c) (omega (arith, columns-length c)) w p.long p.bits z

  encoding-zero : w ≡ encoded c.m (columns c) (take c.k w) → count (checks c) w ≡ 0
  unfolding checks
  encoding-zero e =
      ap (count (checks c)) e
      ∙ count-encoded c.k c.m (columns c) (omega (arith, columns-length c)) (take c.k w) (length-take-le c.k w (omega (arith, p.long)))
      (below-take 2 c.k w p.bits)

-- and so has a word of each of the four codes
module _ (r : DecodeRule) (llr : List Float) (w : Word) where
  zero-encoded : (code : ℕ) → Proper (size_n code) w → count (decode_by code r llr).checks w ≡ 0 → w ≡ encoding_by code (take (size_k code) w)
  unfolding decode_by size_n size_k encoding_by
  zero-encoded zero p z = zero-encoding (code_of 0) w p z
  zero-encoded (suc zero) p z = zero-encoding (code_of 1) w p z
  zero-encoded (suc (suc zero)) p z = zero-encoding (code_of 2) w p z
  zero-encoded (suc (suc (suc n))) p z = codewords.encoding w (record { long = p.long; low = p.bits; zero = z })

  encoded-zero : (code : ℕ) → Proper (size_n code) w → w ≡ encoding_by code (take (size_k code) w) → count (decode_by code r llr).checks w ≡ 0
  unfolding decode_by size_n size_k encoding_by
  encoded-zero zero p e = encoding-zero (code_of 0) w p e
  encoded-zero (suc zero) p e = encoding-zero (code_of 1) w p e
  encoded-zero (suc (suc zero)) p e = encoding-zero (code_of 2) w p e
  encoded-zero (suc (suc (suc n))) p e = codewords.satisfied w p.long e

module _ (c : Call) (ok : Accepted c) (j : ℕ) (h : j < held c) where
  abbrev d : Decode
  d = decode_at c j

  abbrev w : Word
  w = chosen d c.handed.limit

  counted : count_at c j ≡ count d.checks w
  unfolding chosen_count
  counted = count-is c ok j h

  front : bits_at c j ≡ take (size_k c.handed.code) w
  unfolding chosen_bits
  front = bits_are c ok j h

  lowest : first_at c j ≡ place_of (first_unsatisfied d.checks w)
  unfolding chosen_first
  lowest = first-is c ok j h

  proper : Proper (size_n c.handed.code) w
  proper =
      let b = c.handed in
      let p = chosen-proper d b.limit in
      record { long = p.long ∙ llr_is b.code (reading c) (values_at c j) ∙ frame-size c ok j h; bits = p.bits }

  -- what is left of its bits is K bits
  pub bits-proper : Proper (size_k c.handed.code) (bits_at c j)
  bits-proper =
      let k = size_k c.handed.code in
      record {
        long = ap length front ∙ length-take-le k w (omega (arith, proper.long, (size_small c.handed.code).front));
        bits = subst (Below 2) (sym front) (below-take 2 k w proper.bits);
      }

  by-chosen-word : ByChosenWord c j
  by-chosen-word =
      let b = c.handed in
      let encode = encoding_by b.code in
      record {
        word = w;
        chosen = chosen-first d b.limit;
        its_count = counted;
        its_first = lowest;
        its_bits = front;
        encoding = λ z. zero-encoded (reading c) (values_at c j) w b.code proper (sym counted ∙ z) ∙ ap encode (sym front);
        satisfied = λ e. counted ∙ encoded-zero (reading c) (values_at c j) w b.code proper (e ∙ ap encode front);
      }

-- Demand 3, whole: of what any two accepted calls left.
module _ (a b : Call) (i j : ℕ) (s : SameFrame a b i j) where
  same : decode_at a i ≡ decode_at b j
  same =
      ap (λ (c : ℕ). decode_by c (reading a) (values_at a i)) s.code
      ∙ ap (λ (r : DecodeRule). decode_by b.handed.code r (values_at a i)) s.rule
      ∙ ap (decode_by b.handed.code (reading b)) s.frame

  abbrev A : ℕ
  A = a.handed.limit

  abbrev B : ℕ
  B = b.handed.limit

  -- what each left, of the one decode
  count_a : count_at a i ≡ chosen_count (decode_at b j) A
  count_a = count-is a s.accepted_a i s.place_a ∙ ap (λ (x : Decode). chosen_count x A) same

  count_b : count_at b j ≡ chosen_count (decode_at b j) B
  count_b = count-is b s.accepted_b j s.place_b

  rounds_a : rounds_at a i ≡ rounds_run (decode_at b j) A
  rounds_a = rounds-are a s.accepted_a i s.place_a ∙ ap (λ (x : Decode). rounds_run x A) same

  rounds_b : rounds_at b j ≡ rounds_run (decode_at b j) B
  rounds_b = rounds-are b s.accepted_b j s.place_b

  first_a : first_at a i ≡ place_of (chosen_first (decode_at b j) A)
  first_a = first-is a s.accepted_a i s.place_a ∙ ap (λ (x : Decode). place_of (chosen_first x A)) same

  bits_a : bits_at a i ≡ take (size_k b.handed.code) (chosen (decode_at b j) A)
  unfolding chosen_bits
  bits_a =
      bits_are a s.accepted_a i s.place_a
      ∙ ap (λ (x : Decode). take (size_k a.handed.code) (chosen x A)) same
      ∙ ap (λ (c : ℕ). take (size_k c) (chosen (decode_at b j) A)) s.code

  -- equal counts: one chosen word
  one_word : count_at a i ≡ count_at b j → chosen (decode_at b j) A ≡ chosen (decode_at b j) B
  one_word e = sym (same_chosen (decode_at b j) A B s.limits (sym count_b ∙ sym e ∙ count_a))

  pub promise : Promise a b i j
  unfolding chosen_bits chosen_first
  promise =
      let k = size_k b.handed.code in
      let lesser = rounds-lesser (decode_at b j) A B s.limits in
      record {
        no_greater = omega (arith, count_a, count_b, count-falls (decode_at b j) A B s.limits);
        equal_bits = λ e. bits_a ∙ ap (take k) (one_word e) ∙ sym (bits_are b s.accepted_b j s.place_b);
        equal_first = λ e.
            first_a ∙ ap (λ (w : Word). place_of (first_unsatisfied (decode_at b j).checks w)) (one_word e) ∙ sym (first-is b s.accepted_b j s.place_b);
        lesser_rounds = rounds_a ∙ lesser ∙ ap (min A) (sym rounds_b);
        rounds_within_a = omega (arith, rounds_a, rounds-within (decode_at b j) A);
        rounds_within_b = omega (arith, rounds_b, rounds-within (decode_at b j) B);
        chosen_a = by-chosen-word a s.accepted_a i s.place_a;
        chosen_b = by-chosen-word b s.accepted_b j s.place_b;
      }
