-- One turn of the round loop: what is kept is of the chosen word so far, the choice among the words still ahead is the choice among all, and the rounds
-- run with those ahead are all. Assumes nothing.
use Rattle.std.proofs.Common.{Option}
use mathlib.Core.Path.{◌≡◌, sym, ap, ap₂, subst, ◌∙◌}
use mathlib.Core.Bool.{true, false}
use mathlib.Core.List.{List}
use Prim.Native.Nat.{ℕ, suc, ◌+◌, ◌<◌, ◌≤◌}
use native.Mathlib.Omega.{arith}
use borrow.Author.Tests.{lt-ltb, le-ltb, eq-eqb, ne_eqb}
use lib.Dec.{eqb, ltb}
use lib.Ieee.{Float}
use lib.ListN.{length, take}
use Rattle.tanner.specs.Checks.{Checks, Word, count, Syndrome, syndrome}
use Rattle.tanner.specs.Masked.{count_masked, first_masked, syndrome_masked}
use Rattle.tanner.specs.Found.{first_of, syndrome_of}
use Rattle.lists.specs.Below.{Below}
use Rattle.tanner.proofs.First.{both}
use Rattle.tanner.specs.declared.Counted.{Counted}
use Rattle.one_round.specs.Round.{Decode, answers, sent, first_messages, initial_word}
use Rattle.rounds.specs.Rounds.{words_from, round_words}
use Rattle.rounds.specs.Rounds.{rounds_run, unless_done, better, chosen_from, chosen, chosen_count, chosen_first, chosen_bits}
use Rattle.rounds.specs.Told.{Told, Chose}
use Rattle.one_round.specs.Held.{Holds, RoundDone}
use Rattle.rounds.specs.Run.{Kept, Ran, counted_of}
use Rattle.rounds.specs.declared.Decoded.{Decoded}
use Rattle.one_round.proofs.BitWords.{word_bits, masked_word}

-- with `left` rounds to go, after `done` of them: the messages that the work area holds, the kept word, that the choice from here is the goal, and that the
-- rounds are `all`
pub record Running (d : Decode) (m g k left : ℕ) (work : List Float) (bits : List ℕ) (kept : Counted) (done : ℕ) (goal : Word) (all : ℕ) : Type 0 where
  pub ms : List Float
  pub holds : Holds d.checks m g work ms
  pub word : Word
  pub held : Kept d.checks k word bits kept
  pub ahead : chosen_from d.checks word (words_from d left ms) ≡ goal
  pub run : done + length (words_from d left ms) ≡ all

count_of : (cs : Checks) (k : ℕ) (word : Word) (bits : List ℕ) (kept : Counted) → Kept cs k word bits kept → kept.count ≡ count cs word
count_of cs k word bits kept h = ap (λ (s : Syndrome). s.count) h.counted

-- ---- the word of a round, kept or not

-- what the round counts is what the mask counts, and so is what is found then
module _ (d : Decode) (m g : ℕ) (ms next : List Float) (w : Word) (found : ℕ) (r : RoundDone d m g ms next w found) where
  masked : syndrome_masked 1 d.checks w ≡ syndrome d.checks w
  masked = masked_word d.checks w (subst (λ (v : Word). Below 2 v) (sym r.decision) (word_bits d _))

  pub round-masked : found ≡ count_masked 1 d.checks w
  round-masked = r.counted ∙ sym (ap (λ (s : Syndrome). s.count) masked)

  pub round-found : (lowest : Option ℕ) → first_of lowest ≡ first_masked 1 d.checks w
      → syndrome_of (record { count = found; first = lowest }) ≡ syndrome d.checks w
  round-found lowest f = ap₂ both round-masked f ∙ masked

module _ (cs : Checks) (k : ℕ) (word w : Word) (bits bits' : List ℕ) (kept kept' : Counted) (found : ℕ) (h : Kept cs k word bits kept)
    (c : found ≡ count cs w) where
  pub kept-better : found < kept.count → bits' ≡ take k w → syndrome_of kept' ≡ syndrome cs w → Kept cs k (better cs word w) bits' kept'
  kept-better l e f =
      let t : ltb (count cs w) (count cs word) ≡ true = lt-ltb (count cs w) (count cs word) (omega (arith, count_of cs k word bits kept h)) in
      rw t (record { front = e; counted = f })

  pub kept_same : kept.count ≤ found → bits' ≡ bits → kept' ≡ kept → Kept cs k (better cs word w) bits' kept'
  kept_same l e f =
      let t : ltb (count cs w) (count cs word) ≡ false = le-ltb (count cs w) (count cs word) (omega (arith, count_of cs k word bits kept h)) in
      rw (t, f) (record { front = e ∙ h.front; counted = h.counted })

-- ---- a turn

module _ (d : Decode) (m g k left : ℕ) (work next : List Float) (w : Word) (bits bits' : List ℕ) (kept kept' : Counted) (found done : ℕ) (goal : Word) (all : ℕ)
    (s : Running d m g k (suc left) work bits kept done goal all) (r : RoundDone d m g s.ms next w found)
    (b : Kept d.checks k (better d.checks s.word w) bits' kept') where
  -- the round's word is next
  abbrev after : List Float
  after = sent d (answers d s.ms)

  opened : chosen_from d.checks (better d.checks s.word w) (unless_done d w (words_from d left after)) ≡ goal
  unfolding words_from chosen_from
  opened = rw r.decision s.ahead

  counted-off : done + suc (length (unless_done d w (words_from d left after))) ≡ all
  unfolding words_from
  counted-off = rw r.decision s.run

  pub round-on : (found ≡ 0 → ⊥) → Running d m g k left next bits' kept' (done + 1) goal all
  round-on n =
      let t : eqb (count d.checks w) 0 ≡ false = ne_eqb (count d.checks w) 0 (λ e. n (r.counted ∙ e)) in
      record {
        ms = after;
        holds = r.messages;
        word = better d.checks s.word w;
        held = b;
        ahead = rw t at opened;
        run = omega (arith, rw t at counted-off);
      }

  pub round-out : found ≡ 0 → Kept d.checks k goal bits' kept' × (done + 1 ≡ all)
  unfolding chosen_from
  round-out e =
      let t : eqb (count d.checks w) 0 ≡ true = eq-eqb (count d.checks w) 0 (sym r.counted ∙ e) in
      (subst (λ (v : Word). Kept d.checks k v bits' kept') (rw t at opened) b, omega (arith, rw t at counted-off))

pub rounds_out : (d : Decode) (m g k : ℕ) (work : List Float) (bits : List ℕ) (kept : Counted) (done : ℕ) (goal : Word) (all : ℕ)
    → Running d m g k 0 work bits kept done goal all → Kept d.checks k goal bits kept × (done ≡ all)
unfolding words_from chosen_from
rounds_out d m g k work bits kept done goal all s = (subst (λ (v : Word). Kept d.checks k v bits kept) s.ahead s.held, omega (arith, s.run))

-- ---- the whole decode: no round where the initial word satisfies every check

abbrev tell : Syndrome → ℕ → Told
tell s n = record { count = s.count; rounds = n; first = s.first }

-- what is kept of the chosen word after these rounds is what the decode tells
chose : (d : Decode) (k limit : ℕ) (bits : List ℕ) (r : Decoded) → Kept d.checks k (chosen d limit) bits (counted_of r) → r.rounds ≡ rounds_run d limit
    → Chose d limit k r bits
unfolding chosen_count chosen_first chosen_bits
chose d k limit bits r h n = record { tells = ap₂ tell h.counted n; front = h.front }

module _ (d : Decode) (k limit : ℕ) (bits : List ℕ) (r : Decoded) where
  pub none-run : r.count ≡ 0 → Kept d.checks k (initial_word d) bits (counted_of r) → r.rounds ≡ 0 → Chose d limit k r bits
  unfolding chosen round_words rounds_run chosen_from
  none-run e h n =
      let t : eqb (count d.checks (initial_word d)) 0 ≡ true =
      eq-eqb (count d.checks (initial_word d)) 0 (sym (count_of d.checks k (initial_word d) bits (counted_of r) h) ∙ e)
      in
      chose d k limit bits r (rw t h) (rw t n)

  pub some-run : (before : ℕ) → (before ≡ 0 → ⊥) → before ≡ count d.checks (initial_word d) → Ran d k limit (initial_word d) (first_messages d) bits r
      → Chose d limit k r bits
  unfolding chosen round_words rounds_run
  some-run before n e h =
      let t : eqb (count d.checks (initial_word d)) 0 ≡ false = ne_eqb (count d.checks (initial_word d)) 0 (λ z. n (e ∙ z)) in
      chose d k limit bits r (rw t h.kept) (rw t h.rounds)
