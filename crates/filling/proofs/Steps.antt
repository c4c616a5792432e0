-- One turn of each loop of the filling of erasures, and what holds when the loop ends. Assumes nothing.
use mathlib.Core.Path.{◌≡◌, refl, sym, ap, ◌∙◌}
use mathlib.Core.Bool.{Bool, true, false}
use mathlib.Core.List.{List, [], ◌∷◌, ◌++◌, append_assoc, append-nil}
use Prim.Native.Nat.{ℕ, zero, suc, ◌+◌, ◌-◌, ◌%◌, ◌<◌, ◌≤◌}
use native.Mathlib.Numerals.{add-one}
use native.Mathlib.Omega.{arith}
use borrow.Author.Tests.{eq-eqb, ne_eqb, lt-ltb, le-ltb}
use lib.Bits.{bit_xor, xor_add_and}
use lib.ListN.{length, get_or, set, take, drop, length-set, drop_of_length-le, take-append-drop}
use lib.Seq.{drop-cons, drop-drop, drop-set-lt, take-suc-set, length-take-le}
use Rattle.tanner.specs.Checks.{Word, Checks, parity}
use Rattle.tanner.specs.Flat.{rows_from}
use Rattle.tanner.proofs.Count.{parity_bit}
use Rattle.tanner.proofs.Steps.{rows_more, rows_done}
use Rattle.filling.specs.Filling.{unknowns, Setting, none, at, setting_of, setting_in, lowest, fill_by, filled, filled_word, filled_places, listed}
use Rattle.filling.specs.Calls.{above_two}
use Rattle.filling.proofs.Settings.{setting_parity}

-- ---- the search for a byte above 2

module _ (w : Word) (i : ℕ) {b : Bool} (inv : above_two (drop i w) ≡ b) where
  pub above-found : i < length w → 2 < get_or w i 0 → true ≡ b
  unfolding above_two
  above-found h l = rw (drop-cons w i 0 h, lt-ltb 2 (get_or w i 0) l) at inv

  pub above_more : i < length w → get_or w i 0 ≤ 2 → above_two (drop (i + 1) w) ≡ b
  unfolding above_two
  above_more h l = rw add-one (rw (drop-cons w i 0 h, le-ltb 2 (get_or w i 0) l) at inv)

  pub above-done : length w ≤ i → false ≡ b
  unfolding above_two
  above-done h = rw (drop_of_length-le w h) at inv

-- ---- one check

-- what is set where n unknowns are passed, a the last of them, and us are to come
unfoldable pub noted : List ℕ → Word → ℕ → ℕ → List ℕ → Setting
noted c w zero a us = setting_of c w us
noted c w (suc zero) a us = setting_of c w (a ∷ us)
noted c w (suc (suc n)) a us = none

noted_more : (c : List ℕ) (w : Word) (n a p : ℕ) (us : List ℕ) → noted c w n a (p ∷ us) ≡ noted c w (suc n) p us
unfolding noted
noted_more c w zero a p us = refl
noted_more c w (suc zero) a p us = refl
noted_more c w (suc (suc n)) a p us = refl

-- the first i positions of a check are passed: n unknowns, a the last of them, and the bytes XORed
pub record Scanned (c : List ℕ) (w : Word) (i n a odd : ℕ) : Type 0 where
  pub few : n ≤ i
  pub found : noted c w n a (unknowns (drop i c) w) ≡ setting_in c w
  pub even : (odd + parity (drop i c) w) % 2 ≡ parity c w

pub scan_start : (c : List ℕ) (w : Word) → Scanned c w 0 0 0 0
unfolding noted setting_in
scan_start c w = record { few = omega arith; found = refl; even = omega (arith, parity_bit c w) }

module _ (c : List ℕ) (w : Word) (i n a odd : ℕ) (h : i < length c) (s : Scanned c w i n a odd) where
  scan-parity : (bit_xor odd (get_or w (get_or c i 0) 0) + parity (drop (i + 1) c) w) % 2 ≡ parity c w
  unfolding parity
  scan-parity =
      let b = get_or w (get_or c i 0) 0 in
      let q = parity (drop (i + 1) c) w in
      let turn : (odd + (b + q) % 2) % 2 ≡ parity c w = rw add-one (rw (drop-cons c i 0 h) at s.even) in
      omega (arith, turn, xor_add_and odd b)

  pub scan-unknown : get_or w (get_or c i 0) 0 ≡ 2 → Scanned c w (i + 1) (n + 1) (get_or c i 0) (bit_xor odd (get_or w (get_or c i 0) 0))
  unfolding unknowns
  scan-unknown e = record {
    few = omega (arith, s.few);
    found =
        rw (add-one i, add-one n, ← noted_more c w n a (get_or c i 0) (unknowns (drop (suc i) c) w))
        (rw (drop-cons c i 0 h, eq-eqb (get_or w (get_or c i 0) 0) 2 e) at s.found);
    even = scan-parity;
  }

  pub scan-known : (get_or w (get_or c i 0) 0 ≡ 2 → ⊥) → Scanned c w (i + 1) n a (bit_xor odd (get_or w (get_or c i 0) 0))
  unfolding unknowns
  scan-known e = record {
    few = omega (arith, s.few);
    found = rw add-one (rw (drop-cons c i 0 h, ne_eqb (get_or w (get_or c i 0) 0) 2 e) at s.found);
    even = scan-parity;
  }

module _ (c : List ℕ) (w : Word) (i n a odd : ℕ) (h : length c ≤ i) (s : Scanned c w i n a odd) where
  scan-all : noted c w n a [] ≡ setting_in c w
  unfolding unknowns
  scan-all = rw (drop_of_length-le c h) at s.found

  scan-odd : odd % 2 ≡ parity c w
  unfolding parity
  scan-odd = omega (arith, rw (drop_of_length-le c h) at s.even)

  pub scan-one : n ≡ 1 → at a (odd % 2) ≡ setting_in c w
  unfolding noted
  scan-one e =
      let all = rw e at scan-all in
      ap (at a) (scan-odd ∙ sym (setting_parity c w a _ (sym all))) ∙ all

  pub scan-none : (n ≡ 1 → ⊥) → none ≡ setting_in c w
  unfolding noted
  scan-none e = by n e scan-all
    where
      by : (m : ℕ) → (m ≡ 1 → ⊥) → noted c w m a [] ≡ setting_in c w → none ≡ setting_in c w
      by zero e f = f
      by (suc zero) e f = absurd (e refl)
      by (suc (suc m)) e f = f

-- ---- the lowest-numbered check

module _ (s f : List ℕ) (w : Word) (c : ℕ) {z : Setting} (inv : lowest (rows_from s c f) w ≡ z) where
  pub lowest-found : {x : Setting} (p b : ℕ) → c + 1 < length s → x ≡ setting_in (take (get_or s (c + 1) 0 - get_or s c 0) (drop (get_or s c 0) f)) w
      → x ≡ at p b → at p b ≡ z
  unfolding lowest
  lowest-found p b h e t = rw (rows_more s f c h, sym e ∙ t) at inv

  pub lowest-more : {x : Setting} → c + 1 < length s → x ≡ setting_in (take (get_or s (c + 1) 0 - get_or s c 0) (drop (get_or s c 0) f)) w → x ≡ none
      → lowest (rows_from s (c + 1) f) w ≡ z
  unfolding lowest
  lowest-more h e t = rw (rows_more s f c h, sym e ∙ t) at inv

  pub lowest-done : length s ≤ c + 1 → none ≡ z
  unfolding lowest
  lowest-done h = rw (rows_done s f c h) at inv

-- ---- one setting after another

-- n bits of w₀ are set, which gave w, and their positions stand at the front of the list
pub record Going (cs : Checks) (w₀ : Word) (l₀ : List ℕ) (n : ℕ) (w : Word) (l : List ℕ) : Type 0 where
  pub long : length w ≡ length w₀
  pub room : length l ≡ length l₀
  pub within : n ≤ length l₀
  pub word : (fill_by (length l₀ - n) cs (lowest cs w) w).word ≡ filled_word cs w₀
  pub places : take n l ++ (fill_by (length l₀ - n) cs (lowest cs w) w).places ≡ filled_places cs w₀
  pub rest : drop n l ≡ drop n l₀

-- what the loop leaves
pub record Ended (cs : Checks) (w₀ : Word) (l₀ : List ℕ) (n : ℕ) (w : Word) (l : List ℕ) : Type 0 where
  pub many : n ≡ length (filled_places cs w₀)
  pub word : w ≡ filled_word cs w₀
  pub places : l ≡ listed (filled_places cs w₀) l₀

pub going_start : (cs : Checks) (w : Word) (l : List ℕ) → length l ≡ length w → Going cs w l 0 w l
unfolding filled_word filled_places filled
going_start cs w l e =
    let all : length l - 0 ≡ length w = omega arith in
    record { long = refl; room = refl; within = omega arith; word = rw all; places = rw all; rest = refl }

module _ (cs : Checks) (w₀ : Word) (l₀ : List ℕ) (n : ℕ) (w : Word) (l : List ℕ) (g : Going cs w₀ l₀ n w l) where
  pub going_more : (p b : ℕ) → n < length l → lowest cs w ≡ at p b → Going cs w₀ l₀ (n + 1) (set w p b) (set l n p)
  unfolding fill_by
  going_more p b h e =
      let left : length l₀ - n ≡ suc (length l₀ - (n + 1)) = omega (arith, g.room) in
      let tail : drop (n + 1) l ≡ drop (n + 1) l₀ = sym (drop-drop 1 n l) ∙ ap (drop 1) g.rest ∙ drop-drop 1 n l₀ in
      record {
        long = length-set w p b ∙ g.long;
        room = length-set l n p ∙ g.room;
        within = omega (arith, g.room);
        word = rw (left, e) at g.word;
        places = rw (add-one n, take-suc-set l n p h, append_assoc) (rw (left, e, add-one) at g.places);
        rest = drop-set-lt (n + 1) l n p (omega arith) ∙ tail;
      }

  ended : fill_by (length l₀ - n) cs (lowest cs w) w ≡ record { word = w; places = [] } → Ended cs w₀ l₀ n w l
  ended e =
      let front : take n l ≡ filled_places cs w₀ = rw (e, append-nil) at g.places in
      let many : n ≡ length (filled_places cs w₀) = sym (length-take-le n l (omega (arith, g.room, g.within))) ∙ ap length front in
      record {
        many = many;
        word = rw e at g.word;
        places = sym (take-append-drop n l) ∙ rw (front, g.rest, many);
      }

  no_more : (k : ℕ) → fill_by k cs none w ≡ record { word = w; places = [] }
  unfolding fill_by
  no_more zero = refl
  no_more (suc k) = refl

  pub going-none : lowest cs w ≡ none → Ended cs w₀ l₀ n w l
  going-none e = ended (rw e (no_more (length l₀ - n)))

  pub going-full : length l ≤ n → Ended cs w₀ l₀ n w l
  unfolding fill_by
  going-full h = let out : length l₀ - n ≡ 0 = omega (arith, g.room) in ended (rw out)
