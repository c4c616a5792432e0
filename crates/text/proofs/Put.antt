-- Texts put into a buffer one after the other are one text: by splitting the buffer at the places. Assumes nothing.
use mathlib.Core.Path.{◌≡◌, refl, sym, ap, ◌∙◌}
use mathlib.Core.List.{List, [], ◌∷◌, ◌++◌, append_assoc}
use Prim.Native.Nat.{ℕ, ◌+◌, ◌-◌, ◌≤◌, ◌<◌}
use native.Mathlib.Nat.{add-zero, add_assoc}
use native.Mathlib.Numerals.{add-one}
use native.Mathlib.Omega.{arith}
use lib.ListN.{length, take, drop, set, length-append, length-drop, take-append-drop}
use lib.Seq.{length-take-le, set_split, take_at, drop-append-add, drop-drop}
use borrow.Rule.Slice.PartMut.{put_mid}
use Rattle.text.specs.Written.{put, Written}

pub put_nil : (out : List ℕ) (at : ℕ) → put out at [] ≡ out
unfolding put
put_nil out at = rw (add-zero at) (take-append-drop at out)

pub put_one : (out : List ℕ) (at b : ℕ) → at < length out → set out at b ≡ put out at (b ∷ [])
unfolding put
put_one out at b h = rw (add-one at) (set_split out at b h)

drop_past : (p q : List ℕ) (n k : ℕ) → length p ≡ n → drop (n + k) (p ++ q) ≡ drop k q
drop_past p q n k e = ap (λ (m : ℕ). drop (m + k) (p ++ q)) (sym e) ∙ drop-append-add p q k

module _ (out : List ℕ) (at : ℕ) (s : List ℕ) (room : at + length s ≤ length out) where
  front_length : length (take at out ++ s) ≡ at + length s
  front_length = rw (length-append, length-take-le at out (omega arith))

  pub put-length : length (put out at s) ≡ length out
  unfolding put
  put-length = simp (length-append, length-drop, length-take-le at out (omega arith)) (omega arith)

  pub put-put : (t : List ℕ) → put (put out at s) (at + length s) t ≡ put out at (s ++ t)
  unfolding put
  put-put t =
      let split : take at out ++ (s ++ drop (at + length s) out) ≡ (take at out ++ s) ++ drop (at + length s) out =
      sym (append_assoc (take at out) s (drop (at + length s) out)) in
      let more : drop (at + length s + length t) ((take at out ++ s) ++ drop (at + length s) out) ≡ drop (at + length s + length t) out
      = drop_past (take at out ++ s) (drop (at + length s) out) (at + length s) (length t) front_length ∙ drop-drop (length t) (at + length s) out in
      rw (
        split,
        take_at (take at out ++ s) (drop (at + length s) out) (at + length s) front_length,
        more,
        length-append s t,
        ← add_assoc at (length s)
            (length t),
        append_assoc,
        append_assoc,
      )

-- ---- writers, one after the other

module _ {out : List ℕ} {at : ℕ} {s : List ℕ} {after : List ℕ} {next : ℕ} where
  pub then : {t : List ℕ} {last : List ℕ} {end : ℕ} → Written out at s after next → at + length s ≤ length out → Written after next t last end
      → Written out at (s ++ t) last end
  then {t} {last} {end} w room v = record { bytes = bytes; end = ends }
    where
      bytes : last ≡ put out at (s ++ t)
      bytes = v.bytes ∙ rw (w.bytes, w.end, put-put out at s room t)

      ends : end ≡ at + length (s ++ t)
      ends = rw (length-append s t) (omega arith)

-- nothing written
pub nothing : (out : List ℕ) (at : ℕ) → Written out at [] out at
nothing out at = record { bytes = sym (put_nil out at); end = sym (add-zero at) }

pub one : (out : List ℕ) (at b : ℕ) → at < length out → Written out at (b ∷ []) (set out at b) (at + 1)
one out at b h = record { bytes = put_one out at b h; end = refl }

-- what stands after a copy over the text's bytes
pub copied : (out : List ℕ) (at : ℕ) (text part : List ℕ) → part ≡ text
    → Written out at text (put_mid at (at + length text - at) out part) (at + length text)
unfolding put
copied out at text part e =
    let size : at + length text - at ≡ length text = omega arith in
    record { bytes = rw (e, size, drop-drop (length text) at out); end = refl }

-- ---- a loop of writers: what is left to write

-- with `rest` put where the loop stands, the buffer holds the whole text
pub record Left (out : List ℕ) (at : ℕ) (text now : List ℕ) (next : ℕ) (rest : List ℕ) : Type 0 where
  pub bytes : put now next rest ≡ put out at text
  pub end : next + length rest ≡ at + length text
  pub size : length now ≡ length out

module _ (out : List ℕ) (at : ℕ) (text : List ℕ) where
  pub left-all : Left out at text out at text
  left-all = record { bytes = refl; end = refl; size = refl }

  pub left_less : (now : List ℕ) (next : ℕ) (s rest after : List ℕ) (place : ℕ) → at + length text ≤ length out → Left out at text now next (s ++ rest)
      → Written now next s after place → Left out at text after place rest
  left_less now next s rest after place room l w = record { bytes = bytes; end = ends; size = size }
    where
      lengths : next + (length s + length rest) ≡ at + length text
      lengths = rw (length-append s rest) at l.end

      fits : next + length s ≤ length now
      fits = omega (arith, lengths, l.size, room)

      bytes : put after place rest ≡ put out at text
      bytes = rw (w.bytes, w.end, put-put now next s fits rest) l.bytes

      ends : place + length rest ≡ at + length text
      ends = omega (arith, lengths, w.end)

      size : length after ≡ length out
      size = rw (w.bytes, put-length now next s fits) l.size

  pub left-none : (now : List ℕ) (next : ℕ) → Left out at text now next [] → Written out at text now next
  left-none now next l = record { bytes = sym (put_nil now next) ∙ l.bytes; end = omega (arith, l.end) }

-- ---- the room that is left after a writer

pub room-left : (out : List ℕ) (at : ℕ) (s after : List ℕ) (next rest : ℕ) → Written out at s after next → at + (length s + rest) ≤ length out
    → next + rest ≤ length after
room-left out at s after next rest w h =
    let size : length after ≡ length out = rw w.bytes (put-length out at s (omega arith)) in
    omega (arith, size, w.end)
