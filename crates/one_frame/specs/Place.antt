-- The memory lent to a batch, and one frame decoded to its place there.
use Rattle.std.specs.Prelude.{List, ◌++◌, ℕ, ◌+◌, ◌*◌, ◌<◌, ◌≤◌, Float, length, take, drop, set}
use Rattle.one_round.specs.Round.{Decode}
use Rattle.rounds.specs.Rounds.{rounds_run, chosen_count, chosen_first, chosen_bits}
use Rattle.work_area.specs.Area.{cleared}
use Rattle.check_places.specs.Places.{place_of}
use Rattle.one_frame.specs.Codes.{size_n, size_k}

-- the memory lent to the call: a frame's bits, its count, its rounds run (change request N1), its first unsatisfied check (N8), and the work area
pub record Lent : Type 0 where
  pub bits : List ℕ
  pub counts : List ℕ
  pub rounds : List ℕ
  pub firsts : List ℕ
  pub work : List Float

abbrev pub lent : List ℕ → List ℕ → List ℕ → List ℕ → List Float → Lent
lent bits counts rounds firsts work = record { bits = bits; counts = counts; rounds = rounds; firsts = firsts; work = work }

-- a frame from an offset on lies within the values, and there is a place j for it
pub record PlaceFits (code offset j : ℕ) (values : List Float) (l : Lent) : Type 0 where
  pub known : code < 4
  pub inside : offset + size_n code ≤ length values
  pub bits : j * size_k code + size_k code ≤ length l.bits
  pub counts : j < length l.counts
  pub rounds : j < length l.rounds
  pub firsts : j < length l.firsts
  pub area : 3070 ≤ length l.work

-- the memory once a frame of k message bits is decoded to place j and the work area is cleared
unfoldable pub placed : Decode → ℕ → ℕ → ℕ → Lent → Lent
placed d limit k j l = record {
  bits = take (j * k) l.bits ++ (chosen_bits d limit k ++ drop (j * k + k) l.bits);
  counts = set l.counts j (chosen_count d limit);
  rounds = set l.rounds j (rounds_run d limit);
  firsts = set l.firsts j (place_of (chosen_first d limit));
  work = cleared l.work;
}
