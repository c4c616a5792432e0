-- A code's rows filled in, a fourth of them after another, are all its checks filled in: part after part. After a message they make its codeword.
-- Assumes nothing.
use mathlib.Core.Path.{◌≡◌}
use mathlib.Core.List.{List, ◌++◌}
use Prim.Native.Nat.{ℕ, ◌+◌}
use native.Mathlib.Omega.{arith}
use lib.ListN.{length, drop, length-drop}
use Rattle.construction.specs.Codes.{Code, block_length}
use Rattle.staircase.specs.Staircase.{encoded}
use Rattle.staircase.specs.Codes.{columns, checks}
use Rattle.staircase.proofs.EdgeCount.{columns-length}
use Rattle.staircase.specs.Shape.{stair_rows, stairs}
use Rattle.stair_parity.specs.Filling.{filled}
use Rattle.stair_parity.proofs.Filling.{fill_then}
use Rattle.parities.proofs.Codewords.{fill-all}

pub four_filled : (c : Code) (width n : ℕ) (table w u v x y : List ℕ) → stairs c.k width c.m table ≡ checks c → n + n + n + n ≡ c.m
    → u ≡ filled (stair_rows c.k width table 0 n) (c.k + 0) w → v ≡ filled (stair_rows c.k width table n n) (c.k + n) u
    → x ≡ filled (stair_rows c.k width table (n + n) n) (c.k + (n + n)) v
    → y ≡ filled (stair_rows c.k width table (n + n + n) n) (c.k + (n + n + n)) x → y ≡ filled (checks c) c.k w
four_filled c width n table w u v x y t m a b d e =
    let so_far = fill_then c.k width table 0 in
    let p : c.k + 0 ≡ c.k = omega arith in
    let all : y ≡ filled (stair_rows c.k width table 0 (n + n + n + n)) (c.k + 0) w =
    so_far (n + n + n) n (n + n + n) w x y (omega arith)
    (so_far (n + n) n (n + n) w v x (omega arith) (so_far n n n w u v (omega arith) a b) d) e in
    rw (m, p, t) at all

pub filled-after : (c : Code) (message codeword : List ℕ) → length message ≡ c.k → length codeword ≡ block_length c
    → filled (checks c) c.k (message ++ drop (length message) codeword) ≡ encoded c.m (columns c) message
unfolding checks
filled-after c message codeword p q =
    fill-all c.k (columns c) (omega (arith, columns-length c)) message p c.m (drop (length message) codeword) (simp length-drop (omega arith))
