-- The tables of each code hold its checks, laid flat, and none has more than 11 positions: by one computed test over each table of starts. Assumes nothing.
use mathlib.Core.Path.{◌≡◌, refl, sym, ap, subst, ◌∙◌}
use mathlib.Core.Bool.{true}
use mathlib.Core.List.{List, []}
use Prim.Native.Nat.{ℕ, zero, suc, ◌+◌, ◌-◌, ◌<◌, ◌≤◌}
use native.Mathlib.Decide.{dec_lt}
use native.Mathlib.Omega.{arith}
use borrow.Author.Tests.{leb-true}
use lib.Dec.{leb}
use lib.ListN.{length, get_or, take, drop, length-take, get_or-eq_default}
use Rattle.construction.specs.Codes.{Code, block_length, n512r12, n576r23, n512r34}
use Rattle.tanner.specs.Checks.{Word, Checks}
use Rattle.tanner.specs.Flat.{joined, offsets, rows_of, FlatChecks}
use Rattle.tanner.proofs.Flat.{rows_laid, row_at, offsets-length}
use Rattle.staircase.specs.Codes.{checks}
use Rattle.staircase.proofs.Laid.{check-bits-right, check-starts-right}
use Rattle.n512r12.proofs.Tables.{check_starts0, check_bits0, laid0}
use Rattle.n576r23.proofs.Tables.{check_starts1, check_bits1, laid1}
use Rattle.n512r34.proofs.Tables.{check_starts2, check_bits2, laid2}
use Rattle.staircase.proofs.Positions.{checks_many}
use Rattle.ldpc_codes.proofs.Laid.{laid_flat}
use Rattle.code174.specs.Code174 as code174
use Rattle.code174.specs.Agreement.{each}
use Rattle.code174.proofs.Tests.{each_at}
use Rattle.code174.proofs.Arrays.{check_start, check_bits}
use Rattle.code174.proofs.Graph.{check-start, flat, laid, many}
use Rattle.text.specs.Written.{Written}
use Rattle.first_reason.specs.declared.Reason.{Reason}
use Rattle.numbered.specs.Codes.{size_n, checks_by}
use Rattle.reason_lines.specs.Lines.{check_line, reason_line}
use Rattle.reason_lines.proofs.Lengths.{Short, check-short, reason-short}

-- ---- no check is long

module _ (rs : Checks) (starts : List ℕ) (s : starts ≡ offsets rs) where
  abbrev gap : ℕ → ℕ
  gap c = get_or starts (c + 1) 0 - get_or starts c 0

  row-length : (c : ℕ) → c < length rs → length (get_or rs c []) ≤ gap c
  row-length c h =
      let part = drop (get_or starts c 0) (joined rs) in
      let row : take (gap c) part ≡ get_or rs c [] = rw s (row_at rs c h) in
      omega (arith, ap length row, length-take (gap c) part)

  short_by : (n : ℕ) → length rs ≡ n → each n (λ c. leb (gap c) 11) ≡ true → Short rs
  short_by n e t c = by (dec_lt c n)
    where
      by : Dec (c < n) → length (get_or rs c []) ≤ 11
      by (yes h) = omega (arith, row-length c (omega arith), leb-true (gap c) 11 (each_at n (λ (k : ℕ). leb (gap k) 11) t c h))
      by (no h) = let none : get_or rs c [] ≡ [] = get_or-eq_default rs [] (omega arith) in rw none (omega arith)

-- ---- the tables of a code

pub record Tables (code : ℕ) (starts positions : List ℕ) : Type 0 where
  pub flat : FlatChecks starts positions (size_n code)
  pub rows : rows_of starts positions ≡ checks_by code
  pub many : length starts ≡ suc (length (checks_by code))
  pub short : Short (checks_by code)

-- of a code whose checks are these
tables-by : (code : ℕ) (rs : Checks) (starts positions : List ℕ) → checks_by code ≡ rs → starts ≡ offsets rs → rows_of starts positions ≡ rs
    → FlatChecks starts positions (size_n code)
    → (n : ℕ) → length rs ≡ n → each n (λ c. leb (get_or starts (c + 1) 0 - get_or starts c 0) 11) ≡ true → Tables code starts positions
tables-by code rs starts positions e s r f n size t = record {
  flat = f;
  rows = r ∙ sym e;
  many = ap length s ∙ offsets-length rs ∙ ap (λ (cs : Checks). suc (length cs)) (sym e);
  short = rw e (short_by rs starts s n size t);
}

-- of a staircase code
stairs-by : (code : ℕ) (c : Code) (starts positions : List ℕ) → checks_by code ≡ checks c → size_n code ≡ block_length c → starts ≡ offsets (checks c)
    → positions ≡ joined (checks c)
    → c.m < 65536 → each c.m (λ k. leb (get_or starts (k + 1) 0 - get_or starts k 0) 11) ≡ true → Tables code starts positions
stairs-by code c starts positions e n s f small t =
    tables-by code (checks c) starts positions e s (rw (s, f) (rows_laid (checks c))) (rw n (laid_flat c starts positions s f small)) c.m (checks_many c) t

pub tables0 : Tables 0 check_starts0 check_bits0
unfolding checks_by size_n check_starts0 each
tables0 = stairs-by 0 n512r12 check_starts0 check_bits0 refl refl (check-starts-right laid0) (check-bits-right laid0) (omega arith) refl

pub tables1 : Tables 1 check_starts1 check_bits1
unfolding checks_by size_n check_starts1 each
tables1 = stairs-by 1 n576r23 check_starts1 check_bits1 refl refl (check-starts-right laid1) (check-bits-right laid1) (omega arith) refl

pub tables2 : Tables 2 check_starts2 check_bits2
unfolding checks_by size_n check_starts2 each
tables2 = stairs-by 2 n512r34 check_starts2 check_bits2 refl refl (check-starts-right laid2) (check-bits-right laid2) (omega arith) refl

-- every number above 2 reads as code 3
pub tables3 : (n : ℕ) → Tables (suc (suc (suc n))) check_start check_bits
unfolding checks_by size_n check_start each
tables3 n = tables-by (suc (suc (suc n))) code174.checks check_start check_bits refl check-start laid flat 83 many refl

pub all_short : (code : ℕ) → Short (checks_by code)
all_short zero = tables0.short
all_short (suc zero) = tables1.short
all_short (suc (suc zero)) = tables2.short
all_short (suc (suc (suc n))) = (tables3 n).short

-- ---- what the line of a check asks, and what it gives

module _ {code : ℕ} {starts positions : List ℕ} (t : Tables code starts positions) (c : ℕ) (word : Word) where
  pub asks : length word ≡ size_n code → c < length (checks_by code) → (m : ℕ) → 256 ≤ m
      → FlatChecks starts positions (length word) × ((c + 1 < length starts) × (length (check_line (rows_of starts positions) word c) ≤ m))
  asks n h m room =
      (rw n t.flat, (omega (arith, t.many), rw t.rows (omega (arith, check-short (checks_by code) word t.short c))))

  pub gives : {out after : List ℕ} {r : ℕ} → Written out 0 (check_line (rows_of starts positions) word c) after r
      → Written out 0 (check_line (checks_by code) word c) after r
  gives {out} {after} {r} w = subst (λ (cs : Checks). Written out 0 (check_line cs word c) after r) t.rows w

-- the line of a reason, once it is known which one it is
pub line_of : (code : ℕ) (word : Word) (reason known : Reason) → reason ≡ known → {out after : List ℕ} {r : ℕ}
    → Written out 0 (reason_line (checks_by code) word known) after r
    → (Written out 0 (reason_line (checks_by code) word reason) after r) × (r ≤ 256)
line_of code word reason known e w = rw e (w, omega (arith, w.end, reason-short (checks_by code) word (all_short code) known))
