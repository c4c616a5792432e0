-- `stair_counts::count_in` meets its contract: the rows in which the word is apart from its message's encoding are its count (`recounted`). Assumes nothing.
use mathlib.Core.Path.{◌∙◌}
use native.Mathlib.Omega.{arith}
use lib.Seq.{length-take-le}
use Rattle.staircase.specs.Codes.{code_of}
use Rattle.stair_counts.proofs.Recount.{recounted, rows_few}
use Rattle.stair_counts.proofs.count_in.Goals as goal

pub encode-requires : goal.encode-requires
encode-requires c = record {
  message_len = length-take-le c.args.k c.args.hard.now (omega (arith, c.requires.k_value, c.requires.code_in_bounds)) ∙ c.requires.k_value;
  codeword_len = c.requires.word_len;
}

pub count_apart-requires : goal.count_apart-requires
count_apart-requires c = let size = c.encode.auto.codeword ∙ c.requires.word_len in record {
  m_in_bounds = omega (arith, size, c.requires.k_value);
  m_in_bounds_2 = omega (arith, size, c.requires.k_value, c.requires.code_in_bounds);
  m_bound = omega (arith, size, c.requires.k_value, rows_few c.args.code);
}

pub returns : goal.returns
returns c = let size = c.encode.auto.codeword ∙ c.requires.word_len in
    recounted (code_of c.args.code) _ _ _ _ _ c.requires.k_value (omega (arith, size, c.requires.k_value)) c.encode.ensures c.requires.code_in_bounds
    c.count_apart.ensures
