-- What reading gives: the numbers of the header, and those that lie at the front of a lent array.
use Rattle.std.specs.Prelude.{◌≡◌, List, ℕ, ◌≤◌, length, take}
use Rattle.batch_input.specs.Input.{code_of, rule_of, limit_of, scale_of}
use Rattle.batch_input.specs.declared.Header.{Header}

pub record HeaderOf (s : List ℕ) (h : Header) : Type 0 where
  pub code : h.code ≡ code_of s
  pub rule : h.rule ≡ rule_of s
  pub limit : h.limit ≡ limit_of s
  pub scale : h.scale ≡ scale_of s

pub record Read {A : Type 0} (numbers array : List A) (n : ℕ) : Type 0 where
  pub fits : n ≤ length array
  pub front : take n array ≡ numbers
