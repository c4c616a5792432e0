-- `grouping::close_groups` meets its contract. The invariant: all groups are delivered where those that are left are, of the bytes that are left.
use Rattle.std.proofs.Common.{◌≡◌, ◌+◌, ◌*◌, ◌≤◌, ◌++◌, length, take, drop}
use Rattle.grouping.specs.Grouping.{total, delivered}
use Rattle.grouping.proofs.close_groups.Given as goal

abbrev pub invariant-loop-n : goal.invariant-loop-n
invariant-loop-n l = record {
  frames_in : l.at + total (drop l.n-index l.sizes) ≤ length l.clean;
  bits_len : length l.bits ≡ length l.clean * l.k;
  groups_left : delivered l.k l.sizes l.clean l.initial.bits
      ≡ take (l.at * l.k) l.bits ++ delivered l.k (drop l.n-index l.sizes) (drop l.at l.clean) (drop (l.at * l.k) l.bits);
}
