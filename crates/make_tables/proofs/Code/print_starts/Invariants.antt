-- `make_tables::Code::print_starts` is safe: no check has more than 70000 positions.
use Rattle.std.proofs.Common.{◌≤◌, ◌*◌}
use Rattle.make_tables.proofs.Code.print_starts.Given as goal

abbrev pub invariant-loop-r : goal.invariant-loop-r
invariant-loop-r g l = l.at ≤ 70000 * l.r
