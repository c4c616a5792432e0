-- `picking::better` meets its contract: each way out is one case of a row that is met.
use Rattle.std.proofs.Common.{arith}
use Rattle.picking.proofs.Searches.{below_row, met-skipped, met-only, met_less, met-other}
use Rattle.picking.proofs.better.Goals as goal

pub returns-then-marks-r-ne0-clause-result_value : goal.returns-then-marks-r-ne0-clause-result_value
returns-then-marks-r-ne0-clause-result_value c = met-skipped _ _ _ c.if-marks-r-ne0.true

pub returns-in_default-clause-result_value : goal.returns-in_default-clause-result_value
returns-in_default-clause-result_value c = met-only _ _ _ c.if-marks-r-ne0.false c.in_default.is

pub offset_bounds-loads-q : goal.offset_bounds-loads-q
offset_bounds-loads-q c = omega (arith, below_row c.in-Some.is c.requires.found_below)

pub bounds-loads-q : goal.bounds-loads-q
bounds-loads-q c = below_row c.in-Some.is c.requires.found_below

pub returns-then-loads-r-clause-result_value : goal.returns-then-loads-r-clause-result_value
returns-then-loads-r-clause-result_value c = met_less _ _ _ c.if-marks-r-ne0.false _ c.in-Some.is c.if-loads-r.true

pub returns-clause-result_value : goal.returns-clause-result_value
returns-clause-result_value c = met-other _ _ _ c.if-marks-r-ne0.false _ c.in-Some.is c.if-loads-r.false
