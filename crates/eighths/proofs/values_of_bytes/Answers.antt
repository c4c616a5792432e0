-- `eighths::values_of_bytes` meets its contract: the lengths, then the test of every entry, and then every entry is written. Assumes nothing.

use mathlib.Core.Path.{sym, ◌∙◌}
use lib.ListN.{length}
use Rattle.soft_bytes.specs.Values.{is_least}
use Rattle.eighths.specs.Calls.{some, bytes_refusals, values_of}
use Rattle.eighths.proofs.Judged.{lengths_differ, test-holds, written}
use Rattle.eighths.proofs.values_of_bytes.Goals as goal

pub returns-then-bytes-values : goal.returns-then-bytes-values
unfolding bytes_refusals
returns-then-bytes-values c = let a = c.args in
    let e = lengths_differ (length a.bytes.now) (length a.values.now) 17 (some is_least a.bytes.now) a.values.now
    (values_of a.positive_is_one a.bytes.now) c.if-bytes-values.true in
    record { result_value = e.0; values_after = e.1 }

pub returns-then-some_least : goal.returns-then-some_least
unfolding bytes_refusals
returns-then-some_least c =
    let a = c.args in
    let e = test-holds (length a.bytes.now) (length a.values.now) 17 (some is_least a.bytes.now) a.values.now
    (values_of a.positive_is_one a.bytes.now) c.if-bytes-values.false (sym c.some_least.ensures ∙ c.if-some_least.true) in
    record { result_value = e.0; values_after = e.1 }

pub returns : goal.returns
unfolding bytes_refusals
returns c =
    let a = c.args in
    let e = written (length a.bytes.now) (length a.values.now) 17 (some is_least a.bytes.now) a.values.now
    (values_of a.positive_is_one a.bytes.now) _ c.if-bytes-values.false (sym c.some_least.ensures ∙ c.if-some_least.false)
    c.write_values.ensures in
    record { result_value = e.0; values_after = e.1 }
