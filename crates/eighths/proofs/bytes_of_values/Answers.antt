-- `eighths::bytes_of_values` meets its contract: the lengths, then the test of every entry, and then every entry is written. Assumes nothing.

use mathlib.Core.Path.{sym, ◌∙◌}
use mathlib.Core.Bool.{not}
use lib.ListN.{length}
use Rattle.soft_bytes.specs.Values.{passes}
use Rattle.eighths.specs.Calls.{some, values_refusals, bytes_of}
use Rattle.eighths.proofs.Judged.{lengths_differ, test-holds, written}
use Rattle.eighths.proofs.bytes_of_values.Goals as goal

pub returns-then-values-bytes : goal.returns-then-values-bytes
unfolding values_refusals
returns-then-values-bytes c = let a = c.args in
    let e = lengths_differ (length a.values.now) (length a.bytes.now) 18 (some (λ v. not (passes v)) a.values.now) a.bytes.now
    (bytes_of a.positive_is_one a.values.now) c.if-values-bytes.true in
    record { result_value = e.0; bytes_after = e.1 }

pub returns-then-some_not_passing : goal.returns-then-some_not_passing
unfolding values_refusals
returns-then-some_not_passing c =
    let a = c.args in
    let e = test-holds (length a.values.now) (length a.bytes.now) 18 (some (λ v. not (passes v)) a.values.now) a.bytes.now
    (bytes_of a.positive_is_one a.values.now) c.if-values-bytes.false (sym c.some_not_passing.ensures ∙ c.if-some_not_passing.true) in
    record { result_value = e.0; bytes_after = e.1 }

pub returns : goal.returns
unfolding values_refusals
returns c =
    let a = c.args in
    let e = written (length a.values.now) (length a.bytes.now) 18 (some (λ v. not (passes v)) a.values.now) a.bytes.now
    (bytes_of a.positive_is_one a.values.now) _ c.if-values-bytes.false (sym c.some_not_passing.ensures ∙ c.if-some_not_passing.false)
    c.write_bytes.ensures in
    record { result_value = e.0; bytes_after = e.1 }
