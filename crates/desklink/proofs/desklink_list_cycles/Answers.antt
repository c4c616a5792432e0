-- `desklink::desklink_list_cycles` meets its contract: the call beneath, its answer told as numbers; no code has many cycles. Assumes nothing.
use native.Mathlib.Omega.{arith}
use Rattle.cycles.specs.Calls.{cycle_refusals, report_by}
use Rattle.cycles.proofs.Codes.{few_cycles}
use Rattle.coded.proofs.Signed.{read_back_lem}
use Rattle.desklink.proofs.Told.{list_told, told_few}
use Rattle.desklink.proofs.desklink_list_cycles.Goals as goal

pub listed_code-requires : goal.listed_code-requires
listed_code-requires c = let start = c in
    rw c.list_cycles.ensures.result_value
    (told_few (cycle_refusals start.args.code start.args.places.now) (report_by start.args.code) _ (omega (arith, few_cycles start.args.code)))

pub returns : goal.returns
returns c = let listed = c.list_cycles in
    record {
      lists = list_told listed.ensures.result_value c.listed_code.ensures (read_back_lem (record { sfits = c.listed_code.type_inv }));
      places_after = listed.ensures.out_after;
    }
