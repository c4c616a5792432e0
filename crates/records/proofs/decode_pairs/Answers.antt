-- `records::decode_pairs` meets its contract: where the check refuses the batch, its answer is the call's, and nothing is written; else the frames are decoded.
-- Assumes nothing.
use Rattle.std.proofs.Common.{sym}
use Rattle.refusal.proofs.Exits.{exit}
use Rattle.batch.proofs.Whole.{fitting, turned_down, carried-out}
use Rattle.records.proofs.decode_pairs.Goals as goal

pub returns-in_err-batch_fault : goal.returns-in_err-batch_fault
returns-in_err-batch_fault c =
    rw (exit c.from_residual.result _ c.from_residual.ensures.1)
    (turned_down _ _ (sym (rw c.of-room.ensures at c.in_err-batch_fault.ensures)))

pub decode_records-requires : goal.decode_records-requires
decode_records-requires c = fitting _ (sym (rw c.of-room.ensures at c.in_ok-batch_fault.ensures))

pub returns : goal.returns
returns c = carried-out _ (sym (rw c.of-room.ensures at c.in_ok-batch_fault.ensures)) _ c.decode_records.ensures
