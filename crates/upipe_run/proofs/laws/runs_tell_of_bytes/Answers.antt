use Rattle.upipe_run.proofs.FirstTold.{bad_frame_told, too_long_told}
use Rattle.upipe_run.proofs.laws.runs_tell_of_bytes.Goals as goal

pub returns-clause-bad_frame : goal.returns-clause-bad_frame
returns-clause-bad_frame c path old new status runs six = bad_frame_told path old new status runs six

pub returns-clause-too_long : goal.returns-clause-too_long
returns-clause-too_long c path old new status runs eight = too_long_told path old new status runs eight
