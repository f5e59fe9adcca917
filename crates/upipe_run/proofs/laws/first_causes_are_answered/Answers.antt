use Rattle.upipe_run.proofs.AnsweredFirst.{bad_frame_first, too_long_first}
use Rattle.upipe_run.proofs.FirstTold.{bad_frame_answered, too_long_answered}
use Rattle.upipe_run.proofs.laws.first_causes_are_answered.Goals as goal

pub returns-clause-bad_frame : goal.returns-clause-bad_frame
returns-clause-bad_frame c path old new status runs = bad_frame_answered path old new status runs

pub returns-clause-too_long : goal.returns-clause-too_long
returns-clause-too_long c path old new status runs = too_long_answered path old new status runs

pub returns-clause-bad_frame_first : goal.returns-clause-bad_frame_first
returns-clause-bad_frame_first c path old new status asked after runs asked_is after_is = bad_frame_first path old new asked after asked_is after_is status runs

pub returns-clause-too_long_first : goal.returns-clause-too_long_first
returns-clause-too_long_first c path old new status asked after runs asked_is after_is = too_long_first path old new asked after asked_is after_is status runs
