use Rattle.upipe_run.proofs.RunLaws.{completes}
use Rattle.upipe_run.proofs.laws.runs_complete.Goals as goal

pub returns : goal.returns
returns c = completes
