use Rattle.upipe_run.proofs.CleanRuns.{are_clean}
use Rattle.upipe_run.proofs.laws.whole_runs_are_clean.Goals as goal

pub returns : goal.returns
returns c = are_clean
