use Rattle.upipe_run.proofs.RunLaws.{has_status, settles}
use Rattle.upipe_run.proofs.laws.runs_have_statuses.Goals as goal

pub returns-clause-run : goal.returns-clause-run
returns-clause-run c = has_status

pub returns-clause-no_graph : goal.returns-clause-no_graph
returns-clause-no_graph c = settles
