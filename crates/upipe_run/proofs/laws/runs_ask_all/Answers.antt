use Rattle.upipe_run.proofs.RunLaws.{asks_all}
use Rattle.upipe_run.proofs.laws.runs_ask_all.Goals as goal

pub returns : goal.returns
returns c = asks_all
