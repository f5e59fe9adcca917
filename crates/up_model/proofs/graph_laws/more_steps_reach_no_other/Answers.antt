use Rattle.up_model.proofs.Steps.{enough_steps}
use Rattle.up_model.proofs.graph_laws.more_steps_reach_no_other.Goals as goal

pub returns : goal.returns
returns c test pipes steps place found is = enough_steps test pipes steps place found is
