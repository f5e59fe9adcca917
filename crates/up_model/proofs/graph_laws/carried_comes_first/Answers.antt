use Rattle.up_model.proofs.Carried.{carried_is_first}
use Rattle.up_model.proofs.graph_laws.carried_comes_first.Goals as goal

pub returns : goal.returns
returns c ends kind bytes more within whole = carried_is_first ends kind bytes more within whole
