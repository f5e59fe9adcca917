use Rattle.up_model.proofs.Carried.{carried_are_legal}
use Rattle.up_model.proofs.laws.carried_is_legal.Goals as goal

pub returns : goal.returns
returns c = carried_are_legal
