use Rattle.up_model.proofs.EveryKind.{lawful}
use Rattle.up_model.proofs.laws.outputs_are_legal.Goals as goal

pub returns : goal.returns
returns c kind taken within = ((lawful kind).flows within).legal taken
