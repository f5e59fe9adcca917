use Rattle.up_model.proofs.EveryKind.{lawful}
use Rattle.up_model.proofs.laws.settled_is_prefix.Goals as goal

pub returns-clause-longer : goal.returns-clause-longer
returns-clause-longer c kind taken more within = ((lawful kind).flows within).longer taken more

pub returns-clause-whole : goal.returns-clause-whole
returns-clause-whole c kind taken more within = ((lawful kind).flows within).whole taken more
