use Rattle.up_model.proofs.EveryKind.{lawful}
use Rattle.up_model.proofs.laws.settled_sums_grow.Goals as goal

pub returns-clause-longer : goal.returns-clause-longer
returns-clause-longer c kind taken more within = ((lawful kind).flows within).sums_longer taken more

pub returns-clause-whole : goal.returns-clause-whole
returns-clause-whole c kind taken more within = ((lawful kind).flows within).sums_whole taken more
