use Rattle.up_model.proofs.EveryKind.{lawful}
use Rattle.up_model.proofs.laws.options_are_set.Goals as goal

pub returns-clause-admitted : goal.returns-clause-admitted
returns-clause-admitted c kind = (lawful kind).options.admitted

pub returns-clause-set : goal.returns-clause-set
returns-clause-set c kind option setting value is admitted = rw is ((lawful kind).options.set option setting value is admitted)
