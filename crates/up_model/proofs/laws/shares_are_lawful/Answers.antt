use Rattle.up_model.proofs.EveryKind.{lawful}
use Rattle.up_model.proofs.Shares.{share_longer, share_legal}
use Rattle.up_model.specs.Kinds.{fan_out_of}
use Rattle.up_model.proofs.laws.shares_are_lawful.Goals as goal

pub returns-clause-longer : goal.returns-clause-longer
returns-clause-longer c kind = share_longer (fan_out_of kind)

pub returns-clause-legal : goal.returns-clause-legal
returns-clause-legal c kind = share_legal (fan_out_of kind)

pub returns-clause-within : goal.returns-clause-within
returns-clause-within c kind = (lawful kind).stand_in
