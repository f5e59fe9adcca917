use Rattle.up_model.proofs.EveryKind.{lawful}
use Rattle.up_model.proofs.laws.sums_count_packets.Goals as goal

pub returns-clause-settled : goal.returns-clause-settled
returns-clause-settled c kind taken within = ((lawful kind).flows within).counts_settled taken

pub returns-clause-whole : goal.returns-clause-whole
returns-clause-whole c kind taken within = ((lawful kind).flows within).counts_whole taken
