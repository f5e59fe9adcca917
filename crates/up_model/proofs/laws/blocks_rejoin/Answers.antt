use Rattle.up_model.proofs.Cuts.{joined-blocks}
use Rattle.up_model.proofs.laws.blocks_rejoin.Goals as goal

pub returns : goal.returns
returns c = joined-blocks
