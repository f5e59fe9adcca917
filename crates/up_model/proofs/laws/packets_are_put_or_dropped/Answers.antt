use Rattle.up_model.proofs.EveryKind.{puts_or_drops}
use Rattle.up_model.proofs.laws.packets_are_put_or_dropped.Goals as goal

pub returns : goal.returns
returns c = puts_or_drops
