use Rattle.up_model.proofs.EveryKind.{puts_all}
use Rattle.up_model.proofs.laws.nothing_is_cut.Goals as goal

pub returns : goal.returns
returns c = puts_all
