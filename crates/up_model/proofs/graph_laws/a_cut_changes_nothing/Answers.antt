use Rattle.up_model.proofs.Ways.{cut_flow}
use Rattle.up_model.proofs.graph_laws.a_cut_changes_nothing.Goals as goal

pub returns : goal.returns
returns c does pipes fed cut all takes place within some = cut_flow pipes does fed cut all takes place within some
