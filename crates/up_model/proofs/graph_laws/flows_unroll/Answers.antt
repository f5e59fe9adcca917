use Rattle.up_model.proofs.Ways.{flow_by-unrolled, flow_by-unique}
use Rattle.up_model.proofs.graph_laws.flows_unroll.Goals as goal

pub returns-clause-meets : goal.returns-clause-meets
returns-clause-meets c does pipes fed place some = flow_by-unrolled pipes does fed place some

pub returns-clause-alone : goal.returns-clause-alone
returns-clause-alone c does pipes fed flows meets place some = flow_by-unique pipes does fed flows meets place some
