use Rattle.up_model.proofs.WellFormed.{fault_is_told}
use Rattle.up_model.proofs.graph_laws.the_first_fault_is_told.Goals as goal

pub returns : goal.returns
returns c pipes fault is = fault_is_told pipes fault is
