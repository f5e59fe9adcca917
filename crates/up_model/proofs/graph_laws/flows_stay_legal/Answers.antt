use Rattle.up_model.proofs.CarriedFlows.{carried_flows_are_legal}
use Rattle.up_model.proofs.LegalFlows.{flows_are_legal, inputs_are_legal, wholly_keeps, so_far_keeps}
use Rattle.up_model.proofs.WellFormed.{are_bounded}
use Rattle.up_model.proofs.FedSources.{sources_legal}
use Rattle.up_model.specs.Meaning.{so_far, wholly, to_sources}
use Rattle.up_model.proofs.graph_laws.flows_stay_legal.Goals as goal

pub returns-clause-put : goal.returns-clause-put
returns-clause-put c pipes given place well legal = flows_are_legal pipes wholly wholly_keeps (are_bounded pipes well) (to_sources pipes given) (sources_legal pipes given legal) place

pub returns-clause-taken : goal.returns-clause-taken
returns-clause-taken c pipes given pipe well legal = inputs_are_legal pipes wholly wholly_keeps (are_bounded pipes well) (to_sources pipes given) (sources_legal pipes given legal) pipe

pub returns-clause-settled_put : goal.returns-clause-settled_put
returns-clause-settled_put c pipes given place well legal = flows_are_legal pipes so_far so_far_keeps (are_bounded pipes well) (to_sources pipes given) (sources_legal pipes given legal) place

pub returns-clause-settled_taken : goal.returns-clause-settled_taken
returns-clause-settled_taken c pipes given pipe well legal = inputs_are_legal pipes so_far so_far_keeps (are_bounded pipes well) (to_sources pipes given) (sources_legal pipes given legal) pipe

pub returns-clause-sources : goal.returns-clause-sources
returns-clause-sources c pipes ends bytes place well below = carried_flows_are_legal pipes well ends bytes place below
