use Rattle.up_model.proofs.CarriedFlows.{carried_flows_first}
use Rattle.up_model.proofs.GraphFlows.{so_far-wholly}
use Rattle.up_model.proofs.GrownBytes.{sink_bytes_grow}
use Rattle.up_model.proofs.WellFormed.{are_bounded}
use Rattle.up_model.specs.Meaning.{so_far, wholly}
use Rattle.up_model.proofs.graph_laws.carried_bytes_come_first.Goals as goal

pub returns : goal.returns
returns c pipes ends bytes more sink well within whole =
    sink_bytes_grow pipes so_far wholly so_far-wholly (are_bounded pipes well) _ _ (carried_flows_first pipes well ends bytes more whole) sink within
