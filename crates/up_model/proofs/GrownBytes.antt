-- What is settled for a sink grows with what the sources carry.
use Rattle.std.proofs.Common.{ℕ, List, length}
use Rattle.up_base.specs.Lists.{IsPrefix}
use Rattle.up_model.proofs.FedSources.{sources_more}
use Rattle.up_model.proofs.GraphFlows.{GrowsTo, AreBounded, flows_grow, taken_grows, written_grows}
use Rattle.up_model.specs.Kinds.{IsWithinBounds, written_of}
use Rattle.up_model.specs.Meaning.{Doing, flow_by, taken_by, to_sources}
use Rattle.up_model.specs.Packet.{Flow}
use Rattle.up_model.specs.declared.pipe.Pipe.{Pipe}

pub sink_bytes_grow : (pipes : List Pipe) (less more : Doing) → GrowsTo less more → AreBounded pipes
    → (given given' : ℕ → Flow) → ((source : ℕ) → IsPrefix (given source) (given' source)) → (sink : Pipe) → IsWithinBounds sink.kind
    → IsPrefix (written_of sink.kind (taken_by pipes (flow_by less pipes (to_sources pipes given)) sink))
    (written_of sink.kind (taken_by pipes (flow_by more pipes (to_sources pipes given')) sink))
sink_bytes_grow pipes less more grows bounded given given' gives sink within =
    let flows = flows_grow pipes less more grows bounded (to_sources pipes given) (to_sources pipes given') (sources_more pipes given given' gives) (length pipes) in
    written_grows sink.kind _ _ within (taken_grows pipes _ _ sink.select sink.input flows)
