-- Worked examples of what the pipes of a chain put out, and of what its sink is to hold, computed.
use Rattle.std.proofs.Common.{◌≡◌, [], ◌∷◌, Some, None, refl}
use Rattle.std.specs.Prelude.{codes}
use Rattle.up_model.proofs.ExampleChain.{three_pipes, raw_sink, given}
use Rattle.up_model.specs.Meaning.{flow_at, tally_of, sink_bytes}
use Rattle.up_model.specs.Packet.{plain}

-- the source puts out its flow, the `idem` pipe the same, and the sink nothing
pub flows :
    (flow_at three_pipes given 0 ≡ plain (codes "abc") ∷ []) × (flow_at three_pipes given 1 ≡ plain (codes "abc") ∷ [])
    × (flow_at three_pipes given 2 ≡ [])
flows = (refl, refl, refl)

-- no pipe stands after the last
pub beyond : flow_at three_pipes given 3 ≡ []
beyond = refl

pub sink_holds : sink_bytes three_pipes given (raw_sink (Some 1)) ≡ codes "abc"
sink_holds = refl

-- a sink without an input holds nothing
pub no_input : sink_bytes three_pipes given (raw_sink None) ≡ []
no_input = refl

-- one packet was put out, passed on, and taken
pub sums :
    (tally_of three_pipes given 0 ≡ record { taken = 0; put = 1; dropped = 0; cut = 0; gained = 0; lost = 0 })
    × (tally_of three_pipes given 1 ≡ record { taken = 1; put = 1; dropped = 0; cut = 0; gained = 0; lost = 0 })
    × (tally_of three_pipes given 2 ≡ record { taken = 1; put = 0; dropped = 0; cut = 0; gained = 0; lost = 0 })
sums = (refl, refl, refl)
