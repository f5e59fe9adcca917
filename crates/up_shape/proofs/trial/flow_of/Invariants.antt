use Rattle.std.proofs.Common.{◌≡◌, ◌++◌, All, drop, map}
use Rattle.up_model.specs.Packet.{IsLegal}
use Rattle.up_shape.specs.Trials.{plain_flow, all_bytes}
use Rattle.up_shape.specs.VecPackets.{plain_of}
use Rattle.up_shape.proofs.trial.flow_of.Given as goal

abbrev pub invariant-loop-bytes : goal.invariant-loop-bytes
invariant-loop-bytes l =
    All (λ p. IsLegal (plain_of p)) l.flow
    × (map plain_of l.flow ++ plain_flow (all_bytes (drop l.bytes-index l.taken)) ≡ plain_flow (all_bytes l.taken))
